-- The invariant of a binary search.
use Rattle.std.proofs.Common.{◌≡◌, ℕ, ◌+◌, ◌-◌, ◌/◌, ◌<◌, ◌≤◌, min, List, length, get_or, subst, sym, ◌∙◌, arith}
use Rattle.std.proofs.lemmas.List.{get_or_default}
use Rattle.rope_leaf.specs.Search.{count_of}
use Rattle.rope_text.specs.declared.text_info.TextInfo.{TextInfo}
use Rattle.rope_leaf.specs.declared.search.Unit.{Unit}
use Rattle.rope_text.specs.declared.steps.Steps.{Steps}

-- the number of candidates after c of at most five comparisons
pub data IsRoom (room c : ℕ) : Type 0 where
  all : room ≡ 32 → c ≤ 0 → IsRoom room c
  in16 : room ≡ 16 → c ≤ 1 → IsRoom room c
  in8 : room ≡ 8 → c ≤ 2 → IsRoom room c
  in4 : room ≡ 4 → c ≤ 3 → IsRoom room c
  in2 : room ≡ 2 → c ≤ 4 → IsRoom room c
  one : room ≡ 1 → c ≤ 5 → IsRoom room c

pub at_most_five : (room c : ℕ) → IsRoom room c → c ≤ 5
at_most_five room c (all e l) = omega arith
at_most_five room c (in16 e l) = omega arith
at_most_five room c (in8 e l) = omega arith
at_most_five room c (in4 e l) = omega arith
at_most_five room c (in2 e l) = omega arith
at_most_five room c (one e l) = omega arith

pub some_room : (room c : ℕ) → IsRoom room c → 1 ≤ room
some_room room c (all e l) = omega arith
some_room room c (in16 e l) = omega arith
some_room room c (in8 e l) = omega arith
some_room room c (in4 e l) = omega arith
some_room room c (in2 e l) = omega arith
some_room room c (one e l) = omega arith

pub two_halves : (room c : ℕ) → IsRoom room c → 1 < room → room ≡ room / 2 + room / 2
two_halves room c (all e l) some = omega arith
two_halves room c (in16 e l) some = omega arith
two_halves room c (in8 e l) some = omega arith
two_halves room c (in4 e l) some = omega arith
two_halves room c (in2 e l) some = omega arith
two_halves room c (one e l) some = omega arith

pub less_than_five : (room c : ℕ) → IsRoom room c → 1 < room → c ≤ 4
less_than_five room c (all e l) some = omega arith
less_than_five room c (in16 e l) some = omega arith
less_than_five room c (in8 e l) some = omega arith
less_than_five room c (in4 e l) some = omega arith
less_than_five room c (in2 e l) some = omega arith
less_than_five room c (one e l) some = omega arith

pub half_room : (room c d : ℕ) → IsRoom room c → 1 < room → d ≤ c + 1 → IsRoom (room / 2) d
half_room room c d (all e l) some less = in16 (omega arith) (omega arith)
half_room room c d (in16 e l) some less = in8 (omega arith) (omega arith)
half_room room c d (in8 e l) some less = in4 (omega arith) (omega arith)
half_room room c d (in4 e l) some less = in2 (omega arith) (omega arith)
half_room room c d (in2 e l) some less = one (omega arith) (omega arith)
half_room room c d (one e l) some less = one (omega arith) (omega arith)

-- the index sought is one of `room` indices from `base` on
pub record Halves (totals : List TextInfo) (unit : Unit) (at base room : ℕ)
    (first now : Steps) : Type 0 where
  pub inside : base < length totals
  pub counted : first.compares ≤ now.compares
  pub room_left : IsRoom room (now.compares - first.compares)
  pub unmoved : now.compares ≡ first.compares → base ≡ 0
  pub uncompared : now.compares ≡ first.compares → length totals ≤ room
  pub before : (d : TextInfo) → 0 < base → count_of unit (get_or totals (base - 1) d) ≤ at
  pub past : (d : TextInfo)
      → at < count_of unit (get_or totals (min (base + room) (length totals) - 1) d)
  pub nodes : now.nodes ≡ first.nodes
  pub made : now.made ≡ first.made

-- one more comparison: the lower half remains, or the upper one
module _ (totals : List TextInfo) (unit : Unit) (at base room next : ℕ) (first now later : Steps)
    (h : Halves totals unit at base room first now) (some : 1 < room)
    (within : base + room / 2 < length totals)
    (d : TextInfo) (more : later.compares ≡ now.compares + 1) (nodes : later.nodes ≡ now.nodes)
    (made : later.made ≡ now.made) where
  room_after : IsRoom (room / 2) (later.compares - first.compares)
  room_after =
      half_room room (now.compares - first.compares) (later.compares - first.compares) h.room_left
      some (omega (arith, h.counted))

  even : room ≡ room / 2 + room / 2
  even = two_halves room (now.compares - first.compares) h.room_left some

  same : (e : TextInfo) → get_or totals (base + room / 2 - 1) d
      ≡ get_or totals (base + room / 2 - 1) e
  same e = get_or_default totals (base + room / 2 - 1) d e (omega arith)

  pub passed : next ≡ base + room / 2 → count_of unit (get_or totals (base + room / 2 - 1) d) ≤ at
      → Halves totals unit at next (room / 2) first later
  passed is less = record {
    inside = omega arith;
    counted = omega (arith, h.counted);
    room_left = room_after;
    unmoved = λ e. absurd (omega (arith, h.counted));
    uncompared = λ e. absurd (omega (arith, h.counted));
    before = λ e some_base. (rw (is, ← same e) less);
    past = λ e. subst (λ n. at < count_of unit (get_or totals (min n (length totals) - 1) e))
        (omega (arith, even)) (h.past e);
    nodes = nodes ∙ h.nodes;
    made = made ∙ h.made;
  }

  pub stopped : next ≡ base → at < count_of unit (get_or totals (base + room / 2 - 1) d)
      → Halves totals unit at next (room / 2) first later
  stopped is more_there = record {
    inside = omega (arith, h.inside);
    counted = omega (arith, h.counted);
    room_left = room_after;
    unmoved = λ e. absurd (omega (arith, h.counted));
    uncompared = λ e. absurd (omega (arith, h.counted));
    before = λ e some_base. subst (λ n. count_of unit (get_or totals (n - 1) e) ≤ at) (sym is)
        (h.before e (omega arith));
    past = λ e. subst (λ n. at < count_of unit (get_or totals n e)) (omega arith)
        (subst (λ x. at < count_of unit x) (same e) more_there);
    nodes = nodes ∙ h.nodes;
    made = made ∙ h.made;
  }
