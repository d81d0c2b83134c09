-- The child that takes a text.
use Rattle.std.proofs.Common.{◌≡◌, ℕ, ◌+◌, ◌-◌, ◌<◌, ◌≤◌, Bool, true, false, inl, inr, List, length, get_or, take, drop, refl, sym, subst, ap, ◌∙◌, arith}
use Rattle.std.proofs.lemmas.Bool.{cases_lt}
use Rattle.std.proofs.lemmas.List.{take_all, length-drop}
use Rattle.rope_text.specs.declared.line_breaks.LineBreaks.{LineBreaks}
use Rattle.rope_text.specs.declared.text_info.TextInfo.{TextInfo}
use Rattle.rope_text.specs.TextInfo.{info_of}
use Rattle.rope_leaf.specs.Tree.{Tree, text, joined, leaves_of, height_of, breaks_of, IsChild, AreChildren}
use Rattle.rope_leaf.specs.Totals.{HasTotals}
use Rattle.rope_leaf.specs.Insert.{MayInsert, GoesIn}
use Rattle.rope_leaf.proofs.LeafLaws.{leaves_le}
use Rattle.rope_leaf.proofs.TreeLaws.{is_wide_over}
use Rattle.rope_leaf.proofs.NodeLaws.{child_at}
use Rattle.rope_leaf.proofs.InsertLaws.{begins_some}

-- the last total counts the whole text
pub last_total : (breaks : LineBreaks) (totals : List TextInfo) (ts : List Tree)
    → HasTotals breaks totals ts → 1 ≤ length ts → (d : TextInfo)
    → get_or totals (length totals - 1) d ≡ info_of breaks (joined ts)
last_total breaks totals ts h some d =
    let e : length totals - 1 + 1 ≡ length ts = omega (arith, h.as_many) in
    h.total_at (length totals - 1) d (omega (arith, h.as_many))
    ∙ ap (λ n. info_of breaks (joined (take n ts))) e
    ∙ ap (λ us. info_of breaks (joined us)) (take_all (length ts) ts (omega arith))

-- an inner node has some text
pub inner_some : (breaks : LineBreaks) (h : ℕ) (ts : List Tree) → AreChildren breaks h ts
    → 1 ≤ length (joined ts)
inner_some breaks h ts a =
    omega (
      arith,
      (is_wide_over breaks 2 h ts a a.at_least_two).some,
      leaves_le (leaves_of ts) a.leaves.each,
    )

-- a character follows the position before an LF
pub right_within : (t : Tree) (at : ℕ) (s : List ℕ) (to_right : Bool) → MayInsert t at s to_right
    → to_right ≡ true → at < length (text t)
right_within t at s to_right may right =
    omega (arith, begins_some (drop at (text t)) (may.right right), length-drop at (text t))

-- the character that the child must contain is in the text
pub holds_within : (at held n : ℕ) (to_right : Bool) → at ≤ n → 1 ≤ n → (to_right ≡ true → at < n)
    → (to_right ≡ true → held ≡ at) → (to_right ≡ false → at ≡ 0 → held ≡ 0)
    → (to_right ≡ false → 0 < at → held + 1 ≡ at) → held < n
holds_within at held n true within some inside right first left =
    omega (arith, right refl, inside refl)
holds_within at held n false within some inside right first left = elim (cases_lt 0 at) [
  | inl l ↦ omega (arith, left refl l)
  | inr z ↦ omega (arith, first refl (omega arith))
]

pub held_within : (t : Tree) (at held : ℕ) (s : List ℕ) (to_right : Bool) → at ≤ length (text t)
    → 1 ≤ length (text t) → MayInsert t at s to_right
    → (to_right ≡ true → held ≡ at) → (to_right ≡ false → at ≡ 0 → held ≡ 0)
    → (to_right ≡ false → 0 < at → held + 1 ≡ at) → held < length (text t)
held_within t at held s to_right within some may right first left =
    holds_within at held (length (text t)) to_right within some (right_within t at s to_right may)
    right first left

pub goes_in : (at held front n : ℕ) (to_right : Bool) → front ≤ held → held < front + n
    → (to_right ≡ true → held ≡ at) → (to_right ≡ false → at ≡ 0 → held ≡ 0)
    → (to_right ≡ false → 0 < at → held + 1 ≡ at) → (front ≤ at) × GoesIn at (at - front) n to_right
goes_in at held front n true past within right first left =
    let e = right refl in
    (omega arith, record { within = omega arith; inside = λ _. omega arith; outside = λ f. cc })
goes_in at held front n false past within right first left = elim (cases_lt 0 at) [
  | inl l ↦ let e = left refl l in (
    omega arith,
    record {
      within = omega arith;
      inside = λ f. cc;
      outside = λ _. inr (omega arith);
    },
  )
  | inr z ↦ let e = first refl (omega arith) in (
    omega arith,
    record {
      within = omega arith;
      inside = λ f. cc;
      outside = λ _. inl (omega arith);
    },
  )
]

-- the child that takes a text
pub record Takes (ts : List Tree) (k : ℕ) (child : Tree) (at i : ℕ) (to_right : Bool) : Type 0 where
  pub children : AreChildren (breaks_of ts) (height_of ts) ts
  pub within : k < length ts
  pub child_is : get_or ts k child ≡ child
  pub own : IsChild (breaks_of ts) (height_of ts) child
  pub place : at ≡ length (joined (take k ts)) + i
  pub goes : GoesIn at i (length (text child)) to_right

pub takes : (ts : List Tree) (k : ℕ) (child : Tree) (at i : ℕ) (to_right : Bool)
    → AreChildren (breaks_of ts) (height_of ts) ts → k < length ts → child ≡ get_or ts k child
    → at ≡ length (joined (take k ts)) + i
    → ((d : Tree) → GoesIn at i (length (text (get_or ts k d))) to_right)
    → Takes ts k child at i to_right
takes ts k child at i to_right a lt is place goes =
    let here : get_or ts k child ≡ child = sym is in
    record {
      children = a;
      within = lt;
      child_is = here;
      own = child_at (breaks_of ts) (height_of ts) ts k child a lt here;
      place = place;
      goes = subst (λ u. GoesIn at i (length (text u)) to_right) here (goes child);
    }
