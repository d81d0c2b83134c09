-- The fields of a list of children after a change.
use Rattle.std.proofs.Common.{◌≡◌, ℕ, zero, suc, ◌+◌, ◌-◌, ◌<◌, ◌≤◌, List, [], ◌∷◌, ◌++◌, length, get_or, set, take, drop, refl, sym, ap, ◌∙◌, arith}
use borrow.Rule.Slice.PartMut.{mid_of, post_of, put_mid}
use Rattle.std.proofs.Math.Seq.{take-set-lt, drop-append_seam, take-append_seam}
use Rattle.std.proofs.lemmas.List.Elements.{All-drop}
use Rattle.std.proofs.lemmas.List.{append-nil, length-append, length-set, length-take, length-take-le, length-drop, take-take, drop-drop, get_or-take, get_or_default, drop-set-lt, drop-append-le, take-append-le, take_all, drop_all}
use Rattle.std.specs.List.{All, insert}
use Rattle.rope_text.specs.declared.text_info.TextInfo.{TextInfo}
use Rattle.rope_text.specs.TextInfo.{info_of, info_sum}
use Rattle.rope_tree.specs.declared.node.Children.TheInside.{Inside}
use Rattle.rope_leaf.specs.Tree.{Tree, text, height_of, breaks_of, AreChildren}
use Rattle.rope_leaf.specs.Totals.{HasTotals}
use Rattle.rope_leaf.specs.Flat.{IsFlat}
use Rattle.rope_tree.specs.Listed.{listed, tallest, IsListed}
use Rattle.rope_leaf.proofs.TreeLaws.{height_of_is, breaks_of_is}
use Rattle.rope_leaf.proofs.TotalLaws.{totals_after}
use Rattle.rope_leaf.proofs.GrownLaws.{set_parts}

pub tallest_above : (ts : List Tree) (k : ℕ) (d : Tree) → k < length ts
    → (get_or ts k d).height + (get_or ts k d).height + 1 ≤ tallest ts
tallest_above [] k d lt = absurd (omega arith)
tallest_above (t ∷ ts) zero d lt = omega arith
tallest_above (t ∷ ts) (suc k) d lt = omega (arith, tallest_above ts k d (omega arith))

-- a child by its index among the nodes
pub seen_at : (a : Inside) (ts : List Tree) (k : ℕ) (d : Tree) → listed a ≡ ts → k < length ts
    → get_or a.nodes k d ≡ get_or ts k (get_or a.nodes k d)
seen_at a ts k d view lt =
    let n = length a.totals in
    let few : k < n = omega (arith, ap length view, length-take n a.nodes) in
    sym (get_or-take n a.nodes k d few) ∙ ap (λ xs. get_or xs k d) view
    ∙ get_or_default ts k d (get_or a.nodes k d) lt

-- other children, with their totals, followed by empty nodes
pub listed_as : (a b : Inside) (ts us : List Tree) → IsListed a → listed a ≡ ts → listed b ≡ us
    → AreChildren (breaks_of ts) (height_of ts) us → b.height ≡ a.height → b.breaks ≡ a.breaks
    → length b.nodes ≡ 24 → HasTotals (breaks_of us) b.totals us
    → All IsFlat (drop (length b.totals) b.nodes) → IsListed b
listed_as a b ts us i view seen g height breaks room totals places =
    let some = g.at_least_two in
    let low : height_of us ≡ height_of ts =
    height_of_is (breaks_of ts) (height_of ts) us (omega arith) g.each in
    let sets : breaks_of us ≡ breaks_of ts =
    breaks_of_is (breaks_of ts) (height_of ts) us (omega arith) g.each in
    record {
      room = room;
      totals_right = rw seen totals;
      above = height ∙ i.above ∙ ap (λ xs. height_of xs + 1) view ∙ ap (λ n. n + 1) (sym low)
          ∙ ap (λ xs. height_of xs + 1) (sym seen);
      same_breaks = breaks ∙ i.same_breaks ∙ ap breaks_of view ∙ sym sets ∙ ap breaks_of (sym seen);
      places = places;
    }

-- one changed child
module _ (a b : Inside) (ts : List Tree) (k : ℕ) (u : Tree) (i : IsListed a) (view : listed a ≡ ts)
    (lt : k < length ts) (g : AreChildren (breaks_of ts) (height_of ts) (set ts k u))
    (height : b.height ≡ a.height) (breaks : b.breaks ≡ a.breaks)
    (nodes : b.nodes ≡ set a.nodes k u)
    (totals : HasTotals (breaks_of (set ts k u)) b.totals (set ts k u)) where
  few : k < length a.totals
  few = omega (arith, lt, i.totals_right.as_many, ap length view)

  as_many : length b.totals ≡ length a.totals
  as_many = omega (arith, totals.as_many, length-set ts k u, i.totals_right.as_many, ap length view)

  pub set_seen : listed b ≡ set ts k u
  set_seen = (rw (as_many, nodes) refl) ∙ take-set-lt (length a.totals) a.nodes k u few
      ∙ ap (λ xs. set xs k u) view

  pub set_listed : IsListed b
  set_listed =
      let following : drop (length b.totals) b.nodes ≡ drop (length a.totals) a.nodes =
      (rw (as_many, nodes) refl) ∙ drop-set-lt (length a.totals) a.nodes k u few in
      listed_as a b ts (set ts k u) i view set_seen g height breaks (ap length nodes
      ∙ length-set a.nodes k u ∙ i.room) totals (rw following i.places)

pub rotated : (p : List Tree) (x : Tree) (m zs : List Tree) → m ≡ p ++ x ∷ []
    → zs ≡ drop (length m - 1) m ++ take (length m - 1) m → zs ≡ x ∷ p
rotated p x m zs e r =
    let n : length m - 1 ≡ length p = omega (arith, ap length e, length-append p (x ∷ [])) in
    r ∙ (rw (n, e, drop-append_seam p (x ∷ []), take-append_seam p (x ∷ [])) refl)

-- the last of some entries is rotated to the front of those from an index on
pub turned : (ys ws : List Tree) (a : ℕ) (x : Tree) (zs : List Tree) → ws ≡ ys ++ x ∷ []
    → a ≤ length ys
    → zs ≡ drop (length (mid_of a (length ws - a) ws) - 1) (mid_of a (length ws - a) ws)
    ++ take (length (mid_of a (length ws - a) ws) - 1) (mid_of a (length ws - a) ws)
    → put_mid a (length ws - a) ws zs ≡ insert ys a x
turned ys ws a x zs e le r =
    let long = length-drop a ws in
    let whole : mid_of a (length ws - a) ws ≡ drop a ys ++ x ∷ [] =
    take_all (length ws - a) (drop a ws) (omega (arith, long)) ∙ ap (drop a) e
    ∙ drop-append-le a ys (x ∷ []) le in
    let now : zs ≡ x ∷ drop a ys = rotated (drop a ys) x (mid_of a (length ws - a) ws) zs whole r in
    let none : post_of a (length ws - a) ws ≡ [] =
    drop_all (length ws - a) (drop a ws) (omega (arith, long)) in
    let front : take a ws ≡ take a ys = ap (take a) e ∙ take-append-le a ys (x ∷ []) le in
    rw (now, none, front, append-nil (x ∷ drop a ys)) refl

-- the last entry is overwritten
pub last_set : (xs : List Tree) (x : Tree) → 1 ≤ length xs
    → set xs (length xs - 1) x ≡ take (length xs - 1) xs ++ x ∷ []
last_set xs x some =
    let n = length xs - 1 in
    set_parts xs n x (omega arith)
    ∙ ap (λ ys. take n xs ++ (x ∷ [] ++ ys)) (drop_all (n + 1) xs (omega arith))

-- a node after the changed one, in the first empty entry
pub put_in_place : (a : Inside) (ts : List Tree) (k : ℕ) (u x : Tree) (n : ℕ) (new : List Tree)
    → IsListed a → listed a ≡ ts → k < length ts → n ≡ length a.totals → n < 24
    → new ≡ insert (take (length (take (n + 1) (set a.nodes k u)) - 1)
    (take (n + 1) (set a.nodes k u))) (k + 1) x → new ≡ insert (set ts k u) (k + 1) x
put_in_place a ts k u x n new i view lt n_is some e =
    let ws = set a.nodes k u in
    let few : k < n = omega (arith, i.totals_right.as_many, ap length view) in
    let long : length (take (n + 1) ws) - 1 ≡ n =
    omega (arith, length-take-le (n + 1) ws (omega (arith, length-set a.nodes k u, i.room))) in
    let front : take n (take (n + 1) ws) ≡ set ts k u = take-take n (n + 1) ws (omega arith)
    ∙ take-set-lt n a.nodes k u few ∙ ap (λ m. set (take m a.nodes) k u) n_is
    ∙ ap (λ xs. set xs k u) view in
    e ∙ ap (λ m. insert (take m (take (n + 1) ws)) (k + 1) x) long
    ∙ ap (λ xs. insert xs (k + 1) x) front

-- one more entry is in use
module _ (a b : Inside) (ts us : List Tree) (k : ℕ) (u : Tree) (n : ℕ) (i : IsListed a)
    (view : listed a ≡ ts) (lt : k < length ts) (g : AreChildren (breaks_of ts) (height_of ts) us)
    (height : b.height ≡ a.height)
    (breaks : b.breaks ≡ a.breaks) (more : length us ≡ n + 1) (n_is : n ≡ length a.totals)
    (nodes : b.nodes ≡ us ++ drop (n + 1) (set a.nodes k u))
    (totals : HasTotals (breaks_of us) b.totals us) where
  pub more_seen : listed b ≡ us
  more_seen = (rw (totals.as_many, nodes) refl)
      ∙ take-append_seam us (drop (n + 1) (set a.nodes k u))

  pub more_listed : IsListed b
  more_listed =
      let few : k < n + 1 = omega (arith, i.totals_right.as_many, ap length view) in
      let following : drop (length b.totals) b.nodes ≡ drop 1 (drop (length a.totals) a.nodes) =
      (rw (totals.as_many, nodes) refl) ∙ drop-append_seam us (drop (n + 1) (set a.nodes k u))
      ∙ drop-set-lt (n + 1) a.nodes k u few ∙ ap (λ m. drop (m + 1) a.nodes) n_is
      ∙ sym (drop-drop 1 (length a.totals) a.nodes) in
      let room : length b.nodes ≡ 24 =
      omega (
        arith,
        ap length nodes,
        length-append us (drop (n + 1) (set a.nodes k u)),
        length-drop (n + 1) (set a.nodes k u),
        length-set a.nodes k u,
        i.room,
        g.at_most_24,
      ) in
      listed_as a b ts us i view more_seen g height breaks room totals
      (rw following (All-drop IsFlat 1 (drop (length a.totals) a.nodes) i.places))

-- the totals after one of the children changed
pub set_totals : (ts : List Tree) (k : ℕ) (child u : Tree) (items seen after : List TextInfo)
    (old new : TextInfo) → AreChildren (breaks_of ts) (height_of ts) ts → k < length ts
    → get_or ts k child ≡ child
    → child.breaks ≡ breaks_of ts → AreChildren (breaks_of ts) (height_of ts) (set ts k u)
    → u.breaks ≡ breaks_of ts → HasTotals (breaks_of ts) seen ts → seen ≡ items
    → old ≡ info_of child.breaks (text child)
    → new ≡ info_of u.breaks (text u) → length after ≡ length seen
    → ((j : ℕ) (d : TextInfo) → j < k → get_or after j d ≡ get_or seen j d)
    → ((j : ℕ) (d : TextInfo) → k ≤ j → j < length seen
    → info_sum (get_or after j d) old ≡ info_sum (get_or seen j d) new)
    → HasTotals (breaks_of (set ts k u)) after (set ts k u)
set_totals ts k child u items seen after old new a lt here sets b now_sets totals is old_is new_is
    len before past =
    let us = set ts k u in
    let was = old_is ∙ ap (λ x. info_of x (text child)) sets in
    let now = new_is ∙ ap (λ x. info_of x (text u)) now_sets in
    let right =
    totals_after (breaks_of ts) (height_of ts) ts us k child u a lt here b refl seen after totals
    len before (rw (was, now) at past) in
    let first : breaks_of us ≡ breaks_of ts =
    breaks_of_is (breaks_of ts) (height_of ts) us (omega (arith, b.at_least_two)) b.each in
    rw first right
