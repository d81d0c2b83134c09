-- The invariant of a step from a node to one of its children.
use Rattle.std.proofs.Common.{◌≡◌, ℕ, zero, suc, ◌+◌, ◌-◌, ◌<◌, ◌≤◌, false, List, [], ◌∷◌, ◌++◌, length, get_or, take, drop, refl, sym, ap, ap₂, subst, ◌∙◌, arith}
use Rattle.std.specs.List.{concat}
use Rattle.std.proofs.lemmas.List.{append-nil, append_assoc, take-append-drop, take_more, take-append-le}
use Rattle.std.proofs.Math.Seq.{take-append-add}
use Rattle.rope_text.specs.declared.line_breaks.LineBreaks.{LineBreaks}
use Rattle.rope_text.specs.declared.text_info.TextInfo.{TextInfo}
use Rattle.rope_text.specs.Text.{byte_len}
use Rattle.rope_text.specs.TextInfo.{info_of, info_sum}
use Rattle.rope_text.specs.Cutting.{parts_crlf}
use Rattle.rope_text.proofs.Measures.{IsMeasure-byte_len}
use Rattle.rope_text.proofs.CuttingLaws.{concat-append}
use Rattle.rope_text.proofs.BreakLaws.{break_ends-nil}
use Rattle.rope_text.proofs.InfoLaws.{same_info, info_of-append_apart}
use Rattle.rope_leaf.specs.declared.search.Unit.{Unit}
use Rattle.rope_leaf.specs.declared.search.Unit.TheVariants.{Byte, Char, CodeUnit, LineBreak}
use Rattle.rope_leaf.specs.Leaves.{AreLeaves, IsSeam}
use Rattle.rope_leaf.specs.Tree.{Tree, text, joined, leaves_of, height_of, breaks_of, leaf_tree, IsTree, IsChild, AreChildren}
use Rattle.rope_leaf.specs.Totals.{HasTotals}
use Rattle.rope_leaf.specs.Search.{count_of, IsSmall}
use Rattle.rope_leaf.specs.Found.{IsFound}
use Rattle.rope_leaf.proofs.LeafLaws.{seam_of_left, leaves_seam}
use Rattle.rope_leaf.proofs.NodeLaws.{leaves_of-append, byte_len-joined, child_at, more_at}
use Rattle.rope_leaf.proofs.Infos.{small_info}

-- a count of joined texts
pub count_of-sum : (unit : Unit) (a b : TextInfo)
    → count_of unit (info_sum a b) ≡ count_of unit a + count_of unit b
count_of-sum Byte a b = refl
count_of-sum Char a b = refl
count_of-sum CodeUnit a b = omega arith
count_of-sum LineBreak a b = refl

pub count_of-nil : (unit : Unit) (breaks : LineBreaks) → count_of unit (info_of breaks []) ≡ 0
count_of-nil Byte breaks = refl
count_of-nil Char breaks = refl
count_of-nil CodeUnit breaks = refl
count_of-nil LineBreak breaks = ap length (break_ends-nil breaks)

-- the counts before an index, as the code computes them
pub front_is : (breaks : LineBreaks) (totals : List TextInfo) (ts : List Tree) (k : ℕ)
    (front : TextInfo) → HasTotals breaks totals ts → k ≤ length totals
    → (k ≡ 0 → (s : LineBreaks) → front ≡ info_of s [])
    → ((d : TextInfo) → 0 < k → front ≡ get_or totals (k - 1) d)
    → front ≡ info_of breaks (joined (take k ts))
front_is breaks totals ts zero front h within first later = first refl breaks
front_is breaks totals ts (suc k) front h within first later =
    let e : suc k - 1 ≡ k = omega arith in
    later front (omega arith) ∙ ap (λ n. get_or totals n front) e
    ∙ h.total_at k front (omega (arith, h.as_many))
    ∙ (let f : k + 1 ≡ suc k = omega arith in ap (λ n. info_of breaks (joined (take n ts))) f)

-- the leaves around those of the k-th child
pub leaves_at : (ts : List Tree) (k : ℕ) (d : Tree) → k < length ts
    → leaves_of ts ≡ leaves_of (take k ts)
    ++ ((get_or ts k d).leaves ++ leaves_of (drop (k + 1) ts))
leaves_at ts k d l =
    let own = append-nil (get_or ts k d).leaves in
    ap leaves_of (sym (take-append-drop (k + 1) ts))
    ∙ leaves_of-append (take (k + 1) ts) (drop (k + 1) ts)
    ∙ ap (λ us. leaves_of us ++ leaves_of (drop (k + 1) ts)) (take_more ts k d l)
    ∙ ap (λ xs. xs ++ leaves_of (drop (k + 1) ts))
    (leaves_of-append (take k ts) (get_or ts k d ∷ []) ∙ ap (λ xs. leaves_of (take k ts) ++ xs) own)
    ∙ append_assoc (leaves_of (take k ts)) (get_or ts k d).leaves (leaves_of (drop (k + 1) ts))

-- the counts of the text up to a leaf of the k-th child
module _ (breaks : LineBreaks) (left own right : List (List ℕ))
    (a : AreLeaves (left ++ (own ++ right))) where
  pub front_leaves : (i : ℕ) → i ≤ length own
      → take (length left + i) (left ++ (own ++ right)) ≡ left ++ take i own
  front_leaves i le = take-append-add left (own ++ right) i
      ∙ ap (λ xs. left ++ xs) (take-append-le i own right le)

  pub front_apart : (i : ℕ) → parts_crlf (concat left) (concat (take i own)) ≡ false
  front_apart i =
      let seam = leaves_seam left (own ++ right) a in
      let rest = concat (drop i own) ++ concat right in
      let e : concat (own ++ right) ≡ concat (take i own) ++ rest =
      concat-append own right ∙ ap (λ xs. concat xs ++ concat right) (sym (take-append-drop i own))
      ∙ ap (λ s. s ++ concat right) (concat-append (take i own) (drop i own))
      ∙ append_assoc (concat (take i own)) (concat (drop i own)) (concat right) in
      (seam_of_left (concat left) (concat (take i own)) rest
      (subst (IsSeam (concat left)) e seam)).apart

  pub front_info : (i : ℕ) → i ≤ length own
      → info_of breaks (concat (take (length left + i) (left ++ (own ++ right))))
      ≡ info_sum (info_of breaks (concat left)) (info_of breaks (concat (take i own)))
  front_info i le =
      ap (λ xs. info_of breaks (concat xs)) (front_leaves i le)
      ∙ ap (info_of breaks) (concat-append left (take i own))
      ∙ info_of-append_apart breaks (concat left) (concat (take i own)) (front_apart i)

-- the total of the k-th child is the sum of the counts before it and its own
pub child_total : (ts : List Tree) (totals : List TextInfo) (k : ℕ) (child : Tree)
    (front all : TextInfo) → AreChildren (breaks_of ts) (height_of ts) ts
    → HasTotals (breaks_of ts) totals ts
    → k < length ts → child ≡ get_or ts k child
    → front ≡ info_of (breaks_of ts) (joined (take k ts)) → all ≡ get_or totals k all
    → all ≡ info_sum front (info_of child.breaks (text child))
child_total ts totals k child front all a h l here before is =
    let own = child_at (breaks_of ts) (height_of ts) ts k child a l (sym here) in
    is ∙ h.total_at k all l ∙ more_at (breaks_of ts) (height_of ts) ts k child a l (sym here)
    ∙ ap₂ info_sum (sym before) (ap (λ b. info_of b (text child)) (sym own.same_breaks))

-- the counts of the child are the difference
pub child_counts : (ts : List Tree) (totals : List TextInfo) (k : ℕ) (child : Tree)
    (front all own : TextInfo) → AreChildren (breaks_of ts) (height_of ts) ts
    → HasTotals (breaks_of ts) totals ts
    → k < length ts → child ≡ get_or ts k child
    → front ≡ info_of (breaks_of ts) (joined (take k ts)) → all ≡ get_or totals k all
    → info_sum front own ≡ all
    → own ≡ info_of child.breaks (text child)
child_counts ts totals k child front all own a h l here before is sum =
    let e = sum ∙ child_total ts totals k child front all a h l here before is in
    same_info own (info_of child.breaks (text child)) (omega (arith, ap (λ i. i.bytes) e))
    (omega (arith, ap (λ i. i.chars) e)) (omega (arith, ap (λ i. i.utf16_surrogates) e))
    (omega (arith, ap (λ i. i.break_count) e))

-- the index is in the k-th child
pub record Descends (breaks : LineBreaks) (unit : Unit) (at : ℕ) (ts : List Tree) (k : ℕ)
    (child : Tree) (front : TextInfo) : Type 0 where
  pub children : AreChildren breaks (height_of ts) ts
  pub within : k < length ts
  pub child_is : get_or ts k child ≡ child
  pub front_is : front ≡ info_of breaks (joined (take k ts))
  pub small : IsSmall front
  pub own : IsChild breaks (height_of ts) child
  pub not_past : count_of unit front ≤ at
  pub past : at < count_of unit front + count_of unit (info_of child.breaks (text child))

pub descends : (unit : Unit) (at : ℕ) (ts : List Tree) (totals : List TextInfo) (k : ℕ)
    (child : Tree) (front : TextInfo)
    → AreChildren (breaks_of ts) (height_of ts) ts → HasTotals (breaks_of ts) totals ts
    → k < length totals → child ≡ get_or ts k child
    → (k ≡ 0 → (s : LineBreaks) → front ≡ info_of s [])
    → ((d : TextInfo) → 0 < k → front ≡ get_or totals (k - 1) d)
    → ((d : TextInfo) → 0 < k → count_of unit (get_or totals (k - 1) d) ≤ at)
    → ((d : TextInfo) → at < count_of unit (get_or totals k d))
    → Descends (breaks_of ts) unit at ts k child front
descends unit at ts totals k child front a h lt is first later not_past past =
    let here : get_or ts k child ≡ child = sym is in
    let breaks = breaks_of ts in
    let l : k < length ts = omega (arith, h.as_many) in
    let f = front_is breaks totals ts k front h (omega arith) first later in
    let own = child_at breaks (height_of ts) ts k child a l here in
    let more = more_at breaks (height_of ts) ts k child a l here in
    record {
      children = a;
      within = l;
      child_is = here;
      front_is = f;
      own = own;
      small = rw f (small_info breaks (joined (take k ts))
          (omega (arith, byte_len-joined ts k, a.fits)));
      not_past = first_front unit at k totals front first later not_past;
      past = let total = ap (count_of unit) (h.total_at k front l ∙ more) in
          let own_counts = ap (λ b. count_of unit (info_of b (text child))) own.same_breaks in
          let fronts = ap (count_of unit) f in
          omega (
            arith,
            past front,
            total,
            own_counts,
            fronts,
            count_of-sum unit (info_of breaks (joined (take k ts))) (info_of breaks (text child)),
          );
    }
  where
    first_front : (unit : Unit) (at k : ℕ) (totals : List TextInfo) (front : TextInfo)
        → (k ≡ 0 → (s : LineBreaks) → front ≡ info_of s [])
        → ((d : TextInfo) → 0 < k → front ≡ get_or totals (k - 1) d)
        → ((d : TextInfo) → 0 < k → count_of unit (get_or totals (k - 1) d) ≤ at)
        → count_of unit front ≤ at
    first_front unit at zero totals front first later not_past =
        rw (first refl (breaks_of []), count_of-nil unit (breaks_of [])) (omega arith)
    first_front unit at (suc k) totals front first later not_past = let e =
        ap (count_of unit) (later front (omega arith)) in
        omega (arith, e, not_past front (omega arith))

-- the result of a search in a leaf
pub found_leaf : (unit : Unit) (at : ℕ) (t : Tree) (leaf : List ℕ) (before : TextInfo)
    → t ≡ leaf_tree t.breaks leaf → ((breaks : LineBreaks) → before ≡ info_of breaks [])
    → at < count_of unit (info_of t.breaks (text t)) → IsFound unit at t leaf before
found_leaf unit at t [] before is none lt =
    absurd (omega (
      arith,
      ap (λ u. count_of unit (info_of t.breaks (text u))) is,
      count_of-nil unit t.breaks,
    ))
found_leaf unit at t (c ∷ cs) before is none lt =
    let leaves : t.leaves ≡ (c ∷ cs) ∷ [] = ap (λ u. u.leaves) is in
    record {
      index = 0;
      within = rw leaves (omega arith);
      leaf_is = rw leaves refl;
      before_is = none t.breaks;
      not_past = omega (arith, ap (count_of unit) (none t.breaks), count_of-nil unit t.breaks);
      past = rw leaves (let e = ap (λ xs. count_of unit (info_of t.breaks (concat xs))) leaves in
          omega (arith, e, lt));
    }

-- the counts before the result are within the bounds of a rope's text
pub small_found : (unit : Unit) (at : ℕ) (t : Tree) (leaf : List ℕ) (before : TextInfo) → IsTree t
    → IsFound unit at t leaf before → IsSmall before
small_found unit at t leaf before i f =
    let parts : concat t.leaves ≡ concat (take f.index t.leaves) ++ concat (drop f.index t.leaves) =
    ap concat (sym (take-append-drop f.index t.leaves))
    ∙ concat-append (take f.index t.leaves) (drop f.index t.leaves) in
    rw f.before_is (small_info t.breaks (concat (take f.index t.leaves))
    (omega (
      arith,
      ap byte_len parts,
      IsMeasure-byte_len.joined (concat (take f.index t.leaves))
          (concat (drop f.index t.leaves)),
      i.fits,
    )))
