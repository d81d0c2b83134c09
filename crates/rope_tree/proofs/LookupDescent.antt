-- The invariant of a descent from a node to the leaf that contains an index.
use Rattle.std.proofs.Common.{◌≡◌, ℕ, ◌+◌, ◌-◌, ◌*◌, ◌<◌, ◌≤◌, false, List, [], ◌∷◌, ◌++◌, length, get_or, take, drop, refl, sym, ap, subst, ◌∙◌, arith}
use Rattle.std.specs.List.{concat}
use Rattle.std.proofs.lemmas.List.{append-nil, append_assoc, length-append, get_or-append-add}
use Rattle.rope_text.specs.declared.line_breaks.LineBreaks.{LineBreaks}
use Rattle.rope_text.specs.declared.steps.Steps.{Steps}
use Rattle.rope_text.specs.declared.text_info.TextInfo.{TextInfo}
use Rattle.rope_text.specs.Text.{byte_len}
use Rattle.rope_text.specs.TextInfo.{info_of, info_sum}
use Rattle.rope_text.specs.Cutting.{parts_crlf}
use Rattle.rope_text.proofs.Measures.{IsMeasure-byte_len}
use Rattle.rope_text.proofs.CuttingLaws.{concat-append}
use Rattle.rope_text.proofs.InfoLaws.{info_of-append_apart}
use Rattle.rope_leaf.specs.declared.search.Unit.{Unit}
use Rattle.rope_leaf.specs.Leaves.{AreLeaves, IsSeam}
use Rattle.rope_leaf.specs.Tree.{Tree, text, joined, leaves_of, breaks_of, tree_over, leaf_tree, IsTree}
use Rattle.rope_leaf.specs.Search.{count_of, IsSmall}
use Rattle.rope_leaf.specs.Found.{IsFound}
use Rattle.rope_leaf.proofs.LeafLaws.{seam_of_left, leaves_seam}
use Rattle.rope_leaf.proofs.Descents.{Descends, count_of-sum, count_of-nil, leaves_at, front_leaves, front_info}
use Rattle.rope_leaf.proofs.Infos.{small_info}

-- the node `here` is on the path: the leaves `left` are before it, and it contains the index, as
-- `rest` in its own text
pub record IsOnDescent (unit : Unit) (at : ℕ) (t here : Tree) (rest : ℕ) (before : TextInfo) : Type
    0 where
  pub left : List (List ℕ)
  pub right : List (List ℕ)
  pub whole : t.leaves ≡ left ++ (here.leaves ++ right)
  pub same_breaks : here.breaks ≡ t.breaks
  pub before_is : before ≡ info_of t.breaks (concat left)
  pub place : at ≡ count_of unit before + rest
  pub past : rest < count_of unit (info_of here.breaks (text here))

-- the steps of a descent from a node of one height to a node of another
pub record GoesDown (height low : ℕ) (old new : Steps) : Type 0 where
  pub nodes : new.nodes + low ≡ old.nodes + height
  pub compares : new.compares + 5 * low ≤ old.compares + 5 * height
  pub counted : old.compares + height ≤ new.compares + low
  pub made : new.made ≡ old.made

unfoldable pub at_start : (unit : Unit) (at : ℕ) (t : Tree) (before : TextInfo)
    → ((breaks : LineBreaks) → before ≡ info_of breaks [])
    → at < count_of unit (info_of t.breaks (text t))
    → IsOnDescent unit at t t at before
at_start unit at t before none lt = record {
  left = [];
  right = [];
  whole = sym (append-nil t.leaves);
  same_breaks = refl;
  before_is = none t.breaks;
  place = omega (arith, ap (count_of unit) (none t.breaks), count_of-nil unit t.breaks);
  past = lt;
}

-- the leaves before the next node on the path, and those after it
module _ (ts : List Tree) (k : ℕ) where
  abbrev pub nearer : List (List ℕ) → List (List ℕ)
  nearer left = left ++ leaves_of (take k ts)

  abbrev pub farther : List (List ℕ) → List (List ℕ)
  farther right = leaves_of (drop (k + 1) ts) ++ right

-- one step of the descent
module _ (unit : Unit) (at : ℕ) (t here : Tree) (rest : ℕ) (before : TextInfo) (ts : List Tree)
    (k : ℕ) (child : Tree) (front : TextInfo)
    (i : IsTree t) (w : IsOnDescent unit at t here rest before) (is : here ≡ tree_over ts)
    (d : Descends (breaks_of ts) unit rest ts k child front) where
  pub split_is : t.leaves ≡ nearer ts k w.left ++ (child.leaves ++ farther ts k w.right)
  split_is =
      let own : here.leaves ≡ leaves_of (take k ts)
      ++ (child.leaves ++ leaves_of (drop (k + 1) ts)) =
      ap (λ u. u.leaves) is ∙ subst (λ u. leaves_of ts ≡ leaves_of (take k ts)
      ++ (u.leaves ++ leaves_of (drop (k + 1) ts))) d.child_is (leaves_at ts k child d.within) in
      w.whole ∙ ap (λ xs. w.left ++ (xs ++ w.right)) own ∙ simp append_assoc

  pub sets : t.breaks ≡ breaks_of ts
  sets = sym w.same_breaks ∙ ap (λ u. u.breaks) is

  nearer_apart : parts_crlf (concat w.left) (joined (take k ts)) ≡ false
  nearer_apart =
      let back = child.leaves ++ farther ts k w.right in
      let here_on : t.leaves ≡ w.left ++ (leaves_of (take k ts) ++ back) = split_is
      ∙ append_assoc w.left (leaves_of (take k ts)) back in
      let seam =
      leaves_seam w.left (leaves_of (take k ts) ++ back) (subst AreLeaves here_on i.leaves) in
      let e = concat-append (leaves_of (take k ts)) back in
      (seam_of_left (concat w.left) (joined (take k ts)) (concat back)
      (subst (IsSeam (concat w.left)) e seam)).apart

  pub before_more : info_sum before front ≡ info_of t.breaks (concat (nearer ts k w.left))
  before_more =
      let sum : info_of t.breaks (concat w.left ++ joined (take k ts))
      ≡ info_sum (info_of t.breaks (concat w.left)) (info_of t.breaks (joined (take k ts))) =
      info_of-append_apart t.breaks (concat w.left) (joined (take k ts)) nearer_apart in
      let own : front ≡ info_of t.breaks (joined (take k ts)) = d.front_is
      ∙ ap (λ b. info_of b (joined (take k ts))) (sym sets) in
      ap (λ x. info_sum x front) w.before_is ∙ ap (info_sum (info_of t.breaks (concat w.left))) own
      ∙ sym sum
      ∙ ap (info_of t.breaks) (sym (concat-append w.left (leaves_of (take k ts))))

  pub small_more : IsSmall (info_sum before front)
  small_more =
      let parts : concat t.leaves ≡ concat (nearer ts k w.left)
      ++ concat (child.leaves ++ farther ts k w.right) =
      ap concat split_is ∙ concat-append (nearer ts k w.left)
      (child.leaves ++ farther ts k w.right) in
      rw before_more (small_info t.breaks (concat (nearer ts k w.left))
      (omega (
        arith,
        ap byte_len parts,
        IsMeasure-byte_len.joined (concat (nearer ts k w.left))
            (concat (child.leaves ++ farther ts k w.right)),
        i.fits,
      )))

  unfoldable pub further : IsOnDescent unit at t child (rest - count_of unit front)
      (info_sum before front)
  further = record {
    left = nearer ts k w.left;
    right = farther ts k w.right;
    whole = split_is;
    same_breaks = d.own.same_breaks ∙ sym sets;
    before_is = before_more;
    place = omega (arith, w.place, count_of-sum unit before front, d.not_past);
    past = omega (arith, d.past, d.not_past);
  }

-- the leaf at the end of the path
pub at_end : (unit : Unit) (at : ℕ) (t here : Tree) (rest : ℕ) (before : TextInfo) (leaf : List ℕ)
    → IsTree t → IsOnDescent unit at t here rest before → here ≡ leaf_tree here.breaks leaf
    → IsFound unit at t leaf before
at_end unit at t here rest before [] i w is =
    absurd (omega (
      arith,
      w.past,
      ap (λ u. count_of unit (info_of here.breaks (text u))) is,
      count_of-nil unit here.breaks,
    ))
at_end unit at t here rest before (c ∷ cs) i w is =
    let leaf = c ∷ cs in
    let own : here.leaves ≡ leaf ∷ [] = ap (λ u. u.leaves) is in
    let whole : t.leaves ≡ w.left ++ ((leaf ∷ []) ++ w.right) = w.whole
    ∙ ap (λ xs. w.left ++ (xs ++ w.right)) own in
    let a : AreLeaves (w.left ++ ((leaf ∷ []) ++ w.right)) = subst AreLeaves whole i.leaves in
    let none = front_leaves t.breaks w.left (leaf ∷ []) w.right a 0 (omega arith) in
    let one = front_info t.breaks w.left (leaf ∷ []) w.right a 1 (omega arith) in
    let fronts : take (length w.left + 0) t.leaves ≡ w.left = ap (take (length w.left + 0)) whole
    ∙ none ∙ append-nil w.left in
    let shift : length w.left + 1 ≡ length w.left + 0 + 1 = omega arith in
    let lone : concat (leaf ∷ []) ≡ text here = sym (ap concat own) in
    record {
      index = length w.left + 0;
      within = rw whole (omega (
        arith,
        length-append w.left ((leaf ∷ []) ++ w.right),
        length-append (leaf ∷ []) w.right,
      ));
      leaf_is =
          sym (ap (λ xs. get_or xs (length w.left + 0) []) whole
          ∙ get_or-append-add w.left ((leaf ∷ []) ++ w.right) 0 []);
      before_is = w.before_is ∙ ap (λ xs. info_of t.breaks (concat xs)) (sym fronts);
      not_past = omega (arith, w.place);
      past =
          let total : count_of unit
          (info_of t.breaks (concat (take (length w.left + 0 + 1) t.leaves)))
          ≡ count_of unit (info_sum (info_of t.breaks (concat w.left))
          (info_of t.breaks (concat (leaf ∷ [])))) =
          ap (λ xs. count_of unit (info_of t.breaks (concat (take (length w.left + 0 + 1) xs))))
          whole
          ∙ ap (λ n. count_of unit
          (info_of t.breaks (concat (take n (w.left ++ ((leaf ∷ []) ++ w.right)))))) (sym shift)
          ∙ ap (count_of unit) one in
          let sum =
          count_of-sum unit (info_of t.breaks (concat w.left))
          (info_of t.breaks (concat (leaf ∷ []))) in
          let front = ap (count_of unit) w.before_is in
          let own_count : count_of unit (info_of here.breaks (text here))
          ≡ count_of unit (info_of t.breaks (concat (leaf ∷ []))) =
          ap (λ b. count_of unit (info_of b (text here))) w.same_breaks
          ∙ ap (λ s. count_of unit (info_of t.breaks s)) (sym lone) in
          omega (arith, total, sum, front, own_count, w.past, w.place);
    }
