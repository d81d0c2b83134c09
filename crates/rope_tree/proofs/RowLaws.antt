-- Lists of children that grow at their end.
use Rattle.std.proofs.Common.{◌≡◌, ℕ, ◌+◌, ◌-◌, ◌/◌, ◌<◌, List, [], ◌∷◌, ◌++◌, length, get_or, set, take, drop, refl, sym, ap, subst, ◌∙◌, arith, inl, inr}
use Rattle.std.proofs.lemmas.Bool.{cases_lt}
use Rattle.std.proofs.lemmas.List.{append-nil, append_assoc, length-append, length-set, take_all, take_more, take-set-le, take-append-le, take-append-drop, get_or-set_same, drop_all, drop-append-le, drop-set-lt, drop-drop}
use Rattle.std.proofs.lemmas.List.Elements.{All-nil, All-head, All-drop}
use Rattle.std.proofs.Math.Seq.{take-append_seam, take-append-add, drop-append-add}
use Rattle.rope_text.specs.declared.line_breaks.LineBreaks.{LineBreaks}
use Rattle.rope_text.specs.declared.text_info.TextInfo.{TextInfo}
use Rattle.rope_text.specs.TextInfo.{info_of, info_sum}
use Rattle.rope_text.proofs.InfoLaws.{info_of-append_apart}
use Rattle.rope_leaf.specs.Leaves.{AreLeaves}
use Rattle.rope_leaf.specs.Tree.{Tree, text, joined, leaves_of, height_of, breaks_of, IsChild, AreChildren}
use Rattle.rope_leaf.specs.Siblings.{AreSiblings}
use Rattle.rope_leaf.specs.Totals.{HasTotals, IsTotalOf}
use Rattle.rope_leaf.specs.Search.{IsSmall}
use Rattle.rope_leaf.specs.Flat.{IsFlat}
use Rattle.rope_tree.specs.NewList.{NewList, nodes_in, IsNewList}
use Rattle.rope_leaf.proofs.LeafLaws.{leaves_seam, all_right, no_leaves}
use Rattle.rope_leaf.proofs.Infos.{small_info}
use Rattle.rope_leaf.proofs.NodeLaws.{leaves_of-append, joined-append, joined_one, totals_more, children_of_first}
use Rattle.rope_leaf.proofs.SiblingLaws.{byte_len-append, siblings_left}
use Rattle.rope_leaf.proofs.Descents.{front_is}

-- the counts with one more tree
pub counts_more : (b : LineBreaks) (xs : List Tree) (x : Tree)
    → AreLeaves (leaves_of (xs ++ x ∷ [])) → info_of b (joined (xs ++ x ∷ []))
    ≡ info_sum (info_of b (joined xs)) (info_of b (text x))
counts_more b xs x a =
    let e : leaves_of (xs ++ x ∷ []) ≡ leaves_of xs ++ x.leaves = leaves_of-append xs (x ∷ [])
    ∙ ap (λ l. leaves_of xs ++ l) (append-nil x.leaves) in
    let apart = (leaves_seam (leaves_of xs) x.leaves (subst AreLeaves e a)).apart in
    ap (info_of b) (joined-append xs (x ∷ []) ∙ ap (λ l. joined xs ++ l) (joined_one x))
    ∙ info_of-append_apart b (joined xs) (text x) apart

-- the counts of all trees, by the set of line breaks of these trees and others
pub front_counts : (xs ys : List Tree) (before : TextInfo) → IsTotalOf xs before
    → before ≡ info_of (breaks_of (xs ++ ys)) (joined xs)
front_counts [] ys before is = is.none refl (breaks_of ys)
front_counts (t ∷ ts) ys before is = is.all (omega arith)

-- the last total of a list counts all its nodes
pub last_counts_all : (a : NewList) (m : ℕ) (total : TextInfo) → IsNewList a → m ≡ length a.totals
    → (m ≡ 0 → (s : LineBreaks) → total ≡ info_of s [])
    → ((d : TextInfo) → 0 < m → total ≡ get_or a.totals (m - 1) d) → IsTotalOf (nodes_in a) total
last_counts_all a m total i e first later =
    let ts = nodes_in a in
    let many : m ≡ length ts = e ∙ i.totals_right.as_many in
    record {
      none = λ z. first (omega (arith, many, z));
      all = λ some. front_is (breaks_of ts) a.totals ts m total i.totals_right (omega (arith, e))
          first later
          ∙ ap (λ us. info_of (breaks_of ts) (joined us)) (take_all m ts (omega (arith, many)));
    }

-- the totals stay correct with one more tree after them
kept : (x : Tree) (xs : List Tree) (totals : List TextInfo) → HasTotals (breaks_of xs) totals xs
    → HasTotals (breaks_of (xs ++ x ∷ [])) totals xs
kept x [] totals h = record { as_many = h.as_many; total_at = λ k d p. absurd (omega arith) }
kept x (t ∷ ts) totals h = h

-- the counts with one more tree
pub record AddsTree (xs : List Tree) (x : Tree) (before info : TextInfo) : Type 0 where
  pub small_before : IsSmall before
  pub small_own : IsSmall info
  pub small_sum : IsSmall (info_sum before info)
  pub sum : info_of (breaks_of (xs ++ x ∷ [])) (joined (xs ++ x ∷ [])) ≡ info_sum before info

-- the sum is that of all trees
pub total_more : (xs : List Tree) (x : Tree) (ys : List Tree) (total : TextInfo) → ys ≡ xs ++ x ∷ []
    → total ≡ info_of (breaks_of (xs ++ x ∷ [])) (joined (xs ++ x ∷ [])) → IsTotalOf ys total
total_more xs x ys total is counts = record {
  none = λ empty. absurd (omega (arith, ap length is, length-append xs (x ∷ [])));
  all = λ some. rw is counts;
}

module _ (xs : List Tree) (x : Tree)
    (s : AreSiblings (breaks_of (xs ++ x ∷ [])) (height_of (xs ++ x ∷ [])) (xs ++ x ∷ [])) where
  own : IsChild (breaks_of (xs ++ x ∷ [])) (height_of (xs ++ x ∷ [])) x
  own =
      let P = IsChild (breaks_of (xs ++ x ∷ [])) (height_of (xs ++ x ∷ [])) in
      All-head P x [] (all_right P xs (x ∷ []) s.each)

  pub adds_tree : (before info : TextInfo) → IsTotalOf xs before → info ≡ info_of x.breaks (text x)
      → AddsTree xs x before info
  adds_tree before info is counted =
      let b = breaks_of (xs ++ x ∷ []) in
      let front = front_counts xs (x ∷ []) before is in
      let mine : info ≡ info_of b (text x) = counted
      ∙ ap (λ br. info_of br (text x)) own.same_breaks in
      let whole : info_of b (joined (xs ++ x ∷ [])) ≡ info_sum before info =
      counts_more b xs x s.leaves ∙ (rw (front, mine) refl) in
      record {
        small_before =
            rw front (small_info b (joined xs)
            (omega (arith, byte_len-append xs (x ∷ []), s.fits)));
        small_own = rw mine (small_info b (text x) own.tree.fits);
        small_sum = subst IsSmall whole (small_info b (joined (xs ++ x ∷ [])) s.fits);
        sum = whole;
      }

  -- the list with one more tree
  module _ (a b : NewList) (n : ℕ) (total : TextInfo) (i : IsNewList a) (view : nodes_in a ≡ xs)
      (room : length xs < 24) (n_is : n ≡ length a.totals)
      (totals : b.totals ≡ a.totals ++ total ∷ [])
      (nodes : b.nodes ≡ set a.nodes n x) (total_is : total
      ≡ info_of (breaks_of (xs ++ x ∷ [])) (joined (xs ++ x ∷ []))) where
    many : n ≡ length xs
    many = omega (arith, ap length view, i.totals_right.as_many)

    longer : length b.totals ≡ n + 1
    longer = omega (arith, ap length totals, length-append a.totals (total ∷ []))

    pub more_in : nodes_in b ≡ xs ++ x ∷ []
    more_in =
        let ys = set a.nodes n x in
        let lt : n < length ys = omega (arith, many, length-set a.nodes n x, i.room) in
        let front : take n ys ≡ xs = take-set-le n a.nodes n x (omega arith)
        ∙ ap (λ m. take m a.nodes) n_is ∙ view in
        let last : get_or ys n x ≡ x =
        get_or-set_same a.nodes n x x (omega (arith, many, i.room)) in
        (rw (longer, nodes) refl) ∙ take_more ys n x lt ∙ (rw (front, last) refl)

    more_totals : HasTotals (breaks_of (xs ++ x ∷ [])) b.totals (xs ++ x ∷ [])
    more_totals =
        let ts = xs ++ x ∷ [] in
        let len = length-append xs (x ∷ []) in
        let front : take n ts ≡ xs = ap (λ m. take m ts) many ∙ take-append_seam xs (x ∷ []) in
        let whole : take (n + 1) ts ≡ ts = take_all (n + 1) ts (omega (arith, many, len)) in
        let was : HasTotals (breaks_of ts) a.totals xs =
        kept x xs a.totals (rw view at i.totals_right) in
        let more =
        totals_more (breaks_of ts) ts n a.totals total (omega (arith, many, len)) (rw front was)
        (rw whole total_is) in
        rw (totals) (rw whole at more)

    pub is_new_list_more : IsNewList b
    is_new_list_more =
        let following : drop (length b.totals) b.nodes ≡ drop 1 (drop (length a.totals) a.nodes) =
        (rw (longer, nodes) refl) ∙ drop-set-lt (n + 1) a.nodes n x (omega arith)
        ∙ ap (λ m. drop (m + 1) a.nodes) n_is ∙ sym (drop-drop 1 (length a.totals) a.nodes) in
        record {
          room = ap length nodes ∙ length-set a.nodes n x ∙ i.room;
          totals_right = rw more_in more_totals;
          places = rw following (All-drop IsFlat 1 (drop (length a.totals) a.nodes) i.places);
        }

-- the first of some adjacent trees
pub front_siblings : (xs ys : List Tree)
    → AreSiblings (breaks_of (xs ++ ys)) (height_of (xs ++ ys)) (xs ++ ys)
    → AreSiblings (breaks_of xs) (height_of xs) xs
front_siblings [] ys s = record {
  each = All-nil (IsChild (breaks_of []) 0);
  leaves = no_leaves;
  fits = omega arith;
}
front_siblings (x ∷ xs) ys s = siblings_left _ _ (x ∷ xs) ys s

pub siblings_of : (b : LineBreaks) (h : ℕ) (ts : List Tree) → AreChildren b h ts
    → AreSiblings b h ts
siblings_of b h ts a = record { each = a.each; leaves = a.leaves; fits = a.fits }

-- the first of some trees, by their model
pub part_siblings : (whole us more ts : List Tree)
    → AreSiblings (breaks_of whole) (height_of whole) whole → whole ≡ us ++ more → ts ≡ us
    → AreSiblings (breaks_of ts) (height_of ts) ts
part_siblings whole us more ts s e f =
    let p : List Tree → Type 0 = λ l. AreSiblings (breaks_of l) (height_of l) l in
    subst p (sym f) (front_siblings us more (subst p e s))

-- the trees up to the next one of a list
pub next_siblings : (xs ys : List Tree) (i : ℕ) (x : Tree) (ts : List Tree)
    → AreSiblings (breaks_of (xs ++ ys)) (height_of (xs ++ ys)) (xs ++ ys) → i < length ys
    → get_or ys i x ≡ x → ts ≡ xs ++ take i ys
    → AreSiblings (breaks_of (ts ++ x ∷ [])) (height_of (ts ++ x ∷ [])) (ts ++ x ∷ [])
next_siblings xs ys i x ts s lt here e =
    let us = (xs ++ take i ys) ++ x ∷ [] in
    let more : take (i + 1) ys ≡ take i ys ++ x ∷ [] = take_more ys i x lt
    ∙ ap (λ u. take i ys ++ u ∷ []) here in
    let whole : xs ++ ys ≡ us ++ drop (i + 1) ys =
    ap (λ l. xs ++ l) (sym (take-append-drop (i + 1) ys) ∙ ap (λ l. l ++ drop (i + 1) ys) more)
    ∙ sym (append_assoc xs (take i ys ++ x ∷ []) (drop (i + 1) ys))
    ∙ ap (λ l. l ++ drop (i + 1) ys) (sym (append_assoc xs (take i ys) (x ∷ []))) in
    part_siblings (xs ++ ys) us (drop (i + 1) ys) (ts ++ x ∷ []) s whole (ap (λ l. l ++ x ∷ []) e)

-- the first trees of two lists, and the rest
take_both : (n : ℕ) (xs ys : List Tree) → take n (xs ++ ys) ≡ take n xs ++ take (n - length xs) ys
take_both n xs ys = elim (cases_lt n (length xs)) [
  | inl l ↦
      let none : n - length xs ≡ 0 = omega arith in
      take-append-le n xs ys (omega arith)
      ∙ sym (ap (λ m. take n xs ++ take m ys) none ∙ append-nil (take n xs))
  | inr ge ↦
      let more : n ≡ length xs + (n - length xs) = omega arith in
      ap (λ m. take m (xs ++ ys)) more ∙ take-append-add xs ys (n - length xs)
      ∙ ap (λ l. l ++ take (n - length xs) ys) (sym (take_all n xs (omega arith)))
]

drop_both : (n : ℕ) (xs ys : List Tree) → drop n (xs ++ ys) ≡ drop n xs ++ drop (n - length xs) ys
drop_both n xs ys = elim (cases_lt n (length xs)) [
  | inl l ↦
      let none : n - length xs ≡ 0 = omega arith in
      drop-append-le n xs ys (omega arith) ∙ sym (ap (λ m. drop n xs ++ drop m ys) none)
  | inr ge ↦
      let more : n ≡ length xs + (n - length xs) = omega arith in
      ap (λ m. drop m (xs ++ ys)) more ∙ drop-append-add xs ys (n - length xs)
      ∙ ap (λ l. l ++ drop (n - length xs) ys) (sym (drop_all n xs (omega arith)))
]

-- three lists split in the middle
module _ (xs ys zs : List Tree) (n m k : ℕ) (half : n ≡ (length xs + length ys + length zs) / 2)
    (past : m ≡ n - length xs) (later : k ≡ m - length ys) where
  middle : n ≡ length (xs ++ (ys ++ zs)) / 2
  middle = half ∙ ap (λ l. l / 2) (omega (arith, length-append xs (ys ++ zs), length-append ys zs))

  pub front_row : (us vs ws : List Tree) → us ≡ take n xs → vs ≡ take m ys → ws ≡ take k zs
      → us ++ (vs ++ ws) ≡ take (length (xs ++ (ys ++ zs)) / 2) (xs ++ (ys ++ zs))
  front_row us vs ws a b c =
      (rw (a, b, c, later, past) refl)
      ∙ ap (λ l. take n xs ++ l) (sym (take_both (n - length xs) ys zs))
      ∙ sym (take_both n xs (ys ++ zs)) ∙ ap (λ l. take l (xs ++ (ys ++ zs))) middle

  pub back_row : (us vs ws : List Tree) → us ≡ drop n xs → vs ≡ drop m ys → ws ≡ drop k zs
      → us ++ (vs ++ ws) ≡ drop (length (xs ++ (ys ++ zs)) / 2) (xs ++ (ys ++ zs))
  back_row us vs ws a b c =
      (rw (a, b, c, later, past) refl)
      ∙ ap (λ l. drop n xs ++ l) (sym (drop_both (n - length xs) ys zs))
      ∙ sym (drop_both n xs (ys ++ zs)) ∙ ap (λ l. drop l (xs ++ (ys ++ zs))) middle

-- children with equal models
pub children_seen : (b : LineBreaks) (h : ℕ) (ts us : List Tree) → us ≡ ts → AreChildren b h ts
    → AreChildren (breaks_of us) (height_of us) us
children_seen b h ts us e a = rw e (children_of_first b h ts a)
