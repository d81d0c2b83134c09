-- The bytes that a leaf needs between its neighbours.
use Rattle.std.proofs.Common.{◌≡◌, ℕ, ◌+◌, ◌-◌, ◌<◌, ◌≤◌, min, List, [], ◌∷◌, ◌++◌, length, get_or, take, drop, sym, ap, subst, ◌∙◌, arith}
use Rattle.std.specs.List.{concat, All}
use Rattle.std.proofs.lemmas.List.{append-nil, length-append, take_more, drop_more, take-append-drop}
use Rattle.std.proofs.lemmas.List.Elements.{All-get_or, All-head}
use Rattle.rope_text.specs.declared.line_breaks.LineBreaks.{LineBreaks}
use Rattle.rope_text.specs.Text.{byte_len}
use Rattle.rope_text.specs.Dense.{IsDenseAfter, AreDense, last_bytes}
use Rattle.rope_text.proofs.Measures.{IsMeasure-byte_len}
use Rattle.rope_text.proofs.DenseLaws.{last_bytes-append, last_bytes-some, last_bytes_least, dense_after_half}
use Rattle.rope_leaf.specs.Leaves.{AreLeaves}
use Rattle.rope_leaf.specs.Tree.{Tree, text, joined, leaves_of, leaf_tree, IsChild, AreChildren}
use Rattle.rope_leaf.proofs.LeafLaws.{leaf_sizes, leaves_left, leaves_right}
use Rattle.rope_leaf.proofs.NodeLaws.{leaves_of-append, joined_more}

lone_is : (xs : List (List ℕ)) → length xs ≡ 1 → xs ≡ concat xs ∷ []
lone_is [] one = absurd (omega arith)
lone_is (x ∷ []) one = ap (λ y. y ∷ []) (sym (append-nil x))
lone_is (x ∷ y ∷ xs) one = absurd (omega arith)

-- a child that is a leaf has one leaf
pub one_text : (br : LineBreaks) (t : Tree) → IsChild br 0 t → t.leaves ≡ text t ∷ []
one_text br t c = lone_is t.leaves (omega (arith, c.some, c.tree.lone c.at_height))

leaf_bytes : (br : LineBreaks) (t : Tree) → IsChild br 0 t → 1 ≤ byte_len (text t)
leaf_bytes br t c =
    All-head (λ leaf. 1 ≤ byte_len leaf) (text t) []
    (subst (λ xs. All (λ leaf. 1 ≤ byte_len leaf) xs) (one_text br t c)
    (leaf_sizes t.leaves c.tree.leaves.each))

-- the children up to one, and from it on
module _ (br : LineBreaks) (h : ℕ) (ts : List Tree) (j : ℕ) (a : AreChildren br h ts)
    (lt : j < length ts) where
  abbrev none : Tree
  none = leaf_tree br []

  abbrev own : Tree
  own = get_or ts j none

  own_child : IsChild br h own
  own_child = All-get_or (IsChild br h) ts j none lt a.each

  upto_is : leaves_of (take (j + 1) ts) ≡ leaves_of (take j ts) ++ own.leaves
  upto_is = ap leaves_of (take_more ts j none lt) ∙ leaves_of-append (take j ts) (own ∷ [])
      ∙ ap (λ xs. leaves_of (take j ts) ++ xs) (append-nil own.leaves)

  from_is : leaves_of (drop j ts) ≡ own.leaves ++ leaves_of (drop (j + 1) ts)
  from_is = ap leaves_of (drop_more ts j none lt)

  upto : AreLeaves (leaves_of (take (j + 1) ts))
  upto =
      let parts : leaves_of ts ≡ leaves_of (take (j + 1) ts) ++ leaves_of (drop (j + 1) ts) =
      ap leaves_of (sym (take-append-drop (j + 1) ts))
      ∙ leaves_of-append (take (j + 1) ts) (drop (j + 1) ts) in
      leaves_left (leaves_of (take (j + 1) ts)) (leaves_of (drop (j + 1) ts))
      (subst AreLeaves parts a.leaves)

  from : AreLeaves (leaves_of (drop j ts))
  from =
      let parts : leaves_of ts ≡ leaves_of (take j ts) ++ leaves_of (drop j ts) =
      ap leaves_of (sym (take-append-drop j ts)) ∙ leaves_of-append (take j ts) (drop j ts) in
      leaves_right (leaves_of (take j ts)) (leaves_of (drop j ts)) (subst AreLeaves parts a.leaves)

  pub some_next : 1 ≤ length (leaves_of (drop j ts))
  some_next =
      omega (
        arith,
        ap length from_is,
        length-append own.leaves (leaves_of (drop (j + 1) ts)),
        own_child.some,
      )

  -- half a leaf is enough beside any leaf
  pub half_next_after : (n : ℕ) → 492 ≤ last_bytes n (leaves_of (take (j + 1) ts)) + 491
  half_next_after n =
      let some : 1 ≤ length (leaves_of (take (j + 1) ts)) =
      omega (
        arith,
        ap length upto_is,
        length-append (leaves_of (take j ts)) own.leaves,
        own_child.some,
      ) in
      let least =
      last_bytes_least 492 (leaves_of (take (j + 1) ts)) (omega arith)
      (leaf_sizes (leaves_of (take (j + 1) ts)) upto.each) in
      omega (arith, least, last_bytes-some n 492 (leaves_of (take (j + 1) ts)) some)

  pub half_next_ahead : IsDenseAfter 491 (leaves_of (drop j ts))
  half_next_ahead =
      dense_after_half 491 (leaves_of (drop j ts)) (omega arith)
      (leaf_sizes (leaves_of (drop j ts)) from.each) from.dense

  -- beside a leaf, the bytes that it lacks of the minimum for two are enough
  module _ (leaf : h ≡ 0) (before total least : ℕ)
      (before_is : before ≡ byte_len (joined (take j ts)))
      (total_is : total ≡ byte_len (joined (take (j + 1) ts)))
      (least_is : least ≡ min (492 - (total - before)) 491) where
    own_leaf : IsChild br 0 own
    own_leaf = subst (λ n. IsChild br n own) leaf own_child

    enough : (492 ≤ byte_len (text own) + least)
    enough =
        let more = ap byte_len (joined_more ts j none lt)
        ∙ IsMeasure-byte_len.joined (joined (take j ts)) (text own) in
        omega (arith, more, leaf_bytes br own own_leaf)

    pub leaf_next_after : (n : ℕ) → 492 ≤ last_bytes n (leaves_of (take (j + 1) ts)) + least
    leaf_next_after n =
        rw (
          upto_is,
          one_text br own own_leaf,
          last_bytes-append n (leaves_of (take j ts)) (text own ∷ []),
        ) enough

    pub leaf_next_ahead : IsDenseAfter least (leaves_of (drop j ts))
    leaf_next_ahead =
        let is : leaves_of (drop j ts) ≡ text own ∷ leaves_of (drop (j + 1) ts) = from_is
        ∙ ap (λ xs. xs ++ leaves_of (drop (j + 1) ts)) (one_text br own own_leaf) in
        let dense = subst (λ xs. AreDense xs) is from.dense in
        rw is (omega (arith, enough), dense.1)
