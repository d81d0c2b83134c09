-- Two trees as one.
use Rattle.std.proofs.Common.{◌≡◌, ℕ, ◌+◌, min, max, [], ◌∷◌, length, refl, ap, ◌∙◌, arith, inl, inr}
use Rattle.std.specs.List.{All}
use Rattle.std.proofs.lemmas.Bool.{cases_lt}
use Rattle.std.proofs.lemmas.List.{append-nil}
use Rattle.std.proofs.lemmas.List.Elements.{All-head}
use Rattle.rope_text.specs.declared.line_breaks.LineBreaks.{LineBreaks}
use Rattle.rope_text.specs.Text.{byte_len}
use Rattle.rope_text.proofs.Measures.{IsMeasure-byte_len}
use Rattle.rope_text.proofs.CuttingLaws.{concat-append}
use Rattle.rope_text.proofs.DenseLaws.{last_bytes-some}
use Rattle.rope_leaf.specs.Leaves.{Recuts}
use Rattle.rope_leaf.specs.Tree.{Tree, text, joined, leaves_of, height_of, breaks_of, tree_over, IsTree, IsWide, IsChild, AreChildren}
use Rattle.rope_leaf.specs.Siblings.{AreParts, gathered}
use Rattle.rope_leaf.proofs.TreeLaws.{height_of_is, breaks_of_is, is_tree_over}
use Rattle.rope_leaf.proofs.NodeLaws.{children_of_first}
use Rattle.rope_tree.proofs.EmptyTrees.{no_leaves_of, lone_of_none}
use Rattle.rope_tree.specs.declared.node.Nodes.{Nodes}
use Rattle.rope_tree.specs.declared.node.Nodes.TheVariants.{One, Two}
use Rattle.rope_tree.specs.View.{trees_in}
use Rattle.rope_join.specs.Join.{CanJoin, IsUnion, IsJoin}

pub join_empty_right : (a b t : Tree) → IsTree a → IsTree b → byte_len (text b) ≡ 0 → CanJoin a b
    → t ≡ a → IsJoin a b t
join_empty_right a b t own i empty j e =
    let n = no_leaves_of b i empty in
    let z = lone_of_none b i empty in
    let r : Recuts a.leaves b.leaves a.leaves = record {
      same_text = rw (n, append-nil) refl;
      leaves = own.leaves;
      following = λ _ k dense. dense;
      last = λ some m k. absurd (omega (arith, some, ap length n));
    } in
    rw e (record {
      same_breaks = refl;
      recuts = r;
      least = omega arith;
      most = omega arith;
      below_left = λ _ _. refl;
      below_right = λ l _. absurd (omega arith);
    })

pub join_empty_left : (a b t : Tree) → IsTree a → IsTree b → byte_len (text a) ≡ 0 → CanJoin a b
    → t ≡ b → IsJoin a b t
join_empty_left a b t i own empty j e =
    let n = no_leaves_of a i empty in
    let z = lone_of_none a i empty in
    let r : Recuts a.leaves b.leaves b.leaves = record {
      same_text = rw n refl;
      leaves = own.leaves;
      following = λ some k dense. absurd (omega (arith, some, ap length n));
      last = λ some m k. omega (arith, last_bytes-some m k b.leaves some);
    } in
    rw e (record {
      same_breaks = j.same_breaks;
      recuts = r;
      least = omega arith;
      most = omega arith;
      below_left = λ l _. absurd (omega arith);
      below_right = λ _ _. refl;
    })

-- the higher of the two trees
one_height : (br : LineBreaks) (least most h : ℕ) (t : Tree) → AreParts br least most h (t ∷ [])
    → (t.height ≡ h) × (t.breaks ≡ br)
one_height br least most h t p = let w = All-head (IsWide br (min 12 least) h) t [] p.each in
    (w.at_height, w.same_breaks)

union_height : (a b t : Tree) → IsUnion a b (t ∷ []) → (t.height ≡ max a.height b.height)
    × (t.breaks ≡ a.breaks)
union_height a b t u = elim (cases_lt a.height b.height) [
  | inl l ↦ let o = one_height a.breaks b.width (b.width + 1) b.height t (u.lower l) in
      (omega (arith, o.0), o.1)
  | inr ge ↦ elim (cases_lt b.height a.height) [
    | inl l ↦ let o = one_height a.breaks a.width (a.width + 1) a.height t (u.higher l) in
        (omega (arith, o.0), o.1)
    | inr same ↦
        let e : a.height ≡ b.height = omega arith in
        let o = one_height a.breaks (max a.width b.width) (a.width + b.width) a.height t
        (u.equal e) in
        (omega (arith, o.0), o.1)
  ]
]

join_one : (a b t : Tree) → IsUnion a b (t ∷ []) → IsJoin a b t
join_one a b t u =
    let o = union_height a b t u in
    let h = o.0 in
    record {
      same_breaks = o.1;
      recuts = rw append-nil at u.recuts;
      least = omega arith;
      most = omega arith;
      below_left = λ l _. omega arith;
      below_right = λ l _. omega arith;
    }

-- two results are children at the greater height
two_children : (a b x y : Tree) → IsUnion a b (x ∷ y ∷ [])
    → All (IsChild a.breaks (max a.height b.height)) (x ∷ y ∷ [])
two_children a b x y u = elim (cases_lt a.height b.height) [
  | inl l ↦ let e : max a.height b.height ≡ b.height = omega arith in rw e ((u.lower l).two refl)
  | inr ge ↦ elim (cases_lt b.height a.height) [
    | inl l ↦ let e : max a.height b.height ≡ a.height = omega arith in rw e ((u.higher l).two refl)
    | inr same ↦ let e : a.height ≡ b.height = omega arith in
        let f : max a.height b.height ≡ a.height = omega arith in rw f ((u.equal e).two refl)
  ]
]

module _ (a b x y : Tree) (u : IsUnion a b (x ∷ y ∷ [])) (j : CanJoin a b) where
  new_text : byte_len (joined (x ∷ y ∷ [])) ≡ byte_len (text a) + byte_len (text b)
  new_text = ap byte_len (u.recuts.same_text ∙ concat-append a.leaves b.leaves)
      ∙ IsMeasure-byte_len.joined (text a) (text b)

  root_children : AreChildren (breaks_of (x ∷ y ∷ [])) (height_of (x ∷ y ∷ [])) (x ∷ y ∷ [])
  root_children = children_of_first a.breaks (max a.height b.height) (x ∷ y ∷ []) (record {
    at_least_two = omega arith;
    at_most_24 = omega arith;
    each = two_children a b x y u;
    leaves = u.recuts.leaves;
    fits = omega (arith, new_text, j.fits);
  })

  join_two : (t : Tree) → t ≡ tree_over (x ∷ y ∷ []) → IsJoin a b t
  join_two t e =
      let each = two_children a b x y u in
      let h : t.height ≡ max a.height b.height + 1 = ap (λ s. s.height) e
      ∙ ap (λ n. n + 1) (height_of_is a.breaks (max a.height b.height) (x ∷ y ∷ []) (omega arith)
      each) in
      let l : t.leaves ≡ leaves_of (x ∷ y ∷ []) = ap (λ s. s.leaves) e in
      record {
        same_breaks = ap (λ s. s.breaks) e
            ∙ breaks_of_is a.breaks (max a.height b.height) (x ∷ y ∷ []) (omega arith) each;
        recuts = rw l u.recuts;
        least = omega arith;
        most = omega arith;
        below_left = λ l few. absurd (omega (arith, (u.higher l).full refl (omega arith)));
        below_right = λ l few. absurd (omega (arith, (u.lower l).full refl (omega arith)));
      }

-- one or two of them as one
one_tree : (br : LineBreaks) (least most h : ℕ) (t : Tree) → AreParts br least most h (t ∷ [])
    → IsTree t
one_tree br least most h t p = (All-head (IsWide br (min 12 least) h) t [] p.each).tree

union_tree : (a b t : Tree) → IsUnion a b (t ∷ []) → IsTree t
union_tree a b t u = elim (cases_lt a.height b.height) [
  | inl l ↦ one_tree a.breaks b.width (b.width + 1) b.height t (u.lower l)
  | inr ge ↦ elim (cases_lt b.height a.height) [
    | inl l ↦ one_tree a.breaks a.width (a.width + 1) a.height t (u.higher l)
    | inr same ↦ let e : a.height ≡ b.height = omega arith in
        one_tree a.breaks (max a.width b.width) (a.width + b.width) a.height t (u.equal e)
  ]
]

pub join_tree : (a b t : Tree) (p : Nodes) → IsUnion a b (trees_in p) → CanJoin a b
    → t ≡ gathered (trees_in p) → IsTree t
join_tree a b t (One x) u j e = rw e (union_tree a b x u)
join_tree a b t (Two x y) u j e = rw e (is_tree_over _ _ (x ∷ y ∷ []) (root_children a b x y u j))

pub root_siblings : (a b : Tree) (p : Nodes) → IsUnion a b (trees_in p) → CanJoin a b
    → length (trees_in p) ≡ 2
    → AreChildren (breaks_of (trees_in p)) (height_of (trees_in p)) (trees_in p)
root_siblings a b (One x) u j two = absurd (omega (arith, two))
root_siblings a b (Two x y) u j two = root_children a b x y u j

pub join_root : (a b t : Tree) (p : Nodes) → IsUnion a b (trees_in p) → CanJoin a b
    → t ≡ gathered (trees_in p) → IsJoin a b t
join_root a b t (One x) u j e = rw e (join_one a b x u)
join_root a b t (Two x y) u j e = join_two a b x y u j t e
