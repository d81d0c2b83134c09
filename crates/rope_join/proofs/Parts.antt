-- The nodes of a side of a split tree: a row of children, and a child united with a side of the
-- next one.
use Rattle.std.proofs.Common.{◌≡◌, ℕ, ◌+◌, ◌<◌, ◌≤◌, List, [], ◌∷◌, ◌++◌, length, refl, sym, subst, ◌∙◌, arith}
use Rattle.std.proofs.lemmas.List.{append-nil, length-append}
use Rattle.std.proofs.lemmas.List.Elements.{All-head}
use Rattle.rope_text.specs.declared.line_breaks.LineBreaks.{LineBreaks}
use Rattle.rope_tree.specs.declared.node.Nodes.{Nodes}
use Rattle.rope_tree.specs.declared.node.Nodes.TheVariants.{One}
use Rattle.rope_leaf.specs.Tree.{Tree, text, joined, leaves_of, height_of, breaks_of, tree_over, IsTree, IsChild, AreChildren}
use Rattle.rope_leaf.specs.Siblings.{gathered, AreLevel}
use Rattle.rope_tree.specs.View.{trees_in}
use Rattle.rope_leaf.proofs.TreeLaws.{height_of_is}
use Rattle.rope_leaf.proofs.SiblingLaws.{children_of, one_part}
use Rattle.rope_leaf.proofs.LeafLaws.{all_right}
use Rattle.rope_tree.proofs.Gathered.{is_gathered, gathered_over}
use Rattle.rope_join.specs.Join.{CanJoin, EndsIn, BeginsIn, IsUnion, IsJoin}
use Rattle.rope_join.specs.Cut.{AreGatherable, ArePart, IsFront, IsBack, IsWithFront, IsWithBack}
use Rattle.rope_join.proofs.Unions.{left_parts, right_parts, end_each, end_count, end_siblings, end_union, front_each, front_count, front_siblings, front_union}
use Rattle.rope_join.proofs.Whole.{join_root, join_tree, root_siblings}
use Rattle.rope_join.proofs.Cuts.{CutsAt, gathered_least, before_siblings, after_siblings, front_can_join, front_joined, back_can_join, back_joined}

-- the properties of the nodes, gathered
pub record AreJoined (a b : Tree) (h : ℕ) (row : List Tree) : Type 0 where
  pub gather : AreGatherable row
  pub tree : IsTree (gathered row)
  pub level : 2 ≤ length row → height_of row ≡ h
  pub join : IsJoin a b (gathered row)

-- one tree or two in a row of their own
alone : (a b : Tree) (h : ℕ) (p : Nodes) → CanJoin a b → IsUnion a b (trees_in p)
    → height_of (trees_in p) ≡ h → 1 ≤ length (trees_in p) → length (trees_in p) ≤ 2
    → AreJoined a b h (trees_in p)
alone a b h p j u level some few = record {
  gather = record {
    some = some;
    at_most_24 = omega (arith, few);
    family = λ two. root_siblings a b p u j (omega (arith, few, two));
  };
  tree = join_tree a b (gathered (trees_in p)) p u j refl;
  level = λ _. level;
  join = join_root a b (gathered (trees_in p)) p u j refl;
}

-- more of them, under a node of their own
several : (a b : Tree) (h : ℕ) (row : List Tree) → CanJoin a b → AreLevel row → 2 ≤ length row
    → length row ≤ 24 → height_of row ≡ h → IsUnion a b (tree_over row ∷ []) → AreJoined a b h row
several a b h row j s some few level u =
    let over = gathered_over row some in
    record {
      gather = record {
        some = omega (arith, some);
        at_most_24 = few;
        family = λ _. children_of _ _ row s some few;
      };
      tree = join_tree a b (gathered row) (One (tree_over row)) u j over;
      level = λ _. level;
      join = join_root a b (gathered row) (One (tree_over row)) u j over;
    }

over_leaves : (row : List Tree) → leaves_of (tree_over row ∷ []) ≡ leaves_of row
over_leaves row = append-nil (leaves_of row)

-- after a row
last_in : (ts : List Tree) (t : Tree) → 1 ≤ length ts → length ts ≤ 22 → AreLevel (ts ++ t ∷ [])
    → EndsIn (tree_over (ts ++ t ∷ [])) ts t
last_in ts t some few s =
    let all = ts ++ t ∷ [] in
    let c : AreChildren (breaks_of all) (height_of all) all =
    children_of (breaks_of all) (height_of all) all s
    (omega (arith, some, length-append ts (t ∷ [])))
    (omega (arith, few, length-append ts (t ∷ []))) in
    let own =
    All-head (IsChild (breaks_of all) (height_of all)) t []
    (all_right (IsChild (breaks_of all) (height_of all)) ts (t ∷ []) c.each) in
    record {
      is = refl;
      children =
          subst (λ h. AreChildren (breaks_of all) h all) (sym own.at_height) c;
      above = omega (arith, own.at_height);
    }

joined_after : (br : LineBreaks) (h : ℕ) (a b : Tree) (xs : List Tree) (p : Nodes) → IsChild br h a
    → b.height ≤ h → AreLevel (xs ++ a ∷ []) → CanJoin (gathered (xs ++ a ∷ [])) b
    → IsUnion a b (trees_in p) → length xs ≤ 22
    → AreJoined (gathered (xs ++ a ∷ [])) b h (xs ++ trees_in p)
joined_after br h a b [] p c low s j u few =
    let parts = left_parts br h a b (trees_in p) c low u in
    alone a b h p j u (height_of_is br h (trees_in p) parts.1 parts.0) parts.1 parts.2
joined_after br h a b (x ∷ xs) p c low s j u few =
    let init = x ∷ xs in
    let g = gathered (init ++ a ∷ []) in
    let over = gathered_over (init ++ a ∷ []) (omega (arith, length-append xs (a ∷ []))) in
    let e : EndsIn g init a = rw over (last_in init a (omega arith) few s) in
    let below : b.height < g.height = omega (arith, e.above, low, c.at_height) in
    let row = init ++ trees_in p in
    let n = end_count g b a init g.breaks a.height e.is e.children refl (sym e.above) j below
    (trees_in p) u in
    let t = end_siblings g b a init g.breaks a.height e.is e.children refl (sym e.above) j below
    (trees_in p) u in
    let each =
    end_each g b a init g.breaks a.height e.is e.children refl (sym e.above) j below (trees_in p)
    u in
    let many : 2 ≤ length row = omega (arith, n.2, length-append init (a ∷ [])) in
    let most : length row ≤ 24 = omega (arith, n.3, few, length-append init (a ∷ [])) in
    let level : height_of row ≡ h = height_of_is g.breaks a.height row (omega (arith, many)) each
    ∙ c.at_height in
    several g b h row j t many most level
    (end_union g b a init g.breaks a.height e.is e.children refl (sym e.above) j below (trees_in p)
    u (tree_over row ∷ []) (over_leaves row) (one_part _ _ row t many most (tree_over row) refl))

-- before a row
first_in : (ts : List Tree) (t : Tree) → 1 ≤ length ts → length ts ≤ 22 → AreLevel (t ∷ ts)
    → BeginsIn (tree_over (t ∷ ts)) t ts
first_in ts t some few s = record {
  is = refl;
  children = children_of t.breaks t.height (t ∷ ts) s (omega (arith, some)) (omega (arith, few));
  above = refl;
}

joined_before : (br : LineBreaks) (h : ℕ) (a b : Tree) (ys : List Tree) (p : Nodes) → IsChild br h b
    → a.height ≤ h → AreLevel (b ∷ ys) → CanJoin a (gathered (b ∷ ys)) → IsUnion a b (trees_in p)
    → length ys ≤ 22 → AreJoined a (gathered (b ∷ ys)) h (trees_in p ++ ys)
joined_before br h a b [] p c low s j u few =
    let parts = right_parts br h b a (trees_in p) c (sym j.same_breaks ∙ c.same_breaks) low u in
    rw append-nil (alone a b h p j u (height_of_is br h (trees_in p) parts.1 parts.0) parts.1
    parts.2)
joined_before br h a b (y ∷ ys) p c low s j u few =
    let rest = y ∷ ys in
    let g = gathered (b ∷ rest) in
    let e : BeginsIn g b rest = first_in rest b (omega arith) few s in
    let below : a.height < g.height = omega (arith, e.above, low, c.at_height) in
    let row = trees_in p ++ rest in
    let n = front_count a g b rest g.breaks b.height e.is e.children refl (sym e.above) j below
    (trees_in p) u in
    let t = front_siblings a g b rest g.breaks b.height e.is e.children refl (sym e.above) j below
    (trees_in p) u in
    let each =
    front_each a g b rest g.breaks b.height e.is e.children refl (sym e.above) j below (trees_in p)
    u in
    let many : 2 ≤ length row = omega (arith, n.2) in
    let most : length row ≤ 24 = omega (arith, n.3, few) in
    let level : height_of row ≡ h = height_of_is g.breaks b.height row (omega (arith, many)) each
    ∙ c.at_height in
    several a g h row j t many most level
    (front_union a g b rest g.breaks b.height e.is e.children refl (sym e.above) j below
    (trees_in p) u (tree_over row ∷ []) (over_leaves row)
    (one_part _ _ row t many most (tree_over row) refl))

-- the front that they make of a node, if the children before the split child are a row and the
-- child that is united
pub front_made : (n : Tree) (xs : List Tree) (left t : Tree) (rest : List Tree)
    → CutsAt n (xs ++ left ∷ []) t rest → (at k : ℕ) → at ≡ length (joined (xs ++ left ∷ [])) + k
    → k ≤ length (text t) → (p : Nodes) → IsWithFront left k t (trees_in p)
    → ArePart n (xs ++ trees_in p) × IsFront at n (gathered (xs ++ trees_in p))
    × (t.height ≤ (gathered (xs ++ trees_in p)).height)
front_made n xs left t rest s at k e le p u =
    let all = xs ++ left ∷ [] in
    let many : 1 ≤ length all = omega (arith, length-append xs (left ∷ [])) in
    let g = gathered all in
    let gi = is_gathered all many in
    let c = All-head (IsChild t.breaks t.height) left []
    (all_right (IsChild t.breaks t.height) xs (left ∷ []) s.before) in
    let join = front_can_join n all t rest s at k u.part e le g many gi u.front in
    let j = joined_after t.breaks t.height left u.part xs p c u.front.not_higher
    (before_siblings n all t rest s many) join u.union
    (omega (arith, length-append xs (left ∷ []), s.few)) in (
      record {
        gather = j.gather;
        tree = j.tree;
        below = λ two. omega (arith, j.level two, s.above);
      },
      front_joined n all t rest s at k u.part e le g many gi u.front (gathered (xs ++ trees_in p))
          j.join,
      omega (arith, j.join.least, gathered_least t.breaks t.height all g s.before many gi),
    )

-- the back that they make of a node
pub back_made : (n : Tree) (xs : List Tree) (t right : Tree) (ys : List Tree)
    → CutsAt n xs t (right ∷ ys) → (at k : ℕ) → at ≡ length (joined xs) + k → k ≤ length (text t)
    → (p : Nodes) → IsWithBack t k right (trees_in p)
    → ArePart n (trees_in p ++ ys) × IsBack at n (gathered (trees_in p ++ ys))
    × (t.height ≤ (gathered (trees_in p ++ ys)).height)
back_made n xs t right ys s at k e le p u =
    let all = right ∷ ys in
    let many : 1 ≤ length all = omega arith in
    let g = gathered all in
    let gi = is_gathered all many in
    let c = All-head (IsChild t.breaks t.height) right ys s.after in
    let join = back_can_join n xs t all s at k u.part e le g many gi u.back in
    let j = joined_before t.breaks t.height u.part right ys p c u.back.not_higher
    (after_siblings n xs t all s many) join u.union (omega (arith, s.few)) in (
      record {
        gather = j.gather;
        tree = j.tree;
        below = λ two. omega (arith, j.level two, s.above);
      },
      back_joined n xs t all s at k u.part e le g many gi u.back (gathered (trees_in p ++ ys))
          j.join,
      omega (arith, j.join.least, gathered_least t.breaks t.height all g s.after many gi),
    )
