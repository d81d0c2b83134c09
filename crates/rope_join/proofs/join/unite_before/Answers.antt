use Rattle.std.proofs.Common.{◌≡◌, ◌≤◌, List, ◌++◌, length, sym, ap, subst, ◌∙◌, arith}
use Rattle.std.proofs.lemmas.List.{append_assoc, length-append}
use Rattle.rope_text.specs.Dense.{IsDenseAfter, last_bytes}
use Rattle.rope_leaf.specs.Tree.{Tree, leaves_of, tree_over}
use Rattle.rope_tree.specs.View.{trees_in}
use Rattle.rope_leaf.specs.Siblings.{gathered, AreLevel, AreOver}
use Rattle.rope_tree.proofs.Gathered.{gathered_over}
use Rattle.rope_tree.proofs.LastCalls.{both_ok}
use Rattle.rope_join.specs.Join.{IsUnion}
use Rattle.rope_join.proofs.Unions.{inner_siblings, inner_union}
use Rattle.rope_join.proofs.join.unite_before.Goals.{After-of}
use Rattle.rope_join.proofs.join.unite_before.Goals as goal

abbrev row : After-of → List Tree
row c = trees_in c.args.nodes ++ c.args.after.nodes.now

two : (c : After-of) → 2 ≤ length (row c)
two c = omega (
  arith,
  c.shares_children.ensures c.if-shares_children.true,
  c.len.ensures,
  length-append (trees_in c.args.nodes) c.args.after.nodes.now,
)

over : (c : After-of) → gathered (row c) ≡ tree_over (row c)
over c = gathered_over (row c) (two c)

level : (c : After-of) → (gathered (row c)).height ≡ c.args.right.now.height
level c = ap (λ t. t.height) (over c) ∙ c.requires.level (two c)

near : (c : After-of) → IsDenseAfter (last_bytes 492 (gathered (row c)).leaves)
    c.args.right.now.leaves
near c = c.requires.near.near (omega (arith, c.requires.level (two c), level c))
    (omega (arith, c.requires.level (two c)))

-- the three rows
all : (c : After-of) → row c ++ c.in-Inner.children.now ≡ trees_in c.args.nodes
    ++ (c.args.after.nodes.now ++ c.of.result.nodes.now)
all c = append_assoc (trees_in c.args.nodes) c.args.after.nodes.now c.in-Inner.children.now
    ∙ ap (λ ts. trees_in c.args.nodes ++ (c.args.after.nodes.now ++ ts)) (sym c.of.ensures.nodes)

pub pack_first-requires-clause-siblings : goal.pack_first-requires-clause-siblings
pack_first-requires-clause-siblings c =
    let e = (goal.at.pack_first-requires-clause-siblings c).After-of in
    subst AreLevel (all e)
    (inner_siblings (gathered (row e)) c.args.right.now (row e) c.in-Inner.children.now (over e)
    c.in-Inner.ensures.is (c.requires.gather.family (two e)) c.in-Inner.ensures.children
    c.requires.join (level e) (near e))

pub returns-clause-union : goal.returns-clause-union
returns-clause-union c =
    let e = (goal.at.returns-clause-union c).After-of in
    both_ok c.pack_first.result _ _
    (λ nodes. IsUnion (gathered (row e)) c.args.right.now (trees_in nodes)) (λ nodes leaves shape.
    inner_union (gathered (row e)) c.args.right.now (row e) c.in-Inner.children.now (over e)
    c.in-Inner.ensures.is (c.requires.gather.family (two e)) c.in-Inner.ensures.children
    c.requires.join (level e) (near e) _
    (leaves ∙ ap leaves_of (sym (all e)))
    (subst (λ ts. AreOver ts (trees_in nodes)) (sym (all e)) shape)) c.pack_first.ensures.leaves
    c.pack_first.ensures.shape
