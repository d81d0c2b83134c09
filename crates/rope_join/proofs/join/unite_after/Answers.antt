use Rattle.std.proofs.Common.{◌≡◌, ◌≤◌, List, ◌++◌, length, sym, ap, ◌∙◌, arith}
use Rattle.std.proofs.lemmas.List.{length-append}
use Rattle.rope_text.specs.Dense.{IsDenseAfter, last_bytes}
use Rattle.rope_leaf.specs.Tree.{Tree, height_of, breaks_of, tree_over}
use Rattle.rope_tree.specs.View.{trees_in}
use Rattle.rope_leaf.specs.Siblings.{gathered, AreSiblings}
use Rattle.rope_tree.proofs.Gathered.{gathered_over}
use Rattle.rope_tree.proofs.LastCalls.{both_ok}
use Rattle.rope_join.specs.Join.{IsUnion}
use Rattle.rope_join.proofs.Unions.{inner_siblings, inner_union}
use Rattle.rope_join.proofs.join.unite_after.Goals.{After-of}
use Rattle.rope_join.proofs.join.unite_after.Goals as goal

abbrev row : After-of → List Tree
row c = c.args.before.nodes.now ++ trees_in c.args.nodes

two : (c : After-of) → 2 ≤ length (row c)
two c = omega (
  arith,
  c.shares_children.ensures c.if-shares_children.true,
  c.len.ensures,
  length-append c.args.before.nodes.now (trees_in c.args.nodes),
)

over : (c : After-of) → gathered (row c) ≡ tree_over (row c)
over c = gathered_over (row c) (two c)

level : (c : After-of) → c.args.left.now.height ≡ (gathered (row c)).height
level c = sym (c.requires.level (two c)) ∙ sym (ap (λ t. t.height) (over c))

near : (c : After-of) → IsDenseAfter (last_bytes 492 c.args.left.now.leaves)
    (gathered (row c)).leaves
near c = c.requires.near.near (omega (arith, c.requires.level (two c)))
    (omega (arith, c.requires.level (two c), level c))

siblings : (c : After-of)
    → AreSiblings (breaks_of (c.in-Inner.children.now ++ row c))
    (height_of (c.in-Inner.children.now ++ row c)) (c.in-Inner.children.now ++ row c)
siblings c =
    inner_siblings c.args.left.now (gathered (row c)) c.in-Inner.children.now (row c)
    c.in-Inner.ensures.is (over c) c.in-Inner.ensures.children (c.requires.gather.family (two c))
    c.requires.join (level c) (near c)

pub pack_last-requires-clause-siblings : goal.pack_last-requires-clause-siblings
pack_last-requires-clause-siblings c =
    rw c.of.ensures.nodes (siblings (goal.at.pack_last-requires-clause-siblings c).After-of)

pub returns-clause-union : goal.returns-clause-union
returns-clause-union c =
    let e = (goal.at.returns-clause-union c).After-of in
    both_ok c.pack_last.result _ _
    (λ nodes. IsUnion c.args.left.now (gathered (row e)) (trees_in nodes)) (λ nodes leaves shape.
    inner_union c.args.left.now (gathered (row e)) c.in-Inner.children.now (row e)
    c.in-Inner.ensures.is (over e) c.in-Inner.ensures.children (c.requires.gather.family (two e))
    c.requires.join (level e) (near e) _
    (rw c.of.ensures.nodes at leaves) (rw c.of.ensures.nodes at shape)) c.pack_last.ensures.leaves
    c.pack_last.ensures.shape
