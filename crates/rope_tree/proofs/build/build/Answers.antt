-- Each iteration splits one leaf off, and the rest is the last leaf.
use Rattle.std.proofs.Common.{◌≡◌, refl, ◌+◌, ◌<◌, ◌^◌, [], ◌∷◌, length, ap, ◌∙◌, arith}
use Rattle.std.proofs.lemmas.List.{length-append}
use Rattle.std.proofs.lemmas.Result.{IfOk-weaker}
use Rattle.std.specs.List.{concat}
use Rattle.std.specs.Str.{chars}
use Rattle.rope_text.specs.Text.{byte_len}
use Rattle.rope_text.proofs.Walks.{byte_len-chars}
use Rattle.rope_leaf.specs.Tree.{Tree, leaves_of}
use Rattle.rope_leaf.specs.Siblings.{AreSiblings}
use Rattle.rope_tree.specs.Fronts.{AreFrontNodes}
use Rattle.rope_leaf.proofs.TreeLaws.{breaks_of_is}
use Rattle.rope_leaf.proofs.InsertLeaves.{text_of_leaf}
use Rattle.rope_leaf.proofs.InsertTrees.{siblings_of_first}
use Rattle.rope_tree.proofs.BuildLaws.{leaf_few, nodes_cut, nodes_last, nodes_whole, siblings_whole, nodes_le}
use Rattle.rope_tree.proofs.build.build.Goals.{In_ok-push-2}
use Rattle.rope_tree.proofs.build.build.Goals as goal

pub returns-then-whole-le-MAX_BYTES-clause-text : goal.returns-then-whole-le-MAX_BYTES-clause-text
returns-then-whole-le-MAX_BYTES-clause-text c =
    IfOk-weaker c.leaf_of.result _ _ (λ node is. text_of_leaf c.args.breaks node _ is)
    c.leaf_of.ensures.ok

pub returns-then-whole-le-MAX_BYTES-clause-few : goal.returns-then-whole-le-MAX_BYTES-clause-few
returns-then-whole-le-MAX_BYTES-clause-few c =
    IfOk-weaker c.leaf_of.result _ _ (λ (node : Tree) is.
    omega (
      arith,
      leaf_few (chars c.args.whole.now),
      ap (λ (t : Tree). length t.leaves) is,
      byte_len-chars c.args.whole.now c.utf8.whole,
    ))
    c.leaf_of.ensures.ok

pub loop-rest-preserved : goal.loop-rest-preserved
loop-rest-preserved c =
    let rest = c.loop-rest.rest.now in
    let len = c.first_leaf_len-len in
    let before = c.loop-rest.invariant in
    let node = c.in_ok-leaf_of.field-0 in
    let pushed = c.in_ok-push.ensures.items in
    let more =
    nodes_cut c.args.breaks (chars c.args.whole.now) c.loop-rest.leaves.items rest
    c.range.result.now c.range_from-rest.result.now (chars c.range.result.now) len.result node
    before.nodes before.utf8 c.range.utf8 c.range_from-rest.utf8 c.range.ensures.value
    c.range_from-rest.ensures.value
    (omega (arith, len.ensures.long)) (omega (arith, len.ensures.short, c.loop-rest-test.true))
    len.ensures.short len.ensures.cut refl c.in_ok-leaf_of.ensures.ok
    c.in_ok-leaf_of.ensures.tree in
    record {
      utf8 = c.range_from-rest.utf8;
      some = omega (arith, len.ensures.short, c.range_from-rest.ensures.len, c.loop-rest-test.true);
      nodes = rw pushed more.0;
      long = omega (
        arith,
        len.ensures.long,
        ap (λ ts. length (leaves_of ts)) pushed,
        more.1,
        c.range_from-rest.ensures.len,
        before.long,
      );
      made = omega (
        arith,
        c.in_ok-leaf_of.ensures.made,
        ap length c.in_ok-push.ensures.items,
        length-append c.loop-rest.leaves.items (node ∷ []),
        before.made,
      );
    }

last : (c : In_ok-push-2)
    → AreFrontNodes c.args.breaks (chars c.args.whole.now) c.push-2.new.self.items []
    × (length (leaves_of c.push-2.new.self.items) ≡ length (leaves_of c.loop-rest.leaves.items) + 1)
last c =
    let rest = c.loop-rest.rest.now in
    let before = c.loop-rest.invariant in
    let node = c.in_ok-leaf_of-2.field-0 in
    let pushed = c.in_ok-push-2.ensures.items in
    rw pushed (nodes_last c.args.breaks (chars c.args.whole.now) c.loop-rest.leaves.items rest
    (chars rest) node
    before.nodes before.utf8 before.some c.loop-rest-test.false refl c.in_ok-leaf_of-2.ensures.ok
    c.in_ok-leaf_of-2.ensures.tree)

siblings : (c : In_ok-push-2) → AreSiblings c.args.breaks 0 c.push-2.new.self.items
siblings c =
    let few : byte_len (chars c.args.whole.now) < 2 ^ 63 =
    omega (arith, byte_len-chars c.args.whole.now c.utf8.whole) in
    siblings_whole c.args.breaks (chars c.args.whole.now) c.push-2.new.self.items (last c).0 few

count : (c : In_ok-push-2) → length c.push-2.new.self.items ≡ length c.loop-rest.leaves.items + 1
count c =
    omega (
      arith,
      ap length c.in_ok-push-2.ensures.items,
      length-append c.loop-rest.leaves.items (c.in_ok-leaf_of-2.field-0 ∷ []),
    )

pub root_over-requires-clause-siblings : goal.root_over-requires-clause-siblings
root_over-requires-clause-siblings c =
    let e = (goal.at.root_over-requires-clause-siblings c).In_ok-push-2 in
    siblings_of_first c.args.breaks 0 c.push-2.new.self.items (omega (arith, count e)) (siblings e)

pub root_over-requires-clause-some : goal.root_over-requires-clause-some
root_over-requires-clause-some c =
    omega (arith, count (goal.at.root_over-requires-clause-some c).In_ok-push-2)

pub returns-clause-text : goal.returns-clause-text
returns-clause-text c =
    let e = (goal.at.returns-clause-text c).In_ok-push-2 in
    IfOk-weaker c.root_over.result _ _ (λ (node : Tree) leaves. ap concat leaves
    ∙ nodes_whole c.args.breaks (chars c.args.whole.now) c.push-2.new.self.items (last e).0)
    c.root_over.ensures.leaves

pub returns-clause-breaks : goal.returns-clause-breaks
returns-clause-breaks c =
    let e = (goal.at.returns-clause-breaks c).In_ok-push-2 in
    IfOk-weaker c.root_over.result _ _ (λ (node : Tree) breaks. breaks
    ∙ breaks_of_is c.args.breaks 0 c.push-2.new.self.items (omega (arith, count e))
    (siblings e).each) c.root_over.ensures.breaks

pub returns-clause-few : goal.returns-clause-few
returns-clause-few c =
    let e = (goal.at.returns-clause-few c).In_ok-push-2 in
    IfOk-weaker c.root_over.result _ _
    (λ (node : Tree) leaves. omega (
      arith,
      ap length leaves,
      (last e).1,
      c.loop-rest.invariant.long,
      c.loop-rest.invariant.some,
    )) c.root_over.ensures.leaves

pub returns-clause-made : goal.returns-clause-made
returns-clause-made c =
    let e = (goal.at.returns-clause-made c).In_ok-push-2 in
    omega (
      arith,
      c.root_over.ensures.made,
      c.in_ok-leaf_of-2.ensures.made,
      count e,
      c.loop-rest.invariant.made,
      c.loop-rest.invariant.long,
      c.loop-rest.invariant.some,
      nodes_le c.args.breaks 0 c.loop-rest.leaves.items c.loop-rest.invariant.nodes.each,
    )

pub returns-in_err-leaf_of-clause-made : goal.returns-in_err-leaf_of-clause-made
returns-in_err-leaf_of-clause-made c =
    omega (
      arith,
      c.leaf_of-in-loop-rest.ensures.made,
      c.loop-rest.invariant.made,
      c.loop-rest.invariant.long,
      nodes_le c.args.breaks 0 c.loop-rest.leaves.items c.loop-rest.invariant.nodes.each,
    )

pub returns-in_err-push-clause-made : goal.returns-in_err-push-clause-made
returns-in_err-push-clause-made c =
    omega (
      arith,
      c.in_ok-leaf_of.ensures.made,
      c.loop-rest.invariant.made,
      c.loop-rest.invariant.long,
      nodes_le c.args.breaks 0 c.loop-rest.leaves.items c.loop-rest.invariant.nodes.each,
    )

pub returns-in_err-leaf_of-2-clause-made : goal.returns-in_err-leaf_of-2-clause-made
returns-in_err-leaf_of-2-clause-made c =
    omega (
      arith,
      c.leaf_of-2.ensures.made,
      c.loop-rest.invariant.made,
      c.loop-rest.invariant.long,
      nodes_le c.args.breaks 0 c.loop-rest.leaves.items c.loop-rest.invariant.nodes.each,
    )

pub returns-in_err-push-2-clause-made : goal.returns-in_err-push-2-clause-made
returns-in_err-push-2-clause-made c =
    omega (
      arith,
      c.in_ok-leaf_of-2.ensures.made,
      c.loop-rest.invariant.made,
      c.loop-rest.invariant.long,
      nodes_le c.args.breaks 0 c.loop-rest.leaves.items c.loop-rest.invariant.nodes.each,
    )
