-- The rest is the last leaf, and the tree has the leaves.
use Rattle.std.proofs.Common.{◌≡◌, ◌∙◌, ◌+◌, ◌*◌, ◌≤◌, ◌<◌, ◌++◌, false, [], ◌∷◌, length, ap, sym, arith}
use Rattle.std.specs.Prelude.{◌==◌}
use Rattle.std.proofs.lemmas.Bool.Decides.{nat_tests}
use Rattle.std.proofs.lemmas.List.{length-append, append-nil}
use Rattle.std.proofs.lemmas.Result.{IfOk-weaker}
use Rattle.std.specs.List.{concat}
use Rattle.rope_text.specs.Text.{byte_len}
use Rattle.rope_leaf.specs.Tree.{Tree, leaf_tree, joined, leaves_of}
use Rattle.rope_tree.specs.declared.builder.Builder.TheInside.{Inside}
use Rattle.rope_tree.specs.Fronts.{AreFrontNodes, Building, IsBuilding}
use Rattle.rope_leaf.specs.Siblings.{AreSiblings}
use Rattle.rope_leaf.proofs.TreeLaws.{breaks_of_is}
use Rattle.rope_leaf.proofs.InsertTrees.{siblings_of_first}
use Rattle.rope_leaf.proofs.LeafLaws.{seam-nil}
use Rattle.rope_tree.proofs.BuildLaws.{nodes_front, nodes_whole, siblings_whole, nodes_le, leaf_few}
use Rattle.rope_tree.proofs.builder.Builder.finish.Goals.{In_ok-push}
use Rattle.rope_tree.proofs.builder.Builder.finish.Goals as goal

-- if leaves were finished, the rest is not empty
left : (c : In_ok-push) → 0 < byte_len c.self.inside.rest
left c =
    let a = c.self.inside in
    let full : (a.leaves.len == 0) ≡ false = sym c.is_empty.ensures ∙ c.if-is_empty.false in
    let some : 0 < length a.leaves.items = grind (arith, nat_tests, a.leaves.ok) in
    c.self.invariant.followed (omega (arith))

-- all leaves
last : (c : In_ok-push) → AreFrontNodes c.self.inside.breaks
    (joined c.self.inside.leaves.items ++ c.self.inside.rest) c.push.new.self.items []
    × (length (leaves_of c.push.new.self.items) ≡ length (leaves_of c.self.inside.leaves.items) + 1)
last c =
    let a = c.self.inside in
    let node = c.in_ok-rest.rest in
    let pushed = c.in_ok-push.ensures.items in
    rw pushed (nodes_front a.breaks (joined a.leaves.items ++ a.rest) a.leaves.items a.rest a.rest
    [] node
    c.self.invariant.nodes (append-nil a.rest) (left c) (seam-nil a.rest)
    (λ more. absurd (omega arith)) (c.in_ok-rest.ensures.ok
    ∙ ap (leaf_tree a.breaks) c.as_str.ensures.chars) c.in_ok-rest.ensures.tree)

all : (c : In_ok-push) → AreSiblings c.self.inside.breaks 0 c.push.new.self.items
all c =
    let a = c.self.inside in
    siblings_whole a.breaks (joined a.leaves.items ++ a.rest) c.push.new.self.items (last c).0
    (omega (arith, c.self.invariant.counted, c.self.invariant.fits))

some : (c : In_ok-push) → 1 ≤ length c.push.new.self.items
some c =
    let a = c.self.inside in
    omega (
      arith,
      ap length c.in_ok-push.ensures.items,
      length-append a.leaves.items (c.in_ok-rest.rest ∷ []),
    )

pub returns-then-is_empty-clause-few : goal.returns-then-is_empty-clause-few
returns-then-is_empty-clause-few c =
    let a = c.self.inside in
    omega (
      arith,
      leaf_few a.rest,
      ap (λ (t : Tree). length t.leaves) (c.in_ok-rest.ensures.ok
          ∙ ap (leaf_tree a.breaks) c.as_str.ensures.chars),
      c.self.invariant.long,
      c.self.invariant.counted,
      ap (λ (b : Building). byte_len b.text) c.self.view_is,
    )

pub root_over-requires-clause-siblings : goal.root_over-requires-clause-siblings
root_over-requires-clause-siblings c =
    let b = (goal.at.root_over-requires-clause-siblings c).In_ok-push in
    siblings_of_first c.self.inside.breaks 0 c.push.new.self.items (some b) (all b)

pub returns-clause-text : goal.returns-clause-text
returns-clause-text c =
    let b = (goal.at.returns-clause-text c).In_ok-push in
    let a = c.self.inside in
    IfOk-weaker c.root_over.result _ _ (λ (node : Tree) leaves.
    ap concat leaves ∙ nodes_whole a.breaks (joined a.leaves.items ++ a.rest) c.push.new.self.items
    (last b).0 ∙ ap (λ (x : Building). x.text) c.self.view_is)
    c.root_over.ensures.leaves

pub returns-clause-breaks : goal.returns-clause-breaks
returns-clause-breaks c =
    let b = (goal.at.returns-clause-breaks c).In_ok-push in
    IfOk-weaker c.root_over.result _ _ (λ (node : Tree) breaks.
    breaks ∙ breaks_of_is c.self.inside.breaks 0 c.push.new.self.items (some b) (all b).each
    ∙ ap (λ (x : Building). x.breaks) c.self.view_is)
    c.root_over.ensures.breaks

-- each leaf but the last has at least 981 bytes
most : (a : Inside) → IsBuilding a → 981 * length a.leaves.items + byte_len a.rest ≤ a.bytes
most a i = omega (arith, i.long, nodes_le a.breaks 0 a.leaves.items i.nodes.each)

pub returns-in_err-rest-clause-made : goal.returns-in_err-rest-clause-made
returns-in_err-rest-clause-made c =
    omega (
      arith,
      c.leaf_of.ensures.made,
      c.add_all_made.ensures.most,
      c.len.ensures,
      c.self.inside.leaves.ok,
      most c.self.inside c.self.invariant,
      c.self.invariant.counted,
      ap (λ (b : Building). byte_len b.text) c.self.view_is,
    )

pub returns-in_err-push-clause-made : goal.returns-in_err-push-clause-made
returns-in_err-push-clause-made c =
    omega (
      arith,
      c.in_ok-rest.ensures.made,
      c.add_all_made.ensures.most,
      c.len.ensures,
      c.self.inside.leaves.ok,
      most c.self.inside c.self.invariant,
      c.self.invariant.counted,
      ap (λ (b : Building). byte_len b.text) c.self.view_is,
    )

pub returns-clause-made : goal.returns-clause-made
returns-clause-made c =
    let b = (goal.at.returns-clause-made c).In_ok-push in
    let a = c.self.inside in
    let all_leaves : length c.push.new.self.items ≡ length a.leaves.items + 1 =
    omega (
      arith,
      ap length c.in_ok-push.ensures.items,
      length-append a.leaves.items (c.in_ok-rest.rest ∷ []),
    ) in
    omega (
      arith,
      c.root_over.ensures.made,
      c.in_ok-rest.ensures.made,
      c.add_all_made.ensures.most,
      c.len.ensures,
      c.self.inside.leaves.ok,
      all_leaves,
      left b,
      most a c.self.invariant,
      c.self.invariant.counted,
      ap (λ (x : Building). byte_len x.text) c.self.view_is,
    )

pub returns-clause-few : goal.returns-clause-few
returns-clause-few c =
    let b = (goal.at.returns-clause-few c).In_ok-push in
    let a = c.self.inside in
    let same = ap (λ (x : Building). byte_len x.text) c.self.view_is in
    IfOk-weaker c.root_over.result _ _ (λ (node : Tree) leaves.
    omega (
      arith,
      same,
      (last b).1,
      ap length leaves,
      c.self.invariant.long,
      c.self.invariant.counted,
      left b,
    ))
    c.root_over.ensures.leaves
