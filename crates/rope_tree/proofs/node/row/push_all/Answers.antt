use Rattle.std.proofs.Common.{◌≡◌, ◌+◌, ◌<◌, ◌++◌, ◌∙◌, [], ◌∷◌, length, get_or, take, add-one, sym, ap, refl, arith}
use Rattle.std.proofs.lemmas.Grind.{common_steps}
use Rattle.std.proofs.lemmas.List.{append-nil, append_assoc, length-append, length-take-le}
use Rattle.std.proofs.Math.Seq.{take-suc}
use Rattle.rope_leaf.specs.Tree.{breaks_of, height_of}
use Rattle.rope_leaf.specs.Siblings.{AreSiblings}
use Rattle.rope_tree.specs.NewList.{NewList, new_list, nodes_in}
use Rattle.rope_leaf.proofs.NodeLaws.{same_at}
use Rattle.rope_tree.proofs.RowLaws.{last_counts_all, AddsTree, adds_tree, total_more, more_in, is_new_list_more, next_siblings}
use Rattle.rope_tree.proofs.node.row.push_all.Goals.{After-info}
use Rattle.rope_leaf.proofs.Infos.{small_sum}
use Rattle.rope_tree.proofs.node.row.push_all.Goals as goal

-- the list so far
abbrev so_far : After-info → NewList
so_far c = new_list c.loop-node.totals c.loop-node.places

here : (c : After-info) → get_or c.args.nodes.now c.loop-node.node-index c.in_ok-shared.shared
    ≡ c.in_ok-shared.shared
here c = same_at c.args.nodes.now c.loop-node.node-index c.node-item.result c.in_ok-shared.shared
    c.node-item.is c.in_ok-shared.ensures.same

siblings : (c : After-info) → let ts = nodes_in (so_far c) ++ c.in_ok-shared.shared ∷ [] in
    AreSiblings (breaks_of ts) (height_of ts) ts
siblings c =
    next_siblings (nodes_in (new_list c.args.totals.now c.args.places.now)) c.args.nodes.now
    c.loop-node.node-index c.in_ok-shared.shared (nodes_in (so_far c)) c.requires.siblings
    c.loop-node-test.true
    (here c) c.loop-node.invariant.nodes

next : (c : After-info) → AddsTree (nodes_in (so_far c)) c.in_ok-shared.shared c.loop-node.total
    c.info.result
next c = adds_tree (nodes_in (so_far c)) c.in_ok-shared.shared (siblings c) c.loop-node.total
    c.info.result c.loop-node.invariant.total c.info.ensures.value

room : (c : After-info) → length (nodes_in (so_far c)) < 24
room c =
    let front = take c.loop-node.node-index c.args.nodes.now in
    omega (
      arith,
      c.requires.room,
      ap length c.loop-node.invariant.nodes,
      length-append (nodes_in (new_list c.args.totals.now c.args.places.now)) front,
      length-take-le c.loop-node.node-index c.args.nodes.now (omega arith),
      c.loop-node-test.true,
    )

pub loop-node-init : goal.loop-node-init
loop-node-init c = record {
  list = c.requires.list;
  nodes = sym (append-nil (nodes_in (new_list c.args.totals.now c.args.places.now)));
  total = last_counts_all (new_list c.args.totals.now c.args.places.now) c.len.result
      c.total_before-total.result c.requires.list c.len.ensures c.total_before-total.ensures.first
      c.total_before-total.ensures.later;
}

pub plus-total-requires : goal.plus-total-requires
plus-total-requires c = small_sum _ _ (next c).small_sum

pub push-requires-clause-small : goal.push-requires-clause-small
push-requires-clause-small c =
    rw c.plus-total.ensures.sum (next (goal.at.push-requires-clause-small c).After-info).small_sum

pub loop-node-preserved : goal.loop-node-preserved
loop-node-preserved c =
    let i = (goal.at.loop-node-preserved c).After-info in
    let first = nodes_in (new_list c.args.totals.now c.args.places.now) in
    let ns = c.args.nodes.now in
    let k = c.loop-node.node-index in
    let node = c.in_ok-shared.shared in
    let one_more : take (k + 1) ns ≡ take k ns ++ (node ∷ []) = ap (λ n. take n ns) (add-one k)
    ∙ take-suc ns k node c.loop-node-test.true ∙ ap (λ x. take k ns ++ (x ∷ [])) (here i) in
    let sum = c.plus-total.ensures.sum ∙ sym (next i).sum in
    let more =
    more_in (nodes_in (so_far i)) c.in_ok-shared.shared (siblings i) (so_far i) _ c.len-count.result
    c.plus-total.result c.loop-node.invariant.list refl (room i) c.len-count.ensures
    c.in_ok-push.ensures.ok refl sum in
    record {
      list = is_new_list_more (nodes_in (so_far i)) c.in_ok-shared.shared (siblings i) (so_far i) _
          c.len-count.result c.plus-total.result c.loop-node.invariant.list refl (room i)
          c.len-count.ensures c.in_ok-push.ensures.ok refl sum;
      nodes = more ∙ ap (λ xs. xs ++ (node ∷ [])) c.loop-node.invariant.nodes
          ∙ append_assoc first (take k ns) (node ∷ []) ∙ ap (λ xs. first ++ xs) (sym one_more);
      total = total_more (nodes_in (so_far i)) c.in_ok-shared.shared _ c.plus-total.result more sum;
    }

pub push-requires-clause-room : goal.push-requires-clause-room
push-requires-clause-room c = grind (arith, common_steps)

pub returns-clause-nodes : goal.returns-clause-nodes
returns-clause-nodes c = grind (arith, common_steps)
