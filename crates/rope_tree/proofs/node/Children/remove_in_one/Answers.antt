use Rattle.std.proofs.Common.{ℕ, ◌+◌, ◌^◌, ◌<◌, ◌≤◌, List, ◌++◌, length, ap, subst, ◌∙◌, arith}
use Rattle.std.specs.List.{All, concat}
use Rattle.rope_text.specs.Text.{byte_len}
use Rattle.rope_leaf.specs.Tree.{Tree, text, joined, leaves_of, breaks_of, tree_over, IsChild}
use Rattle.rope_leaf.specs.Leaves.{AreLeaves}
use Rattle.rope_tree.specs.Removed.{AreWithout}
use Rattle.rope_tree.proofs.RemovedLaws.{without_after, without_leaves, without_bytes}
use Rattle.rope_tree.proofs.RemovedLists.{HasLastTwo, own_last, last_flat, last_here, front_leaves, all_leaves, good_old, bytes_old, pair, pair_enough, nodes_each, nodes_leaves, nodes_moved}
use Rattle.rope_tree.proofs.node.Children.remove_in_one.Goals.{In-Some, Then-remove_leaves}
use Rattle.rope_tree.proofs.node.Children.remove_in_one.Goals as goal

module _ (c : In-Some) where
  abbrev us : List Tree
  us = c.args.self.now

  abbrev x : List Tree
  x = c.in-Some.list.value

  placed : HasLastTwo us c.pop_two.new.self c.in-Some.before.value x
  placed = record {
    is = c.in-Some.ensures.lists;
    level = c.requires.level;
    flat = c.requires.lists;
    few = c.requires.few;
    before = c.in-Some.ensures.first;
    last = c.in-Some.ensures.second;
  }

  low_x : byte_len (joined x) < 2 ^ 32
  low_x = omega (arith, bytes_old _ _ _ _ placed, c.requires.few)

  end_in : c.args.end ≤ length (joined x)
  end_in =
      subst (λ t. c.args.end ≤ length (text t)) (last_here _ _ _ _ placed)
      (c.requires.within (tree_over x))

pub remove_leaves-requires-clause-leaves : goal.remove_leaves-requires-clause-leaves
remove_leaves-requires-clause-leaves c =
    let i = (goal.at.remove_leaves-requires-clause-leaves c).In-Some in
    rw c.as_mut.ensures.value (last_flat _ _ _ _ (placed i))

pub remove_leaves-requires-clause-few : goal.remove_leaves-requires-clause-few
remove_leaves-requires-clause-few c =
    rw c.as_mut.ensures.value (low_x (goal.at.remove_leaves-requires-clause-few c).In-Some)

pub remove_leaves-requires-clause-within : goal.remove_leaves-requires-clause-within
remove_leaves-requires-clause-within c =
    rw c.as_mut.ensures.value (end_in (goal.at.remove_leaves-requires-clause-within c).In-Some)

module _ (c : Then-remove_leaves) where
  abbrev i : In-Some
  i = (goal.at.Then-remove_leaves c).In-Some

  abbrev y : List Tree
  y = c.remove_leaves.new.self

  own : AreWithout c.args.start c.args.end (leaves_of (x i)) (leaves_of y)
  own =
      subst (λ l. AreWithout c.args.start c.args.end (leaves_of l) (leaves_of y))
      c.as_mut.ensures.value (c.remove_leaves.ensures.without c.if-remove_leaves.true)

  each_y : All (IsChild (breaks_of (us i)) 0) y
  each_y =
      subst (λ b. All (IsChild b 0) y)
      (ap breaks_of c.as_mut.ensures.value ∙ (own_last _ _ _ _ (placed i)).same_breaks)
      (c.remove_leaves.ensures.each c.if-remove_leaves.true)

  abbrev front : List (List ℕ)
  front = leaves_of c.pop_two.new.self ++ leaves_of c.in-Some.before.value

  without : AreWithout (length (concat front) + c.args.start) (length (concat front) + c.args.end)
      (front ++ leaves_of (x i)) (front ++ leaves_of y)
  without =
      without_after c.args.start c.args.end (leaves_of (x i)) (leaves_of y) front own
      (good_old _ _ _ _ (placed i))

  good : AreLeaves (front ++ leaves_of y)
  good = without_leaves _ _ _ _ without

  low : byte_len (joined y) + byte_len (concat front) < 2 ^ 32
  low =
      omega (
        arith,
        without_bytes _ _ _ _ own,
        bytes_old _ _ _ _ (placed i),
        c.requires.few,
      )

pub push_settled-requires-clause-level : goal.push_settled-requires-clause-level
push_settled-requires-clause-level c =
    let t = (goal.at.push_settled-requires-clause-level c).Then-remove_leaves in
    (pair _ _ _ _ (placed (i t)) (y t) (each_y t) (good t) (low t)).level

pub push_settled-requires-clause-few : goal.push_settled-requires-clause-few
push_settled-requires-clause-few c =
    let t = (goal.at.push_settled-requires-clause-few c).Then-remove_leaves in
    (pair _ _ _ _ (placed (i t)) (y t) (each_y t) (good t) (low t)).few

pub push_settled-requires-clause-enough : goal.push_settled-requires-clause-enough
push_settled-requires-clause-enough c =
    let t = (goal.at.push_settled-requires-clause-enough c).Then-remove_leaves in
    pair_enough _ _ _ _ (placed (i t)) (y t) (each_y t) (good t) (low t)

pub push_settled-requires-clause-fits : goal.push_settled-requires-clause-fits
push_settled-requires-clause-fits c = λ ns s.
    let t = (goal.at.push_settled-requires-clause-fits c).Then-remove_leaves in
    (nodes_moved _ _ _ _ (placed (i t)) (y t) (each_y t) (good t) (low t) ns s).level

pub push_settled-requires-clause-narrow : goal.push_settled-requires-clause-narrow
push_settled-requires-clause-narrow c = λ ns s.
    let t = (goal.at.push_settled-requires-clause-narrow c).Then-remove_leaves in
    (nodes_moved _ _ _ _ (placed (i t)) (y t) (each_y t) (good t) (low t) ns s).few

pub returns-then-remove_leaves-clause-without : goal.returns-then-remove_leaves-clause-without
returns-then-remove_leaves-clause-without c = λ _.
    let t = (goal.at.returns-then-remove_leaves-clause-without c).Then-remove_leaves in
    let p = c.push_settled.ensures.pushed in
    rw (
      ap (λ l. length (concat l)) (front_leaves _ _ _ _ (placed (i t))),
      all_leaves _ _ _ _ (placed (i t)),
      ap leaves_of p.is
          ∙ nodes_leaves _ _ _ _ (placed (i t)) (y t) (each_y t) (good t) (low t) p.nodes p.settled,
    )
    (without t)

pub returns-then-remove_leaves-clause-each : goal.returns-then-remove_leaves-clause-each
returns-then-remove_leaves-clause-each c = λ _.
    let t = (goal.at.returns-then-remove_leaves-clause-each c).Then-remove_leaves in
    let p = c.push_settled.ensures.pushed in
    rw p.is (nodes_each _ _ _ _ (placed (i t)) (y t) (each_y t) (good t) (low t) p.nodes p.settled)
