use Rattle.std.proofs.Common.{◌≡◌, ℕ, ◌+◌, ◌^◌, ◌<◌, ◌≤◌, List, ◌++◌, length, sym, ap, subst, refl, ◌∙◌, arith}
use Rattle.std.specs.List.{All, concat}
use Rattle.std.proofs.lemmas.List.{append_assoc}
use Rattle.std.proofs.lemmas.List.Elements.{All-append}
use Rattle.rope_text.specs.Text.{byte_len}
use Rattle.rope_text.specs.declared.line_breaks.LineBreaks.{LineBreaks}
use Rattle.rope_leaf.specs.Tree.{Tree, joined, leaves_of, breaks_of, IsChild}
use Rattle.rope_leaf.specs.Leaves.{AreLeaves}
use Rattle.rope_leaf.specs.Siblings.{AreSiblings}
use Rattle.rope_leaf.proofs.LeafLaws.{all_left, all_right, leaves_left, leaves_right}
use Rattle.rope_leaf.proofs.NodeLaws.{leaves_of-append}
use Rattle.rope_leaf.proofs.SiblingLaws.{byte_len-append}
use Rattle.rope_tree.specs.Removed.{AreParted}
use Rattle.rope_tree.specs.Split.{nodes_over}
use Rattle.rope_tree.proofs.MoveLaws.{AreMovable, family_of, each_over}
use Rattle.rope_tree.proofs.UnevenLaws.{with_leaves, with_leaves_movable}
use Rattle.rope_tree.proofs.RemovedLaws.{parted_after, parted_bytes}
use Rattle.rope_tree.proofs.RemovedLists.{HasLastTwo, own_last, last_flat, front_leaves, all_leaves, good_old, bytes_old, pair, pair_enough, nodes_each, nodes_leaves, nodes_moved}
use Rattle.rope_tree.proofs.node.Children.remove_in_two.Goals.{In-Some, After-as_mut-2, After-gather}
use Rattle.rope_tree.proofs.node.Children.remove_in_two.Goals as goal

module _ (c : In-Some) where
  abbrev us : List Tree
  us = c.args.self.now

  abbrev x : List Tree
  x = c.in-Some.left.value

  placed : HasLastTwo us c.pop_two.new.self c.in-Some.before.value x
  placed = record {
    is = c.in-Some.ensures.lists;
    level = c.requires.level;
    flat = c.requires.lists;
    few = omega (arith, c.requires.few);
    before = c.in-Some.ensures.first;
    last = c.in-Some.ensures.second;
  }

  low_x : byte_len (joined x) < 2 ^ 32
  low_x = omega (arith, bytes_old _ _ _ _ placed, c.requires.few)

pub shorten_two-requires-clause-leaves : goal.shorten_two-requires-clause-leaves
shorten_two-requires-clause-leaves c =
    let i = (goal.at.shorten_two-requires-clause-leaves c).In-Some in
    rw c.as_mut.ensures.value (last_flat _ _ _ _ (placed i))

pub shorten_two-requires-clause-few : goal.shorten_two-requires-clause-few
shorten_two-requires-clause-few c =
    rw c.as_mut.ensures.value (low_x (goal.at.shorten_two-requires-clause-few c).In-Some)

pub shorten_two-requires-clause-same_breaks : goal.shorten_two-requires-clause-same_breaks
shorten_two-requires-clause-same_breaks c =
    let i = (goal.at.shorten_two-requires-clause-same_breaks c).In-Some in
    c.requires.same_breaks ∙ sym (own_last _ _ _ _ (placed i)).same_breaks
    ∙ sym (ap breaks_of c.as_mut.ensures.value)

-- both lists without the leaves
module _ (c : After-as_mut-2) where
  abbrev i : In-Some
  i = (goal.at.After-as_mut-2 c).In-Some

  abbrev b : LineBreaks
  b = breaks_of (us i)

  abbrev l : List Tree
  l = c.shorten_two.new.self

  abbrev r : List Tree
  r = c.shorten_two.new.right

  own : AreParted c.args.start c.args.end (leaves_of (x i)) (leaves_of c.args.right.now)
      (leaves_of l ++ leaves_of r)
  own =
      subst (λ k. AreParted c.args.start c.args.end (leaves_of k) (leaves_of c.args.right.now)
      (leaves_of l ++ leaves_of r)) c.as_mut.ensures.value
      (c.shorten_two.ensures.parted c.if-not-shorten_two.false)

  each_both : All (IsChild b 0) (l ++ r)
  each_both =
      subst (λ k. All (IsChild k 0) (l ++ r))
      (ap breaks_of c.as_mut.ensures.value ∙ (own_last _ _ _ _ (placed i)).same_breaks)
      (c.shorten_two.ensures.each c.if-not-shorten_two.false)

  fewer : byte_len (joined (l ++ r))
      ≤ byte_len (joined (x i)) + byte_len (joined c.args.right.now)
  fewer =
      omega (
        arith,
        parted_bytes _ _ _ _ _ own,
        ap (λ k. byte_len (concat k)) (leaves_of-append l r),
      )

  low_both : byte_len (joined (l ++ r)) < 2 ^ 32
  low_both = omega (arith, fewer, bytes_old _ _ _ _ (placed i), c.requires.few)

  both : AreMovable (l ++ r)
  both =
      with_leaves_movable b 0 (l ++ r) (leaves_of (l ++ r)) each_both refl
      (subst AreLeaves (sym (leaves_of-append l r)) own.leaves) low_both

pub gather-requires-clause-level : goal.gather-requires-clause-level
gather-requires-clause-level c =
    let a = (goal.at.gather-requires-clause-level c).After-as_mut-2 in
    rw c.as_mut-2.ensures.value (both a).level

pub gather-requires-clause-few : goal.gather-requires-clause-few
gather-requires-clause-few c =
    let a = (goal.at.gather-requires-clause-few c).After-as_mut-2 in
    rw c.as_mut-2.ensures.value (both a).few

-- the two lists that they were gathered in
module _ (c : After-gather) where
  abbrev a : After-as_mut-2
  a = (goal.at.After-gather c).After-as_mut-2

  abbrev y : List Tree
  y = c.gather.new.self

  abbrev z : List Tree
  z = c.gather.new.right

  abbrev front : List (List ℕ)
  front = leaves_of c.pop_two.new.self ++ leaves_of c.in-Some.before.value

  same : y ++ z ≡ l a ++ r a
  same = c.gather.ensures.same ∙ ap (λ k. k ++ r a) c.as_mut-2.ensures.value

  leaves_same : leaves_of (l a) ++ leaves_of (r a) ≡ leaves_of y ++ leaves_of z
  leaves_same = sym (leaves_of-append (l a) (r a)) ∙ ap leaves_of (sym same)
      ∙ leaves_of-append y z

  each_now : All (IsChild (b a) 0) (y ++ z)
  each_now = subst (All (IsChild (b a) 0)) (sym same) (each_both a)

  each_y : All (IsChild (b a) 0) y
  each_y = all_left (IsChild (b a) 0) y z each_now

  each_z : All (IsChild (b a) 0) z
  each_z = all_right (IsChild (b a) 0) y z each_now

  whole : AreParted (length (concat front) + c.args.start) c.args.end
      (front ++ leaves_of (x (i a))) (leaves_of c.args.right.now)
      (front ++ (leaves_of y ++ leaves_of z))
  whole =
      parted_after c.args.start c.args.end (leaves_of (x (i a))) (leaves_of c.args.right.now)
      (leaves_of y ++ leaves_of z) front
      (subst (AreParted c.args.start c.args.end (leaves_of (x (i a)))
      (leaves_of c.args.right.now)) leaves_same (own a))
      (good_old _ _ _ _ (placed (i a))) c.requires.right.leaves

  good : AreLeaves (front ++ leaves_of y)
  good =
      leaves_left (front ++ leaves_of y) (leaves_of z)
      (subst AreLeaves (sym (append_assoc front (leaves_of y) (leaves_of z))) whole.leaves)

  good_z : AreLeaves (leaves_of z)
  good_z =
      leaves_right (front ++ leaves_of y) (leaves_of z)
      (subst AreLeaves (sym (append_assoc front (leaves_of y) (leaves_of z))) whole.leaves)

  low_now : byte_len (joined y) + byte_len (joined z) ≡ byte_len (joined (l a ++ r a))
  low_now = sym (byte_len-append y z) ∙ ap (λ k. byte_len (joined k)) same

  low : byte_len (joined y) + byte_len (concat front) < 2 ^ 32
  low =
      omega (
        arith,
        low_now,
        fewer a,
        bytes_old _ _ _ _ (placed (i a)),
        c.requires.few,
      )

  siblings_z : AreSiblings (b a) 0 z
  siblings_z =
      with_leaves (b a) 0 z (leaves_of z) each_z refl good_z
      (omega (arith, low_now, low_both a))

pub push_settled-requires-clause-level : goal.push_settled-requires-clause-level
push_settled-requires-clause-level c =
    let t = (goal.at.push_settled-requires-clause-level c).After-gather in
    (pair _ _ _ _ (placed (i (a t))) (y t) (each_y t) (good t) (low t)).level

pub push_settled-requires-clause-few : goal.push_settled-requires-clause-few
push_settled-requires-clause-few c =
    let t = (goal.at.push_settled-requires-clause-few c).After-gather in
    (pair _ _ _ _ (placed (i (a t))) (y t) (each_y t) (good t) (low t)).few

pub push_settled-requires-clause-enough : goal.push_settled-requires-clause-enough
push_settled-requires-clause-enough c =
    let t = (goal.at.push_settled-requires-clause-enough c).After-gather in
    pair_enough _ _ _ _ (placed (i (a t))) (y t) (each_y t) (good t) (low t)

pub push_settled-requires-clause-fits : goal.push_settled-requires-clause-fits
push_settled-requires-clause-fits c = λ ns s.
    let t = (goal.at.push_settled-requires-clause-fits c).After-gather in
    (nodes_moved _ _ _ _ (placed (i (a t))) (y t) (each_y t) (good t) (low t) ns s).level

pub push_settled-requires-clause-narrow : goal.push_settled-requires-clause-narrow
push_settled-requires-clause-narrow c = λ ns s.
    let t = (goal.at.push_settled-requires-clause-narrow c).After-gather in
    (nodes_moved _ _ _ _ (placed (i (a t))) (y t) (each_y t) (good t) (low t) ns s).few

pub returns-clause-parted : goal.returns-clause-parted
returns-clause-parted c = λ _.
    let t = (goal.at.returns-clause-parted c).After-gather in
    let p = c.push_settled.ensures.pushed in
    rw (
      ap (λ k. length (concat k)) (front_leaves _ _ _ _ (placed (i (a t)))),
      all_leaves _ _ _ _ (placed (i (a t))),
      ap leaves_of p.is
          ∙ nodes_leaves _ _ _ _ (placed (i (a t))) (y t) (each_y t) (good t) (low t) p.nodes
          p.settled,
      append_assoc (front t) (leaves_of (y t)) (leaves_of (z t)),
    )
    (whole t)

pub returns-clause-each : goal.returns-clause-each
returns-clause-each c = λ _.
    let t = (goal.at.returns-clause-each c).After-gather in
    let p = c.push_settled.ensures.pushed in
    rw p.is (All-append (IsChild (breaks_of c.args.self.now) 1) _ (nodes_over c.gather.new.right)
    (nodes_each _ _ _ _ (placed (i (a t))) (y t) (each_y t) (good t) (low t) p.nodes p.settled)
    (each_over (breaks_of c.args.self.now) 0 c.gather.new.right (siblings_z t)
    c.gather.ensures.least_right c.gather.ensures.most_right))

pub returns-clause-family : goal.returns-clause-family
returns-clause-family c = λ _ some.
    let t = (goal.at.returns-clause-family c).After-gather in
    family_of _ 0 c.gather.new.right (siblings_z t)
    (omega (arith, c.gather.ensures.least_right some)) c.gather.ensures.most_right
