use Rattle.std.proofs.Common.{◌≡◌, ◌+◌, ◌^◌, ◌<◌, ◌≤◌, List, [], ◌∷◌, ◌++◌, length, drop, sym, ap, ap₂, subst, ◌∙◌, arith}
use Rattle.std.proofs.lemmas.List.{append_assoc, length-append, length-drop, length-take-le, take-append-drop}
use Rattle.rope_text.specs.Text.{byte_len}
use Rattle.rope_leaf.specs.Tree.{Tree, joined, tree_over, AreFamily}
use Rattle.rope_leaf.specs.Siblings.{AreLevel}
use Rattle.rope_tree.proofs.MoveLaws.{AreMovable, movable_left, movable_right, movable_of, movable_after}
use Rattle.rope_tree.proofs.PaddingLaws.{wide_a, wide_x, pair_movable, family_b, family_y, moved_family, moved_same, moved_few}
use Rattle.rope_tree.proofs.node.Children.shift.Goals.{After-take_from, In-Some, After-lend}
use Rattle.rope_tree.proofs.node.Children.shift.Goals as goal

-- the children up to the second of the two, and the others
module _ (c : After-take_from) where
  abbrev old : List Tree
  old = c.args.self.now

  whole : c.take_from.new.other ++ c.take_from.new.self ≡ old
  whole = ap₂ (λ y z. y ++ z) c.take_from.ensures.rest
      (c.take_from.ensures.moved ∙ ap (λ l. l ++ drop (c.args.place + 2) old) c.requires.none)
      ∙ take-append-drop (c.args.place + 2) old

  all : AreMovable (c.take_from.new.other ++ c.take_from.new.self)
  all = subst AreMovable (sym whole) (movable_of old c.requires.children c.requires.few)

  two : AreMovable c.take_from.new.other
  two = movable_left c.take_from.new.other c.take_from.new.self all

  many : length c.take_from.new.other ≡ c.args.place + 2
  many = ap length c.take_from.ensures.rest
      ∙ length-take-le (c.args.place + 2) old (omega (arith, c.requires.pair))

-- their lists
module _ (c : In-Some) where
  abbrev m : After-take_from
  m = (goal.at.In-Some c).After-take_from

  abbrev pre : List Tree
  pre = c.pop_two.new.self

  abbrev a : List Tree
  a = c.in-Some.list.value

  abbrev x : List Tree
  x = c.in-Some.next.value

  abbrev post : List Tree
  post = c.take_from.new.self

  is : old m ≡ pre ++ (tree_over a ∷ tree_over x ∷ post)
  is = sym (whole m) ∙ ap (λ l. l ++ post) c.in-Some.ensures.lists ∙ append_assoc pre _ post

  pair : AreMovable (a ++ x)
  pair =
      pair_movable (old m) pre a x post is c.requires.children c.in-Some.ensures.first
      c.in-Some.ensures.second c.requires.few

  least_a : 12 ≤ length a
  least_a =
      wide_a (old m) pre a x post is c.requires.children c.in-Some.ensures.first
      c.in-Some.ensures.second

  least_x : 12 ≤ length x
  least_x =
      wide_x (old m) pre a x post is c.requires.children c.in-Some.ensures.first
      c.in-Some.ensures.second

module _ (c : After-lend) where
  abbrev n : In-Some
  n = (goal.at.After-lend c).In-Some

  abbrev o : List Tree
  o = c.args.self.now

  abbrev b : List Tree
  b = c.lend.new.self

  abbrev y : List Tree
  y = c.lend.new.next

  same : b ++ y ≡ a n ++ x n
  same = c.lend.ensures.same
      ∙ ap₂ (λ l r. l ++ r) c.as_mut.ensures.value c.as_mut-2.ensures.value

  first : AreFamily b
  first =
      family_b o (pre n) (a n) (x n) (post n) (is n) c.requires.children c.in-Some.ensures.first
      c.in-Some.ensures.second b y same c.lend.ensures.least c.lend.ensures.most
      c.lend.ensures.least_next c.lend.ensures.most_next

  second : AreFamily y
  second =
      family_y o (pre n) (a n) (x n) (post n) (is n) c.requires.children c.in-Some.ensures.first
      c.in-Some.ensures.second b y same c.lend.ensures.least c.lend.ensures.most
      c.lend.ensures.least_next c.lend.ensures.most_next

  family : AreFamily (pre n ++ (tree_over b ∷ tree_over y ∷ post n))
  family =
      moved_family o (pre n) (a n) (x n) (post n) (is n) c.requires.children
      c.in-Some.ensures.first c.in-Some.ensures.second b y same c.lend.ensures.least
      c.lend.ensures.most c.lend.ensures.least_next c.lend.ensures.most_next

  tree : tree_over (pre n ++ (tree_over b ∷ tree_over y ∷ post n)) ≡ tree_over o
  tree =
      moved_same o (pre n) (a n) (x n) (post n) (is n) c.requires.children
      c.in-Some.ensures.first c.in-Some.ensures.second b y same c.lend.ensures.least
      c.lend.ensures.most c.lend.ensures.least_next c.lend.ensures.most_next

  parts : (pre n ++ (tree_over b ∷ tree_over y ∷ [])) ++ post n
      ≡ pre n ++ (tree_over b ∷ tree_over y ∷ post n)
  parts = append_assoc (pre n) (tree_over b ∷ tree_over y ∷ []) (post n)

  moved : AreMovable ((pre n ++ (tree_over b ∷ tree_over y ∷ [])) ++ post n)
  moved =
      subst AreMovable (sym parts)
      (movable_of _ family
      (moved_few o (pre n) (a n) (x n) (post n) (is n) c.requires.children
      c.in-Some.ensures.first c.in-Some.ensures.second b y same c.lend.ensures.least
      c.lend.ensures.most c.lend.ensures.least_next c.lend.ensures.most_next c.requires.few))

  front : AreMovable (pre n ++ (tree_over b ∷ tree_over y ∷ []))
  front = movable_left _ (post n) moved

pub take_from-requires-clause-level : goal.take_from-requires-clause-level
take_from-requires-clause-level c =
    (movable_after c.args.self.now c.args.rest.now (c.args.place + 2) c.requires.none
    (movable_of c.args.self.now c.requires.children c.requires.few)).level

pub take_from-requires-clause-few : goal.take_from-requires-clause-few
take_from-requires-clause-few c =
    (movable_after c.args.self.now c.args.rest.now (c.args.place + 2) c.requires.none
    (movable_of c.args.self.now c.requires.children c.requires.few)).few

pub pop_two-requires-clause-level : goal.pop_two-requires-clause-level
pop_two-requires-clause-level c =
    (two (goal.at.pop_two-requires-clause-level c).After-take_from).level

pub pop_two-requires-clause-few : goal.pop_two-requires-clause-few
pop_two-requires-clause-few c =
    (two (goal.at.pop_two-requires-clause-few c).After-take_from).few

pub take_from-requires-in_default-clause-level_other :
    goal.take_from-requires-in_default-clause-level_other
take_from-requires-in_default-clause-level_other c =
    let m = (goal.at.take_from-requires-in_default-clause-level_other c).After-take_from in
    (movable_right c.take_from.new.other c.take_from.new.self (all m)).level

pub lend-requires-clause-level : goal.lend-requires-clause-level
lend-requires-clause-level c =
    rw (c.as_mut.ensures.value, c.as_mut-2.ensures.value)
    (pair (goal.at.lend-requires-clause-level c).In-Some).level

pub lend-requires-clause-few : goal.lend-requires-clause-few
lend-requires-clause-few c =
    rw (c.as_mut.ensures.value, c.as_mut-2.ensures.value)
    (pair (goal.at.lend-requires-clause-few c).In-Some).few

pub lend-requires-clause-least : goal.lend-requires-clause-least
lend-requires-clause-least c =
    omega (
      arith,
      least_a (goal.at.lend-requires-clause-least c).In-Some,
      ap length c.as_mut.ensures.value,
    )

pub lend-requires-clause-least_next : goal.lend-requires-clause-least_next
lend-requires-clause-least_next c =
    omega (
      arith,
      least_x (goal.at.lend-requires-clause-least_next c).In-Some,
      ap length c.as_mut-2.ensures.value,
    )

pub push_two-requires-clause-first : goal.push_two-requires-clause-first
push_two-requires-clause-first c = first (goal.at.push_two-requires-clause-first c).After-lend

pub push_two-requires-clause-second : goal.push_two-requires-clause-second
push_two-requires-clause-second c = second (goal.at.push_two-requires-clause-second c).After-lend

pub push_two-requires-clause-level : goal.push_two-requires-clause-level
push_two-requires-clause-level c =
    (front (goal.at.push_two-requires-clause-level c).After-lend).level

pub push_two-requires-clause-few : goal.push_two-requires-clause-few
push_two-requires-clause-few c = (front (goal.at.push_two-requires-clause-few c).After-lend).few

pub push_two-requires-clause-room : goal.push_two-requires-clause-room
push_two-requires-clause-room c =
    let m = (goal.at.push_two-requires-clause-room c).After-take_from in
    let n = (goal.at.push_two-requires-clause-room c).In-Some in
    omega (
      arith,
      many m,
      c.requires.pair,
      c.requires.children.at_most_24,
      ap length c.in-Some.ensures.lists,
      length-append (pre n) (tree_over (a n) ∷ tree_over (x n) ∷ []),
    )

pub take_from-requires-2-clause-level : goal.take_from-requires-2-clause-level
take_from-requires-2-clause-level c =
    let k = (goal.at.take_from-requires-2-clause-level c).After-lend in
    subst (λ l. AreLevel (l ++ c.take_from.new.self)) (sym c.push_two.ensures) (moved k).level

pub take_from-requires-2-clause-level_other : goal.take_from-requires-2-clause-level_other
take_from-requires-2-clause-level_other c =
    let m = (goal.at.take_from-requires-2-clause-level_other c).After-take_from in
    (movable_right c.take_from.new.other c.take_from.new.self (all m)).level

pub take_from-requires-2-clause-few : goal.take_from-requires-2-clause-few
take_from-requires-2-clause-few c =
    let k = (goal.at.take_from-requires-2-clause-few c).After-lend in
    subst (λ l. byte_len (joined (l ++ c.take_from.new.self)) < 2 ^ 32)
    (sym c.push_two.ensures) (moved k).few

pub take_from-requires-2-clause-room : goal.take_from-requires-2-clause-room
take_from-requires-2-clause-room c =
    let k = (goal.at.take_from-requires-2-clause-room c).After-lend in
    subst (λ l. length (l ++ c.take_from.new.self) ≤ 24) (sym c.push_two.ensures)
    (omega (arith, ap length (parts k), (family k).at_most_24))

pub returns-clause-same : goal.returns-clause-same
returns-clause-same c =
    let k = (goal.at.returns-clause-same c).After-lend in
    ap tree_over (c.take_from-2.ensures.moved
    ∙ ap (λ l. l ++ c.take_from.new.self) c.push_two.ensures ∙ parts k) ∙ tree k

pub returns-clause-children : goal.returns-clause-children
returns-clause-children c =
    let k = (goal.at.returns-clause-children c).After-lend in
    subst AreFamily (sym (c.take_from-2.ensures.moved
    ∙ ap (λ l. l ++ c.take_from.new.self) c.push_two.ensures ∙ parts k)) (family k)

pub take_from-requires-clause-room : goal.take_from-requires-clause-room
take_from-requires-clause-room c =
    omega (
      arith,
      length-append c.args.rest.now (drop (c.args.place + 2) c.args.self.now),
      ap length c.requires.none,
      length-drop (c.args.place + 2) c.args.self.now,
      c.requires.children.at_most_24,
    )

-- all children, where the two weren't taken out
still : (c : After-take_from) (now : List Tree) → now ≡ c.take_from.new.other
    → now ++ c.take_from.new.self ≡ c.args.self.now
still c now kept = ap (λ l. l ++ c.take_from.new.self) kept ∙ whole c

pub take_from-requires-in_default-clause-level : goal.take_from-requires-in_default-clause-level
take_from-requires-in_default-clause-level c =
    let same =
    still (goal.at.take_from-requires-in_default-clause-level c).After-take_from c.pop_two.new.self
    (rw c.in_default.is at c.pop_two.ensures.kept) in
    subst AreLevel (sym same) (movable_of c.args.self.now c.requires.children c.requires.few).level

pub take_from-requires-in_default-clause-few : goal.take_from-requires-in_default-clause-few
take_from-requires-in_default-clause-few c =
    let same =
    still (goal.at.take_from-requires-in_default-clause-few c).After-take_from c.pop_two.new.self
    (rw c.in_default.is at c.pop_two.ensures.kept) in
    subst (λ l. byte_len (joined l) < 2 ^ 32) (sym same) c.requires.few

pub take_from-requires-in_default-clause-room : goal.take_from-requires-in_default-clause-room
take_from-requires-in_default-clause-room c =
    let same =
    still (goal.at.take_from-requires-in_default-clause-room c).After-take_from c.pop_two.new.self
    (rw c.in_default.is at c.pop_two.ensures.kept) in
    subst (λ l. length l ≤ 24) (sym same) c.requires.children.at_most_24

pub returns-in_default-clause-children : goal.returns-in_default-clause-children
returns-in_default-clause-children c =
    let same =
    still (goal.at.returns-in_default-clause-children c).After-take_from c.pop_two.new.self
    (rw c.in_default.is at c.pop_two.ensures.kept) in
    subst AreFamily (sym (c.take_from-in_default.ensures.moved ∙ same)) c.requires.children

pub returns-in_default-clause-same : goal.returns-in_default-clause-same
returns-in_default-clause-same c =
    let same =
    still (goal.at.returns-in_default-clause-same c).After-take_from c.pop_two.new.self
    (rw c.in_default.is at c.pop_two.ensures.kept) in
    ap tree_over (c.take_from-in_default.ensures.moved ∙ same)
