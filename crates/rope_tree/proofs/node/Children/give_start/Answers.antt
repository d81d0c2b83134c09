use Rattle.std.proofs.Common.{◌≡◌, ◌+◌, ◌-◌, ◌<◌, List, [], ◌∷◌, ◌++◌, length, get_or, take, sym, ap, ap₂, subst, ◌∙◌, arith}
use Rattle.std.proofs.lemmas.List.{append_assoc, length-append, take_all, take-append-le, get_or_push}
use Rattle.rope_leaf.specs.Tree.{Tree, text}
use Rattle.rope_tree.proofs.LeafMerges.{HasTaken, own_left, move_grown, grown_front, grown_following}
use Rattle.rope_tree.proofs.LeafSplits.{HasLeaf, IsEnd, flat_height, level_after, own_leaf, move_second, leaf_back, leaf_ahead}
use Rattle.rope_tree.proofs.MoveLaws.{AreMovable, level_of, movable_of, movable_left}
use Rattle.rope_tree.proofs.node.Children.give_start.Goals.{After-pop-left, Then-give_start, Else-give_start, After-push-2}
use Rattle.rope_tree.proofs.node.Children.give_start.Goals as goal

module _ (c : After-pop-left) where
  abbrev ps : List Tree
  ps = c.pop-left.new.self

  as_many : length c.args.self.now ≡ length c.pop-leaf.new.self + 1
  as_many =
      ap length c.pop-leaf.ensures
      ∙ length-append c.pop-leaf.new.self (c.pop-leaf.result ∷ [])

  placed : HasLeaf (c.args.self.now ++ c.args.rest.now) (ps ++ c.pop-left.result ∷ [])
      c.pop-leaf.result c.args.rest.now
  placed = record {
    is = ap (λ l. l ++ c.args.rest.now) c.pop-leaf.ensures ∙ append_assoc c.pop-leaf.new.self _ _
        ∙ ap (λ l. l ++ (c.pop-leaf.result ∷ c.args.rest.now)) c.pop-left.ensures;
    family = c.requires.children;
    flat = c.requires.leaves;
  }

  within : c.args.inside < length (text c.pop-leaf.result)
  within =
      let at : get_or c.args.self.now (length c.args.self.now - 1) c.pop-leaf.result
      ≡ c.pop-leaf.result =
      ap (λ l. get_or l (length c.args.self.now - 1) c.pop-leaf.result) c.pop-leaf.ensures
      ∙ get_or_push c.pop-leaf.new.self c.pop-leaf.result c.pop-leaf.result _
      (omega (arith, as_many)) in
      subst (λ t. c.args.inside < length (text t)) at (c.requires.within c.pop-leaf.result)

  before_leaf : take (length c.args.self.now - 1) c.args.self.now ≡ ps ++ c.pop-left.result ∷ []
  before_leaf =
      let n : length c.args.self.now - 1 ≡ length c.pop-leaf.new.self = omega (arith, as_many) in
      ap (take (length c.args.self.now - 1)) c.pop-leaf.ensures
      ∙ take-append-le (length c.args.self.now - 1) c.pop-leaf.new.self _ (omega (arith, n))
      ∙ take_all _ c.pop-leaf.new.self (omega (arith, n)) ∙ c.pop-left.ensures

  whole : AreMovable c.args.self.now
  whole = movable_left c.args.self.now c.args.rest.now
      (movable_of _ c.requires.children c.requires.few)

pub first_leaf_len-requires-clause-level : goal.first_leaf_len-requires-clause-level
first_leaf_len-requires-clause-level c =
    let p = placed (goal.at.first_leaf_len-requires-clause-level c).After-pop-left in
    level_of _ 0 c.args.rest.now (level_after _ _ _ _ p)

pub first_leaf_len-requires-clause-leaves : goal.first_leaf_len-requires-clause-leaves
first_leaf_len-requires-clause-leaves c =
    let p = placed (goal.at.first_leaf_len-requires-clause-leaves c).After-pop-left in
    flat_height _ c.args.rest.now (level_after _ _ _ _ p).each

pub give_start-requires-clause-leaf : goal.give_start-requires-clause-leaf
give_start-requires-clause-leaf c =
    (own_leaf _ _ _ _ (placed (goal.at.give_start-requires-clause-leaf c).After-pop-left)).at_height

pub give_start-requires-clause-left : goal.give_start-requires-clause-left
give_start-requires-clause-left c =
    let p = placed (goal.at.give_start-requires-clause-left c).After-pop-left in
    (own_left _ _ _ _ _ p).at_height

pub give_start-requires-clause-within : goal.give_start-requires-clause-within
give_start-requires-clause-within c =
    within (goal.at.give_start-requires-clause-within c).After-pop-left

module _ (c : Then-give_start) where
  abbrev p : After-pop-left
  p = (goal.at.Then-give_start c).After-pop-left

  taken : HasTaken c.pop-left.result c.pop-leaf.result c.args.inside c.give_start.new.left
  taken = record {
    is = c.give_start.ensures.left c.if-give_start.true;
    tree = c.give_start.ensures.left_tree;
  }

  ended : IsEnd c.pop-leaf.result c.args.rest.now c.args.inside c.give_start.new.self
  ended = record {
    is = c.give_start.ensures.rest c.if-give_start.true;
    tree = c.give_start.ensures.tree;
    near = c.first_leaf_len.ensures _ (c.give_start.ensures.long c.if-give_start.true);
  }

  grown : AreMovable (ps p ++ c.give_start.new.left ∷ [])
  grown = move_grown _ _ _ _ _ (placed p) _ c.requires.some (within p) _ taken c.requires.few

  moved : AreMovable (c.give_start.new.self ∷ c.args.rest.now)
  moved = move_second _ _ _ _ (placed p) _ c.requires.some (within p) _ ended c.requires.few

pub push-requires-clause-level : goal.push-requires-clause-level
push-requires-clause-level c =
    (grown (goal.at.push-requires-clause-level c).Then-give_start).level

pub push-requires-clause-few : goal.push-requires-clause-few
push-requires-clause-few c = (grown (goal.at.push-requires-clause-few c).Then-give_start).few

pub push_front-requires-clause-level : goal.push_front-requires-clause-level
push_front-requires-clause-level c =
    (moved (goal.at.push_front-requires-clause-level c).Then-give_start).level

pub push_front-requires-clause-few : goal.push_front-requires-clause-few
push_front-requires-clause-few c =
    (moved (goal.at.push_front-requires-clause-few c).Then-give_start).few

pub returns-then-give_start-clause-front : goal.returns-then-give_start-clause-front
returns-then-give_start-clause-front c = λ _.
    let t = (goal.at.returns-then-give_start-clause-front c).Then-give_start in
    rw (before_leaf (p t), c.push.ensures) (grown_front _ _ _ _ _ (placed (p t)) _ c.requires.some
    (within (p t)) _ (taken t))

pub returns-then-give_start-clause-back : goal.returns-then-give_start-clause-back
returns-then-give_start-clause-back c = λ _.
    let t = (goal.at.returns-then-give_start-clause-back c).Then-give_start in
    rw (before_leaf (p t), c.push_front.ensures) (leaf_back _ _ _ _ (placed (p t)) _ c.requires.some
    (within (p t)) _ (ended t))

pub returns-then-give_start-clause-following : goal.returns-then-give_start-clause-following
returns-then-give_start-clause-following c = λ _.
    let t = (goal.at.returns-then-give_start-clause-following c).Then-give_start in
    rw c.push.ensures (grown_following _ _ _ _ _ (placed (p t)) _ c.requires.some (within (p t)) _
    (taken t))

pub returns-then-give_start-clause-ahead : goal.returns-then-give_start-clause-ahead
returns-then-give_start-clause-ahead c = λ _ more.
    let t = (goal.at.returns-then-give_start-clause-ahead c).Then-give_start in
    rw c.push_front.ensures (leaf_ahead _ _ _ _ (placed (p t)) _ c.requires.some (within (p t)) _
    (ended t) more)

-- the list without the leaf, where nothing moved
module _ (c : Else-give_start) where
  abbrev q : After-pop-left
  q = (goal.at.Else-give_start c).After-pop-left

  left_is : c.pop-leaf.new.self ≡ c.pop-left.new.self ++ c.give_start.new.left ∷ []
  left_is = c.pop-left.ensures ∙ ap (λ t. c.pop-left.new.self ++ t ∷ [])
      (sym (c.give_start.ensures.kept_left c.if-give_start.false))

  shorter : AreMovable (c.pop-left.new.self ++ c.give_start.new.left ∷ [])
  shorter =
      subst AreMovable left_is
      (movable_left c.pop-leaf.new.self (c.pop-leaf.result ∷ [])
      (subst AreMovable c.pop-leaf.ensures (whole q)))

pub push-requires-2-clause-level : goal.push-requires-2-clause-level
push-requires-2-clause-level c =
    (shorter (goal.at.push-requires-2-clause-level c).Else-give_start).level

pub push-requires-2-clause-few : goal.push-requires-2-clause-few
push-requires-2-clause-few c =
    (shorter (goal.at.push-requires-2-clause-few c).Else-give_start).few

restored : (c : After-push-2) → AreMovable (c.push-2.new.self ++ c.give_start.new.self ∷ [])
restored c =
    let e = (goal.at.After-push-2 c).Else-give_start in
    subst AreMovable (c.pop-leaf.ensures
    ∙ ap₂ (λ x t. x ++ t ∷ []) (left_is e ∙ sym c.push-2.ensures)
    (sym (c.give_start.ensures.kept c.if-give_start.false))) (whole (q e))

pub push-requires-3-clause-level : goal.push-requires-3-clause-level
push-requires-3-clause-level c =
    (restored (goal.at.push-requires-3-clause-level c).After-push-2).level

pub push-requires-3-clause-few : goal.push-requires-3-clause-few
push-requires-3-clause-few c = (restored (goal.at.push-requires-3-clause-few c).After-push-2).few
