use Rattle.std.proofs.Common.{◌≡◌, ◌+◌, ◌-◌, ◌<◌, ◌⊎◌, inl, inr, [], ◌∷◌, ◌++◌, length, get_or, take, sym, ap, subst, ◌∙◌, arith}
use Rattle.std.proofs.lemmas.List.{append_assoc, length-append, take_all, take-append-le, get_or_push}
use Rattle.rope_leaf.specs.Tree.{text}
use Rattle.rope_tree.proofs.MoveLaws.{AreMovable, level_of, movable_of, movable_left}
use Rattle.rope_tree.proofs.LeafSplits.{HasLeaf, IsStart, IsEnd, flat_height, cut_or_kept, level_before, level_after, own_leaf, move_first, move_second, leaf_front, leaf_back, leaf_following, leaf_ahead}
use Rattle.rope_tree.proofs.node.Children.split_leaf_anew.Goals.{After-pop-leaf, After-split_leaf-found, In-Some}
use Rattle.rope_tree.proofs.node.Children.split_leaf_anew.Goals as goal

module _ (c : After-pop-leaf) where
  as_many : length c.args.self.now ≡ length c.pop-leaf.new.self + 1
  as_many =
      ap length c.pop-leaf.ensures
      ∙ length-append c.pop-leaf.new.self (c.pop-leaf.result ∷ [])

  placed : HasLeaf (c.args.self.now ++ c.args.rest.now) c.pop-leaf.new.self c.pop-leaf.result
      c.args.rest.now
  placed = record {
    is = ap (λ l. l ++ c.args.rest.now) c.pop-leaf.ensures ∙ append_assoc c.pop-leaf.new.self _ _;
    family = c.requires.children;
    flat = c.requires.leaves;
  }

  within : c.args.inside < length (text c.pop-leaf.result)
  within =
      let at : get_or c.args.self.now (length c.args.self.now - 1) c.pop-leaf.result
      ≡ c.pop-leaf.result =
      ap (λ l. get_or l (length c.args.self.now - 1) c.pop-leaf.result) c.pop-leaf.ensures
      ∙ get_or_push c.pop-leaf.new.self c.pop-leaf.result c.pop-leaf.result _
      (omega (arith, as_many)) in
      subst (λ t. c.args.inside < length (text t)) at (c.requires.within c.pop-leaf.result)

  before_leaf : take (length c.args.self.now - 1) c.args.self.now ≡ c.pop-leaf.new.self
  before_leaf =
      let n : length c.args.self.now - 1 ≡ length c.pop-leaf.new.self = omega (arith, as_many) in
      ap (take (length c.args.self.now - 1)) c.pop-leaf.ensures
      ∙ take-append-le (length c.args.self.now - 1) c.pop-leaf.new.self _ (omega (arith, n))
      ∙ take_all _ c.pop-leaf.new.self (omega (arith, n))

pub last_leaf_len-before-requires-clause-level : goal.last_leaf_len-before-requires-clause-level
last_leaf_len-before-requires-clause-level c =
    let p = placed (goal.at.last_leaf_len-before-requires-clause-level c).After-pop-leaf in
    level_of _ 0 c.pop-leaf.new.self (level_before _ _ _ _ p)

pub first_leaf_len-after-requires-clause-level : goal.first_leaf_len-after-requires-clause-level
first_leaf_len-after-requires-clause-level c =
    let p = placed (goal.at.first_leaf_len-after-requires-clause-level c).After-pop-leaf in
    level_of _ 0 c.args.rest.now (level_after _ _ _ _ p)

pub first_leaf_len-after-requires-clause-leaves : goal.first_leaf_len-after-requires-clause-leaves
first_leaf_len-after-requires-clause-leaves c =
    let p = placed (goal.at.first_leaf_len-after-requires-clause-leaves c).After-pop-leaf in
    flat_height _ c.args.rest.now (level_after _ _ _ _ p).each

pub split_leaf-found-requires-clause-leaf : goal.split_leaf-found-requires-clause-leaf
split_leaf-found-requires-clause-leaf c =
    (own_leaf _ _ _ _ (placed
    (goal.at.split_leaf-found-requires-clause-leaf c).After-pop-leaf)).at_height

pub split_leaf-found-requires-clause-within : goal.split_leaf-found-requires-clause-within
split_leaf-found-requires-clause-within c =
    within (goal.at.split_leaf-found-requires-clause-within c).After-pop-leaf

module _ (c : After-split_leaf-found) where
  start : c.split_leaf-found.new.self ≡ c.pop-leaf.result
      ⊎ IsStart c.pop-leaf.new.self c.pop-leaf.result c.args.inside c.split_leaf-found.new.self
  start =
      let e = c.split_leaf-found.ensures in
      elim (cut_or_kept c.split_leaf-found.result e.front e.long_front e.kept e.err) [
        | inl same ↦ inl same
        | inr cut ↦
            inr (record {
              is = cut.0;
              tree = e.front_tree;
              long = omega (arith, cut.1, c.last_leaf_len-before.ensures);
            })
      ]

  pushed : AreMovable (c.pop-leaf.new.self ++ c.split_leaf-found.new.self ∷ [])
  pushed =
      let p = (goal.at.After-split_leaf-found c).After-pop-leaf in
      elim start [
        | inl same ↦
            subst AreMovable
            (c.pop-leaf.ensures ∙ ap (λ t. c.pop-leaf.new.self ++ t ∷ []) (sym same))
            (movable_left c.args.self.now c.args.rest.now
            (movable_of _ c.requires.children c.requires.few))
        | inr s ↦
            move_first _ _ _ _ (placed p) _ c.requires.some (within p) _ s c.requires.few
      ]

pub push-requires-clause-level : goal.push-requires-clause-level
push-requires-clause-level c =
    (pushed (goal.at.push-requires-clause-level c).After-split_leaf-found).level

pub push-requires-clause-few : goal.push-requires-clause-few
push-requires-clause-few c =
    (pushed (goal.at.push-requires-clause-few c).After-split_leaf-found).few

module _ (c : In-Some) where
  abbrev p : After-pop-leaf
  p = (goal.at.In-Some c).After-pop-leaf

  started : IsStart c.pop-leaf.new.self c.pop-leaf.result c.args.inside c.split_leaf-found.new.self
  started = record {
    is = rw c.in-Some.is at c.in_ok-back.ensures.front;
    tree = c.in_ok-back.ensures.front_tree;
    long = omega (
      arith,
      rw c.in-Some.is at c.in_ok-back.ensures.long_front,
      c.last_leaf_len-before.ensures,
    );
  }

  ended : IsEnd c.pop-leaf.result c.args.rest.now c.args.inside c.in-Some.back
  ended = record {
    is = rw c.in-Some.is at c.in_ok-back.ensures.back;
    tree = rw c.in-Some.is at c.in_ok-back.ensures.back_tree;
    near = c.first_leaf_len-after.ensures _ (rw c.in-Some.is at c.in_ok-back.ensures.long_back);
  }

  moved : AreMovable (c.in-Some.back ∷ c.args.rest.now)
  moved = move_second _ _ _ _ (placed p) _ c.requires.some (within p) _ ended c.requires.few

pub push_front-requires-clause-level : goal.push_front-requires-clause-level
push_front-requires-clause-level c =
    (moved (goal.at.push_front-requires-clause-level c).In-Some).level

pub push_front-requires-clause-few : goal.push_front-requires-clause-few
push_front-requires-clause-few c =
    (moved (goal.at.push_front-requires-clause-few c).In-Some).few

pub returns-clause-front : goal.returns-clause-front
returns-clause-front c = λ _.
    let s = (goal.at.returns-clause-front c).In-Some in
    let q = (goal.at.returns-clause-front c).After-pop-leaf in
    rw (before_leaf q, c.push.ensures)
    (leaf_front _ _ _ _ (placed q) _ c.requires.some (within q) _ (started s))

pub returns-clause-back : goal.returns-clause-back
returns-clause-back c = λ _.
    let s = (goal.at.returns-clause-back c).In-Some in
    let q = (goal.at.returns-clause-back c).After-pop-leaf in
    rw (before_leaf q, c.push_front.ensures)
    (leaf_back _ _ _ _ (placed q) _ c.requires.some (within q) _ (ended s))

pub returns-clause-following : goal.returns-clause-following
returns-clause-following c = λ _ more.
    let s = (goal.at.returns-clause-following c).In-Some in
    let q = (goal.at.returns-clause-following c).After-pop-leaf in
    rw c.push.ensures
    (leaf_following _ _ _ _ (placed q) _ c.requires.some (within q) _ (started s)
    (omega (arith, as_many q, more)))

pub returns-clause-ahead : goal.returns-clause-ahead
returns-clause-ahead c = λ _ more.
    let s = (goal.at.returns-clause-ahead c).In-Some in
    let q = (goal.at.returns-clause-ahead c).After-pop-leaf in
    rw c.push_front.ensures
    (leaf_ahead _ _ _ _ (placed q) _ c.requires.some (within q) _ (ended s) more)
