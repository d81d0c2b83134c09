use Rattle.std.proofs.Common.{◌≡◌, ◌+◌, ◌-◌, ◌<◌, ◌≤◌, ◌⊎◌, inl, inr, Bool, true, false, List, [], ◌∷◌, ◌++◌, length, get_or, take, drop, refl, sym, ap, ap₂, subst, ◌∙◌, arith}
use Rattle.std.proofs.lemmas.List.{append_assoc, length-append, length-take-le, take_all, take-append-le, take-append-drop, get_or_push}
use Rattle.rope_leaf.specs.Tree.{Tree, text}
use Rattle.rope_tree.proofs.LeafMerges.{HasTakenEnd, own_right, move_led, led_back, led_ahead}
use Rattle.rope_tree.proofs.LeafSplits.{HasLeaf, IsStart, level_before, own_leaf, move_first, leaf_front, leaf_following}
use Rattle.rope_tree.proofs.MoveLaws.{AreMovable, level_of, movable_of, movable_after, movable_left, movable_right}
use Rattle.rope_tree.proofs.node.Children.give_end.Goals.{After-pop-right, After-give_end-did, After-take_from-2}
use Rattle.rope_tree.proofs.node.Children.give_end.Goals as goal

lone : (xs : List Tree) (x : Tree) → length (xs ++ x ∷ []) ≤ 1 → xs ≡ []
lone [] x le = refl
lone (y ∷ ys) x le = absurd (omega (arith, le, length-append ys (x ∷ [])))

either : {F G : Type 0} (did : Bool) → (did ≡ true → F) → (did ≡ false → G) → G ⊎ F
either true f g = inr (f refl)
either false f g = inl (g refl)

pub take_from-requires-clause-level : goal.take_from-requires-clause-level
take_from-requires-clause-level c =
    (movable_after c.args.rest.now c.none-tail.result 1 c.none-tail.ensures
    (movable_right c.args.self.now c.args.rest.now
    (movable_of _ c.requires.children c.requires.few))).level

pub take_from-requires-clause-few : goal.take_from-requires-clause-few
take_from-requires-clause-few c =
    (movable_after c.args.rest.now c.none-tail.result 1 c.none-tail.ensures
    (movable_right c.args.self.now c.args.rest.now
    (movable_of _ c.requires.children c.requires.few))).few

pub take_from-requires-clause-level_other : goal.take_from-requires-clause-level_other
take_from-requires-clause-level_other c =
    (movable_right c.args.self.now c.args.rest.now
    (movable_of _ c.requires.children c.requires.few)).level

module _ (c : After-pop-right) where
  abbrev ps : List Tree
  ps = c.pop-leaf.new.self

  abbrev zs : List Tree
  zs = c.take_from.new.self

  whole : AreMovable (c.args.self.now ++ c.args.rest.now)
  whole = movable_of _ c.requires.children c.requires.few

  one : take 1 c.args.rest.now ≡ c.pop-right.new.self ++ c.pop-right.result ∷ []
  one = sym c.take_from.ensures.rest ∙ c.pop-right.ensures

  none : c.pop-right.new.self ≡ []
  none =
      lone c.pop-right.new.self c.pop-right.result
      (omega (
        arith,
        ap length one,
        length-take-le 1 c.args.rest.now (omega (arith, c.count.ensures, c.if-count-eq0.false)),
      ))

  rest_is : c.args.rest.now ≡ c.pop-right.result ∷ zs
  rest_is = sym (take-append-drop 1 c.args.rest.now)
      ∙ ap₂ (λ x y. x ++ y) (one ∙ ap (λ l. l ++ c.pop-right.result ∷ []) none)
      (sym (c.take_from.ensures.moved
      ∙ ap (λ l. l ++ drop 1 c.args.rest.now) c.none-tail.ensures))

  as_many : length c.args.self.now ≡ length ps + 1
  as_many = ap length c.pop-leaf.ensures ∙ length-append ps (c.pop-leaf.result ∷ [])

  placed : HasLeaf (c.args.self.now ++ c.args.rest.now) ps c.pop-leaf.result
      (c.pop-right.result ∷ zs)
  placed = record {
    is = ap (λ l. l ++ c.args.rest.now) c.pop-leaf.ensures ∙ append_assoc ps _ _
        ∙ ap (λ l. ps ++ c.pop-leaf.result ∷ l) rest_is;
    family = c.requires.children;
    flat = c.requires.leaves;
  }

  within : c.args.inside < length (text c.pop-leaf.result)
  within =
      let at : get_or c.args.self.now (length c.args.self.now - 1) c.pop-leaf.result
      ≡ c.pop-leaf.result =
      ap (λ l. get_or l (length c.args.self.now - 1) c.pop-leaf.result) c.pop-leaf.ensures
      ∙ get_or_push ps c.pop-leaf.result c.pop-leaf.result _ (omega (arith, as_many)) in
      subst (λ t. c.args.inside < length (text t)) at (c.requires.within c.pop-leaf.result)

  before_leaf : take (length c.args.self.now - 1) c.args.self.now ≡ ps
  before_leaf =
      let n : length c.args.self.now - 1 ≡ length ps = omega (arith, as_many) in
      ap (take (length c.args.self.now - 1)) c.pop-leaf.ensures
      ∙ take-append-le (length c.args.self.now - 1) ps _ (omega (arith, n))
      ∙ take_all _ ps (omega (arith, n))

pub last_leaf_len-requires-clause-level : goal.last_leaf_len-requires-clause-level
last_leaf_len-requires-clause-level c =
    let p = placed (goal.at.last_leaf_len-requires-clause-level c).After-pop-right in
    level_of _ 0 c.pop-leaf.new.self (level_before _ _ _ _ p)

pub give_end-did-requires-clause-leaf : goal.give_end-did-requires-clause-leaf
give_end-did-requires-clause-leaf c =
    let p = placed (goal.at.give_end-did-requires-clause-leaf c).After-pop-right in
    (own_leaf _ _ _ _ p).at_height

pub give_end-did-requires-clause-right : goal.give_end-did-requires-clause-right
give_end-did-requires-clause-right c =
    let p = placed (goal.at.give_end-did-requires-clause-right c).After-pop-right in
    (own_right _ _ _ _ _ p).at_height

pub give_end-did-requires-clause-within : goal.give_end-did-requires-clause-within
give_end-did-requires-clause-within c =
    within (goal.at.give_end-did-requires-clause-within c).After-pop-right

module _ (c : After-give_end-did) where
  abbrev p : After-pop-right
  p = (goal.at.After-give_end-did c).After-pop-right

  started : c.give_end-did.result ≡ true
      → IsStart (ps p) c.pop-leaf.result c.args.inside c.give_end-did.new.self
  started did = record {
    is = c.give_end-did.ensures.rest did;
    tree = c.give_end-did.ensures.tree;
    long = omega (arith, c.give_end-did.ensures.long did, c.last_leaf_len.ensures);
  }

  taken : c.give_end-did.result ≡ true
      → HasTakenEnd c.pop-leaf.result c.pop-right.result c.args.inside c.give_end-did.new.right
  taken did = record {
    is = c.give_end-did.ensures.right did;
    tree = c.give_end-did.ensures.right_tree;
  }

  -- the lists, whether text moved or not
  first : AreMovable (ps p ++ c.give_end-did.new.self ∷ [])
  first =
      elim (either c.give_end-did.result started c.give_end-did.ensures.kept) [
        | inl same ↦
            subst AreMovable (c.pop-leaf.ensures ∙ ap (λ t. ps p ++ t ∷ []) (sym same))
            (movable_left c.args.self.now c.args.rest.now (whole p))
        | inr s ↦
            move_first _ _ _ _ (placed p) _ c.requires.some (within p) _ s c.requires.few
      ]

  second : AreMovable (c.give_end-did.new.right ∷ zs p)
  second =
      elim (either c.give_end-did.result taken c.give_end-did.ensures.kept_right) [
        | inl same ↦
            subst AreMovable (rest_is p ∙ ap (λ t. t ∷ zs p) (sym same))
            (movable_right c.args.self.now c.args.rest.now (whole p))
        | inr h ↦ move_led _ _ _ _ _ (placed p) _ (within p) _ h c.requires.few
      ]

  second_is : c.pop-right.new.self ++ c.give_end-did.new.right ∷ []
      ≡ c.give_end-did.new.right ∷ []
  second_is = ap (λ l. l ++ c.give_end-did.new.right ∷ []) (none p)

  second_alone : AreMovable (c.pop-right.new.self ++ c.give_end-did.new.right ∷ [])
  second_alone =
      subst AreMovable (sym second_is)
      (movable_left (c.give_end-did.new.right ∷ []) (zs p) second)

pub push-requires-clause-level : goal.push-requires-clause-level
push-requires-clause-level c =
    (first (goal.at.push-requires-clause-level c).After-give_end-did).level

pub push-requires-clause-few : goal.push-requires-clause-few
push-requires-clause-few c = (first (goal.at.push-requires-clause-few c).After-give_end-did).few

pub push-requires-2-clause-level : goal.push-requires-2-clause-level
push-requires-2-clause-level c =
    (second_alone (goal.at.push-requires-2-clause-level c).After-give_end-did).level

pub push-requires-2-clause-few : goal.push-requires-2-clause-few
push-requires-2-clause-few c =
    (second_alone (goal.at.push-requires-2-clause-few c).After-give_end-did).few

pub take_from-requires-2-clause-level : goal.take_from-requires-2-clause-level
take_from-requires-2-clause-level c =
    let e = (goal.at.take_from-requires-2-clause-level c).After-give_end-did in
    (subst AreMovable (sym (ap (λ l. l ++ zs (p e)) (c.push-2.ensures ∙ second_is e)))
    (second e)).level

pub take_from-requires-2-clause-level_other : goal.take_from-requires-2-clause-level_other
take_from-requires-2-clause-level_other c =
    let e = (goal.at.take_from-requires-2-clause-level_other c).After-give_end-did in
    (movable_right (c.give_end-did.new.right ∷ []) (zs (p e)) (second e)).level

pub take_from-requires-2-clause-few : goal.take_from-requires-2-clause-few
take_from-requires-2-clause-few c =
    let e = (goal.at.take_from-requires-2-clause-few c).After-give_end-did in
    (subst AreMovable (sym (ap (λ l. l ++ zs (p e)) (c.push-2.ensures ∙ second_is e)))
    (second e)).few

back_is : (c : After-take_from-2)
    → c.take_from-2.new.self ≡ c.give_end-did.new.right ∷ c.take_from.new.self
back_is c =
    let e = (goal.at.After-take_from-2 c).After-give_end-did in
    c.take_from-2.ensures.moved
    ∙ ap (λ l. l ++ c.take_from.new.self) (c.push-2.ensures ∙ second_is e)

pub returns-clause-front : goal.returns-clause-front
returns-clause-front c = λ yes.
    let e = (goal.at.returns-clause-front c).After-give_end-did in
    rw (before_leaf (p e), c.push.ensures)
    (leaf_front _ _ _ _ (placed (p e)) _ c.requires.some (within (p e)) _ (started e yes))

pub returns-clause-back : goal.returns-clause-back
returns-clause-back c = λ yes.
    let e = (goal.at.returns-clause-back c).After-give_end-did in
    rw (before_leaf (p e), back_is (goal.at.returns-clause-back c).After-take_from-2)
    (led_back _ _ _ _ _ (placed (p e)) _ (within (p e)) _ (taken e yes))

pub returns-clause-following : goal.returns-clause-following
returns-clause-following c = λ yes more.
    let e = (goal.at.returns-clause-following c).After-give_end-did in
    rw c.push.ensures
    (leaf_following _ _ _ _ (placed (p e)) _ c.requires.some (within (p e)) _ (started e yes)
    (omega (arith, as_many (p e), more)))

pub returns-clause-ahead : goal.returns-clause-ahead
returns-clause-ahead c = λ yes.
    let e = (goal.at.returns-clause-ahead c).After-give_end-did in
    rw (back_is (goal.at.returns-clause-ahead c).After-take_from-2)
    (led_ahead _ _ _ _ _ (placed (p e)) _ (within (p e)) _ (taken e yes))
