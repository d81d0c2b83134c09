use Rattle.std.proofs.Common.{rules, ◌≡◌, ◌+◌, ◌-◌, ◌^◌, ◌<◌, ◌≤◌, true, false, Ok, List, ◌++◌, length, get_or, take, sym, ap, ap₂, subst, ◌∙◌, arith}
use Rattle.std.proofs.lemmas.List.{length-take-le, get_or-take, take-take}
use Rattle.std.proofs.lemmas.Result.{IfOk-weaker}
use Rattle.rope_text.specs.Text.{byte_len}
use Rattle.rope_leaf.specs.Tree.{Tree, text, joined, AreFamily}
use Rattle.rope_leaf.specs.Siblings.{AreLevel}
use Rattle.rope_tree.specs.Split.{IsFrontOf, IsBackOf, MayFollow}
use Rattle.rope_tree.proofs.ChildLaws.{if_idle}
use Rattle.rope_tree.proofs.MoveLaws.{AreMovable, movable_of, movable_right, movable_after, both_parts}
use Rattle.rope_tree.proofs.SplitLaws.{not_done}
use Rattle.rope_tree.proofs.node.Children.split_leaf_at.Goals.{After-take_from, After-split_leaf-did, Joined-matches, in-Ok-true, in_default, in_default-2}
use Rattle.rope_tree.proofs.node.Children.split_leaf_at.Goals as goal

module _ (c : After-take_from) where
  abbrev ts : List Tree
  ts = c.args.self.now

  abbrev o : List Tree
  o = c.take_from.new.other

  both : o ++ c.take_from.new.self ≡ ts
  both = ap₂ (λ y z. y ++ z) c.take_from.ensures.rest c.take_from.ensures.moved
      ∙ both_parts ts c.args.rest.now (c.args.place + 1) c.requires.none

  last : length o - 1 ≡ c.args.place
  last =
      omega (
        arith,
        ap length c.take_from.ensures.rest,
        length-take-le (c.args.place + 1) ts (omega (arith, c.requires.child)),
      )

  before : length (joined (take (length o - 1) o)) ≡ length (joined (take c.args.place ts))
  before = ap (λ l. length (joined l))
      (ap (λ n. take n o) last ∙ ap (take c.args.place) c.take_from.ensures.rest
      ∙ take-take c.args.place (c.args.place + 1) ts (omega arith))

pub take_from-requires-clause-level : goal.take_from-requires-clause-level
take_from-requires-clause-level c =
    (movable_after c.args.self.now c.args.rest.now (c.args.place + 1) c.requires.none
    (movable_of c.args.self.now c.requires.children c.requires.few)).level

pub take_from-requires-clause-few : goal.take_from-requires-clause-few
take_from-requires-clause-few c =
    (movable_after c.args.self.now c.args.rest.now (c.args.place + 1) c.requires.none
    (movable_of c.args.self.now c.requires.children c.requires.few)).few

pub split_leaf-did-requires-clause-within : goal.split_leaf-did-requires-clause-within
split_leaf-did-requires-clause-within c leaf =
    let k = (goal.at.split_leaf-did-requires-clause-within c).After-take_from in
    let at : get_or (o k) (length (o k) - 1) leaf ≡ get_or (ts k) c.args.place leaf =
    ap (λ i. get_or (o k) i leaf) (last k)
    ∙ ap (λ l. get_or l c.args.place leaf) c.take_from.ensures.rest
    ∙ get_or-take (c.args.place + 1) (ts k) c.args.place leaf (omega arith) in
    subst (λ t. c.args.inside < length (text t)) (sym at) (c.requires.within leaf)

-- the children, where nothing was split
restored : (c : After-split_leaf-did)
    → (c.split_leaf-did.result ≡ Ok true → ⊥)
    → c.split_leaf-did.new.self ++ c.split_leaf-did.new.rest ≡ c.args.self.now
restored c other =
    let kept = not_done c.split_leaf-did.result c.split_leaf-did.ensures.kept
    c.split_leaf-did.ensures.err other in
    ap₂ (λ y z. y ++ z) kept.0 kept.1 ∙ both (goal.at.After-split_leaf-did c).After-take_from

whole : (c : Joined-matches) → c.match-matches.matches ≡ false
    → c.split_leaf-did.new.self ++ c.split_leaf-did.new.rest ≡ c.args.self.now
whole c undone =
    let e = (goal.at.Joined-matches c).After-split_leaf-did in
    elim c.match-matches.branch [
      | in-Ok-true w ↦ absurd (cc)
      | in_default w ↦ restored e (λ is. search rules)
      | in_default-2 w ↦ restored e (λ is. search rules)
    ]

pub take_from-requires-then-not-matches-clause-level :
    goal.take_from-requires-then-not-matches-clause-level
take_from-requires-then-not-matches-clause-level c =
    let k = (goal.at.take_from-requires-then-not-matches-clause-level c).Joined-matches in
    subst AreLevel (sym (whole k c.if-not-matches.true))
    (movable_of c.args.self.now c.requires.children c.requires.few).level

pub take_from-requires-then-not-matches-clause-level_other :
    goal.take_from-requires-then-not-matches-clause-level_other
take_from-requires-then-not-matches-clause-level_other c =
    let k = (goal.at.take_from-requires-then-not-matches-clause-level_other c).Joined-matches in
    (movable_right c.split_leaf-did.new.self c.split_leaf-did.new.rest
    (subst AreMovable (sym (whole k c.if-not-matches.true))
    (movable_of c.args.self.now c.requires.children c.requires.few))).level

pub split_leaf-did-requires-clause-children : goal.split_leaf-did-requires-clause-children
split_leaf-did-requires-clause-children c =
    let k = (goal.at.split_leaf-did-requires-clause-children c).After-take_from in
    subst AreFamily (sym (both k)) c.requires.children

pub take_from-requires-then-not-matches-clause-few :
    goal.take_from-requires-then-not-matches-clause-few
take_from-requires-then-not-matches-clause-few c =
    let k = (goal.at.take_from-requires-then-not-matches-clause-few c).Joined-matches in
    subst (λ l. byte_len (joined l) < 2 ^ 32) (sym (whole k c.if-not-matches.true)) c.requires.few

pub take_from-requires-then-not-matches-clause-room :
    goal.take_from-requires-then-not-matches-clause-room
take_from-requires-then-not-matches-clause-room c =
    let k = (goal.at.take_from-requires-then-not-matches-clause-room c).Joined-matches in
    subst (λ l. length l ≤ 24) (sym (whole k c.if-not-matches.true))
    c.requires.children.at_most_24

pub returns-then-not-matches-clause-kept : goal.returns-then-not-matches-clause-kept
returns-then-not-matches-clause-kept c =
    let k = (goal.at.returns-then-not-matches-clause-kept c).Joined-matches in
    if_idle _ (c.take_from-then-not-matches.ensures.moved ∙ whole k c.if-not-matches.true)

-- the result is that of the split
told : (c : Joined-matches) → c.match-matches.did ≡ c.split_leaf-did.result
told c = elim c.match-matches.branch [
  | in-Ok-true w ↦ w.did-is ∙ sym w.in-Ok-true.is
  | in_default w ↦ search rules
  | in_default-2 w ↦ search rules
]

pub returns-else-not-matches-clause-front : goal.returns-else-not-matches-clause-front
returns-else-not-matches-clause-front c =
    let k = (goal.at.returns-else-not-matches-clause-front c).After-take_from in
    let now = c.split_leaf-did.new.self in
    rw (told (goal.at.returns-else-not-matches-clause-front c).Joined-matches)
    (IfOk-weaker c.split_leaf-did.result _ _
    (λ did front here. subst (λ n. IsFrontOf (n + c.args.inside) (ts k) now) (before k)
    (subst (λ l. IsFrontOf (length (joined (take (length (o k) - 1) (o k))) + c.args.inside) l now)
    (both k) (front here)))
    c.split_leaf-did.ensures.front)

pub returns-else-not-matches-clause-back : goal.returns-else-not-matches-clause-back
returns-else-not-matches-clause-back c =
    let k = (goal.at.returns-else-not-matches-clause-back c).After-take_from in
    let now = c.split_leaf-did.new.rest in
    rw (told (goal.at.returns-else-not-matches-clause-back c).Joined-matches)
    (IfOk-weaker c.split_leaf-did.result _ _
    (λ did back here. subst (λ n. IsBackOf (n + c.args.inside) (ts k) now) (before k)
    (subst (λ l. IsBackOf (length (joined (take (length (o k) - 1) (o k))) + c.args.inside) l now)
    (both k) (back here)))
    c.split_leaf-did.ensures.back)

pub returns-else-not-matches-clause-following : goal.returns-else-not-matches-clause-following
returns-else-not-matches-clause-following c =
    let k = (goal.at.returns-else-not-matches-clause-following c).After-take_from in
    rw (told (goal.at.returns-else-not-matches-clause-following c).Joined-matches)
    (IfOk-weaker c.split_leaf-did.result _ _
    (λ did follows here some. subst (λ l. MayFollow l c.split_leaf-did.new.self) (both k)
    (follows here (omega (arith, some, last k))))
    c.split_leaf-did.ensures.following)
