use Rattle.std.proofs.Common.{rules, ◌≡◌, ℕ, ◌+◌, ◌*◌, ◌^◌, ◌<◌, ◌≤◌, true, false, List, [], ◌∷◌, ◌++◌, length, take, drop, IfOk, sym, ap, ap₂, subst, ◌∙◌, arith}
use Rattle.std.proofs.lemmas.List.{append_assoc, length-append, length-take-le, take-append-drop}
use Rattle.std.proofs.lemmas.Result.{IfOk-weaker}
use Rattle.rope_text.specs.Text.{byte_len}
use Rattle.rope_leaf.specs.Tree.{Tree, joined, height_of, breaks_of, tree_over, AreFamily}
use Rattle.rope_leaf.specs.Siblings.{AreLevel}
use Rattle.rope_leaf.specs.Searched.{HasSearched}
use Rattle.rope_tree.specs.Split.{AreSettled, IsBackOf, EndsAs, IsWhole}
use Rattle.rope_leaf.proofs.NodeLaws.{joined_one}
use Rattle.rope_tree.proofs.MoveLaws.{AreMovable, movable_left, movable_right, movable_of, movable_after}
use Rattle.rope_tree.proofs.BackSides.{back_movable, back_enough, back_all, back_side, back_ahead}
use Rattle.rope_tree.proofs.SplitLaws.{deeper, none_of, end_height, end_few, end_front, whole_front}
use Rattle.rope_tree.proofs.node.Children.+split_front.Goals.{split_first-After-take_from, split_first-In-Some, split_first-After-split_front-did, split_first-Joined-matches, split_first-in-Ok-true, split_first-in_default-matches, split_first-in_default-matches-2}
use Rattle.rope_tree.proofs.node.Children.+split_front.Goals as goal

-- the first two children, and the others
module _ {t : ℕ} (c : split_first-After-take_from t) where
  abbrev old : List Tree
  old = c.args.self.now

  two_are : c.take_from.new.other ≡ take 2 old
  two_are = c.take_from.ensures.rest

  rest_is : c.take_from.new.self ≡ drop 2 old
  rest_is = c.take_from.ensures.moved ∙ ap (λ l. l ++ drop 2 old) c.requires.none

  whole : c.take_from.new.other ++ c.take_from.new.self ≡ old
  whole = ap₂ (λ y z. y ++ z) two_are rest_is ∙ take-append-drop 2 old

  all : AreMovable (c.take_from.new.other ++ c.take_from.new.self)
  all = subst AreMovable (sym whole) (movable_of old c.requires.children c.requires.few)

  two : AreMovable c.take_from.new.other
  two = movable_left c.take_from.new.other c.take_from.new.self all

  many : length c.take_from.new.other ≡ 2
  many = ap length two_are ∙ length-take-le 2 old c.requires.children.at_least_two

-- their lists
module _ {t : ℕ} (c : split_first-In-Some t) where
  abbrev m : split_first-After-take_from t
  m = (goal.at.split_first-In-Some t c).After-take_from

  abbrev pre : List Tree
  pre = c.pop_two.new.self

  abbrev x : List Tree
  x = c.in-Some.list.value

  abbrev b : List Tree
  b = c.in-Some.right.value

  abbrev post : List Tree
  post = c.take_from.new.self

  none : length pre ≡ 0
  none =
      omega (
        arith,
        many m,
        ap length c.in-Some.ensures.lists,
        length-append pre (tree_over x ∷ tree_over b ∷ []),
      )

  is : old m ≡ pre ++ (tree_over x ∷ tree_over b ∷ post)
  is = sym (whole m) ∙ ap (λ l. l ++ post) c.in-Some.ensures.lists ∙ append_assoc pre _ post

  within : c.args.at < length (joined x)
  within =
      let e : take 1 (old m) ≡ tree_over x ∷ [] =
      ap (take 1) (is ∙ ap (λ l. l ++ (tree_over x ∷ tree_over b ∷ post)) (none_of pre none)) in
      omega (
        arith,
        c.requires.within,
        ap (λ l. length (joined l)) e,
        ap length (joined_one (tree_over x)),
      )

module _ {t : ℕ} (c : split_first-After-split_front-did t) where
  abbrev i : split_first-In-Some t
  i = (goal.at.split_first-After-split_front-did t c).In-Some

  abbrev f : List Tree
  f = c.split_front-did.new.self

  abbrev k : List Tree
  k = c.split_front-did.new.rest

module _ {t : ℕ} (c : split_first-Joined-matches t) where
  abbrev s : split_first-After-split_front-did t
  s = (goal.at.split_first-Joined-matches t c).After-split_front-did

  abbrev n : split_first-In-Some t
  n = i s

  parts : c.match-matches.matches ≡ true
      → IsWhole (breaks_of (x n)) (take c.args.at (joined (x n))) (f s)
      × (IsBackOf c.args.at (x n) (k s) × EndsAs (x n) (k s))
  parts did = elim c.match-matches.branch [
    | split_first-in-Ok-true w ↦
        subst (λ l. IsWhole (breaks_of l) (take c.args.at (joined l)) (f s)
        × (IsBackOf c.args.at l (k s) × EndsAs l (k s))) c.as_mut.ensures.value (
          w.in-Ok-true.ensures.front w.in-Ok-true.field-0-test,
          (
            w.in-Ok-true.ensures.back w.in-Ok-true.field-0-test,
            w.in-Ok-true.ensures.ahead w.in-Ok-true.field-0-test,
          ),
        )
    | split_first-in_default-matches w ↦ absurd (cc)
    | split_first-in_default-matches-2 w ↦ absurd (cc)
  ]

  kept : c.match-matches.matches ≡ false → f s ≡ x n
  kept undone = elim c.match-matches.branch [
    | split_first-in-Ok-true w ↦ absurd (cc)
    | split_first-in_default-matches w ↦ w.in_default-matches.ensures.kept (search rules)
    | split_first-in_default-matches-2 w ↦ w.in_default-matches.ensures.err
  ] ∙ c.as_mut.ensures.value

  -- the first two children, as they were
  restored : c.match-matches.matches ≡ false
      → pre n ++ (tree_over (f s) ∷ tree_over (b n) ∷ []) ≡ c.take_from.new.other
  restored undone = ap (λ l. pre n ++ (tree_over l ∷ tree_over (b n) ∷ [])) (kept undone)
      ∙ sym c.in-Some.ensures.lists

  below : c.args.at ≤ length (joined (x n))
  below = omega (arith, within n)

  height_x : height_of (x n) + 1 ≡ height_of c.args.self.now
  height_x =
      end_height c.args.self.now (pre n) (x n) (tree_over (b n) ∷ post n) (is n)
      c.requires.children

  counted : c.split_front-did.new.editor.maker.made ≤ c.args.editor.now.maker.made
      + height_of c.args.self.now
  counted =
      omega (arith, c.split_front-did.ensures.made, ap height_of c.as_mut.ensures.value, height_x)

  searched : HasSearched (height_of c.args.self.now) (7 * height_of c.args.self.now)
      c.args.editor.now c.split_front-did.new.editor
  searched =
      deeper _ _ _ _ _ c.as_mut.ensures.value height_x c.split_front-did.ensures.searched

  module _ (did : c.match-matches.matches ≡ true) where
    two_back : AreMovable (k s ++ b n)
    two_back =
        back_movable c.args.self.now (pre n) (x n) (b n) (post n) (is n) c.requires.children
        c.in-Some.ensures.first c.in-Some.ensures.second c.args.at (k s) (parts did).1.0
        (parts did).1.1 below c.requires.few

    enough : 12 ≤ length (k s ++ b n)
    enough =
        back_enough c.args.self.now (pre n) (x n) (b n) (post n) (is n) c.requires.children
        c.in-Some.ensures.first c.in-Some.ensures.second c.args.at (k s) (parts did).1.0
        (parts did).1.1 below

    module _ (nodes : List Tree) (settled : AreSettled (k s ++ b n) nodes) where
      backs : AreMovable (nodes ++ post n)
      backs =
          back_all c.args.self.now (pre n) (x n) (b n) (post n) (is n) c.requires.children
          c.in-Some.ensures.first c.in-Some.ensures.second c.args.at (k s) (parts did).1.0
          (parts did).1.1 below nodes settled c.requires.few

      back : IsBackOf c.args.at c.args.self.now (nodes ++ post n)
      back =
          let at : length (joined (pre n)) + c.args.at ≡ c.args.at =
          omega (arith, ap (λ l. length (joined l)) (none_of (pre n) (none n))) in
          subst (λ p. IsBackOf p c.args.self.now (nodes ++ post n)) at
          (back_side c.args.self.now (pre n) (x n) (b n) (post n) (is n) c.requires.children
          c.in-Some.ensures.first c.in-Some.ensures.second c.args.at (k s) (parts did).1.0
          (parts did).1.1 below nodes settled)

      ends : EndsAs c.args.self.now (nodes ++ post n)
      ends =
          back_ahead c.args.self.now (pre n) (x n) (b n) (post n) (is n) c.requires.children
          c.in-Some.ensures.first c.in-Some.ensures.second c.args.at (k s) (parts did).1.0
          (parts did).1.1 below nodes settled

pub split_first-take_from-requires-clause-level : goal.split_first-take_from-requires-clause-level
split_first-take_from-requires-clause-level t c =
    (movable_after c.args.self.now c.args.rest.now 2 c.requires.none
    (movable_of c.args.self.now c.requires.children c.requires.few)).level

pub split_first-take_from-requires-clause-few : goal.split_first-take_from-requires-clause-few
split_first-take_from-requires-clause-few t c =
    (movable_after c.args.self.now c.args.rest.now 2 c.requires.none
    (movable_of c.args.self.now c.requires.children c.requires.few)).few

pub split_first-pop_two-requires-clause-level : goal.split_first-pop_two-requires-clause-level
split_first-pop_two-requires-clause-level t c =
    (two (goal.at.split_first-pop_two-requires-clause-level t c).After-take_from).level

pub split_first-pop_two-requires-clause-few : goal.split_first-pop_two-requires-clause-few
split_first-pop_two-requires-clause-few t c =
    (two (goal.at.split_first-pop_two-requires-clause-few t c).After-take_from).few

pub split_first-take_from-requires-in_default-clause-level_other :
    goal.split_first-take_from-requires-in_default-clause-level_other
split_first-take_from-requires-in_default-clause-level_other t c =
    let m =
    (goal.at.split_first-take_from-requires-in_default-clause-level_other t c).After-take_from in
    (movable_right c.take_from.new.other c.take_from.new.self (all m)).level

pub split_first-split_front-did-requires : goal.split_first-split_front-did-requires
split_first-split_front-did-requires t c =
    let n = (goal.at.split_first-split_front-did-requires t c).In-Some in
    let e = c.as_mut.ensures.value in
    let up =
    end_height c.args.self.now (pre n) (x n) (tree_over (b n) ∷ post n) (is n)
    c.requires.children in (
      omega (arith, c.decreases, ap height_of e, up),
      (
        subst AreFamily (sym e) c.in-Some.ensures.first,
        (
          rw e (end_few c.args.self.now (pre n) (x n) (tree_over (b n) ∷ post n) (is n)
              c.requires.children c.requires.few),
          (
            c.requires.some,
            (
              rw e (within n),
              (c.as_mut-2.ensures.value ∙ c.in_ok-back.ensures, c.requires.none_in_pocket),
            ),
          ),
        ),
      ),
    )

pub split_first-push_two-requires-clause-level : goal.split_first-push_two-requires-clause-level
split_first-push_two-requires-clause-level t c =
    let j = (goal.at.split_first-push_two-requires-clause-level t c).Joined-matches in
    let m = (goal.at.split_first-push_two-requires-clause-level t c).After-take_from in
    subst AreLevel (sym (restored j c.if-not-matches.true)) (two m).level

pub split_first-push_two-requires-clause-few : goal.split_first-push_two-requires-clause-few
split_first-push_two-requires-clause-few t c =
    let j = (goal.at.split_first-push_two-requires-clause-few t c).Joined-matches in
    let m = (goal.at.split_first-push_two-requires-clause-few t c).After-take_from in
    subst (λ l. byte_len (joined l) < 2 ^ 32) (sym (restored j c.if-not-matches.true)) (two m).few

pub split_first-take_from-requires-then-not-matches-clause-level :
    goal.split_first-take_from-requires-then-not-matches-clause-level
split_first-take_from-requires-then-not-matches-clause-level t c =
    let j =
    (goal.at.split_first-take_from-requires-then-not-matches-clause-level t c).Joined-matches in
    let m =
    (goal.at.split_first-take_from-requires-then-not-matches-clause-level t c).After-take_from in
    subst (λ l. AreLevel (l ++ c.take_from.new.self))
    (sym (c.push_two.ensures ∙ restored j c.if-not-matches.true)) (all m).level

pub split_first-take_from-requires-then-not-matches-clause-level_other :
    goal.split_first-take_from-requires-then-not-matches-clause-level_other
split_first-take_from-requires-then-not-matches-clause-level_other t c =
    let m =
    (goal.at.split_first-take_from-requires-then-not-matches-clause-level_other t
    c).After-take_from in
    (movable_right c.take_from.new.other c.take_from.new.self (all m)).level

pub split_first-prepend_settled-requires-clause-level :
    goal.split_first-prepend_settled-requires-clause-level
split_first-prepend_settled-requires-clause-level t c =
    (two_back (goal.at.split_first-prepend_settled-requires-clause-level t c).Joined-matches
    c.if-not-matches.false).level

pub split_first-prepend_settled-requires-clause-few :
    goal.split_first-prepend_settled-requires-clause-few
split_first-prepend_settled-requires-clause-few t c =
    (two_back (goal.at.split_first-prepend_settled-requires-clause-few t c).Joined-matches
    c.if-not-matches.false).few

pub split_first-prepend_settled-requires-clause-enough :
    goal.split_first-prepend_settled-requires-clause-enough
split_first-prepend_settled-requires-clause-enough t c =
    enough (goal.at.split_first-prepend_settled-requires-clause-enough t c).Joined-matches
    c.if-not-matches.false

pub split_first-prepend_settled-requires-clause-fits :
    goal.split_first-prepend_settled-requires-clause-fits
split_first-prepend_settled-requires-clause-fits t c = λ nodes settled.
    (backs
    (goal.at.split_first-prepend_settled-requires-clause-fits t c).Joined-matches
    c.if-not-matches.false
    nodes settled).level

pub split_first-prepend_settled-requires-clause-narrow :
    goal.split_first-prepend_settled-requires-clause-narrow
split_first-prepend_settled-requires-clause-narrow t c = λ nodes settled.
    (backs
    (goal.at.split_first-prepend_settled-requires-clause-narrow t c).Joined-matches
    c.if-not-matches.false
    nodes settled).few

pub split_first-returns-clause-front : goal.split_first-returns-clause-front
split_first-returns-clause-front t c = λ _.
    let j = (goal.at.split_first-returns-clause-front t c).Joined-matches in
    subst (IsWhole (breaks_of c.args.self.now) (take c.args.at (joined c.args.self.now)))
    (sym (c.swap.ensures.x_after ∙ c.as_mut-3.ensures.value))
    (end_front c.args.self.now (pre (n j)) (x (n j)) (tree_over (b (n j)) ∷ post (n j)) (is (n j))
    c.requires.children c.args.at (f (s j)) (none (n j)) (below j)
    (parts j c.if-not-matches.false).0)

pub split_first-returns-clause-back : goal.split_first-returns-clause-back
split_first-returns-clause-back t c = λ _.
    let j = (goal.at.split_first-returns-clause-back t c).Joined-matches in
    let q = c.prepend_settled.ensures.prepended in
    subst (IsBackOf c.args.at c.args.self.now) (sym q.is)
    (back j c.if-not-matches.false q.nodes q.settled)

pub split_first-returns-clause-ahead : goal.split_first-returns-clause-ahead
split_first-returns-clause-ahead t c = λ _.
    let j = (goal.at.split_first-returns-clause-ahead t c).Joined-matches in
    let q = c.prepend_settled.ensures.prepended in
    subst (EndsAs c.args.self.now) (sym q.is)
    (ends j c.if-not-matches.false q.nodes q.settled)

pub split_first-returns-clause-made : goal.split_first-returns-clause-made
split_first-returns-clause-made t c =
    omega (
      arith,
      counted (goal.at.split_first-returns-clause-made t c).Joined-matches,
      c.add_made.ensures.most,
    )

pub split_first-returns-clause-searched : goal.split_first-returns-clause-searched
split_first-returns-clause-searched t c =
    let r = searched (goal.at.split_first-returns-clause-searched t c).Joined-matches in
    record { rise = r.rise; nodes = r.nodes; compares = r.compares }

pub split_front-returns-then-at-get-clause-front : goal.split_front-returns-then-at-get-clause-front
split_front-returns-then-at-get-clause-front t c =
    IfOk-weaker c.split.result _ _ (λ _ sides did. whole_front c.args.at _ _ c.requires.children
    (sides did).is_front) c.split.ensures.done

pub split_front-returns-then-self-eq1-clause-front :
    goal.split_front-returns-then-self-eq1-clause-front
split_front-returns-then-self-eq1-clause-front t c =
    subst (λ p. IfOk c.split_leaf_at.result (λ did. did ≡ true
    → IsWhole (breaks_of c.args.self.now) (take p (joined c.args.self.now))
    c.split_leaf_at.new.self)) (omega arith)
    (IfOk-weaker c.split_leaf_at.result _ _ (λ _ front did. whole_front (0 + c.args.at) _ _
    c.requires.children (front did)) c.split_leaf_at.ensures.front)
