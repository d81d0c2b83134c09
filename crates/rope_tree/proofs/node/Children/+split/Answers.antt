use Rattle.std.proofs.Common.{rules, ◌*◌, ◌≡◌, ℕ, ◌+◌, ◌-◌, ◌^◌, ◌<◌, ◌≤◌, true, false, List, [], ◌∷◌, ◌++◌, length, get_or, take, drop, refl, sym, ap, ap₂, subst, ◌∙◌, IfOk, arith}
use Rattle.std.proofs.lemmas.List.{append_assoc, length-append, length-drop, length-take-le, get_or-take, take-take}
use Rattle.std.proofs.lemmas.Result.{IfOk-weaker}
use Rattle.std.proofs.Math.Seq.{get_or-append_seam, take-append_seam}
use Rattle.rope_text.specs.Text.{byte_len}
use Rattle.rope_leaf.specs.Tree.{Tree, text, joined, height_of, tree_over, AreFamily}
use Rattle.rope_leaf.specs.Siblings.{AreLevel}
use Rattle.rope_tree.specs.Split.{AreSettled, IsFrontOf, IsBackOf, MayFollow, EndsAs, AreSides}
use Rattle.rope_leaf.specs.Searched.{HasSearched}
use Rattle.rope_tree.proofs.ChildLaws.{if_idle}
use Rattle.rope_tree.proofs.MoveLaws.{AreMovable, movable_left, movable_right, movable_of, movable_after, both_parts}
use Rattle.rope_tree.proofs.FrontSides.{front_movable, front_enough, front_all, front_side, front_following}
use Rattle.rope_tree.proofs.BackSides.{back_movable, back_enough, back_all, back_side, back_ahead}
use Rattle.rope_tree.proofs.SplitLaws.{deeper, not_done, first_some, same_sides, between_sides, joined_two, middle_height, middle_few}
use Rattle.rope_tree.proofs.node.Children.+split.Goals.{split_list-In-Some, split_list-After-split-did, split_list-Joined-matches, split_list-After-over, split_list-in-Ok-true, split_list-in_default-matches, split_list-in_default-matches-2, split-After-take_from-2, split-Joined-matches, split-in-Ok-true, split-in_default, split-in_default-2}
use Rattle.rope_tree.proofs.node.Children.+split.Goals as goal

-- the three lists
module _ (t : ℕ) (c : split_list-In-Some t) where
  abbrev old : List Tree
  old = c.args.self.now ++ c.args.rest.now

  abbrev pre : List Tree
  pre = c.pop_three.new.self

  abbrev a : List Tree
  a = c.in-Some.left.value

  abbrev x : List Tree
  x = c.in-Some.list.value

  abbrev b : List Tree
  b = c.in-Some.right.value

  front_is : old ≡ pre ++ (tree_over a ∷ tree_over x ∷ (tree_over b ∷ c.args.rest.now))
  front_is = ap (λ l. l ++ c.args.rest.now) c.in-Some.ensures.lists
      ∙ append_assoc pre _ c.args.rest.now

  back_is : old ≡ (pre ++ tree_over a ∷ []) ++ (tree_over x ∷ tree_over b ∷ c.args.rest.now)
  back_is = front_is ∙ sym (append_assoc pre (tree_over a ∷ []) _)

  own : AreMovable c.args.self.now
  own =
      movable_left c.args.self.now c.args.rest.now
      (movable_of old c.requires.children c.requires.few)

  long : length c.args.self.now ≡ length pre + 3
  long = ap length c.in-Some.ensures.lists
      ∙ length-append pre (tree_over a ∷ tree_over x ∷ tree_over b ∷ [])

  -- the text of the list that is split
  inside_x : c.args.inside < length (joined x)
  inside_x =
      let e : c.args.self.now ≡ (pre ++ tree_over a ∷ []) ++ (tree_over x ∷ tree_over b ∷ []) =
      c.in-Some.ensures.lists ∙ sym (append_assoc pre (tree_over a ∷ []) _) in
      let n : length c.args.self.now - 2 ≡ length (pre ++ tree_over a ∷ []) =
      omega (arith, long, length-append pre (tree_over a ∷ [])) in
      let at : get_or c.args.self.now (length c.args.self.now - 2) (tree_over x) ≡ tree_over x =
      ap (λ k. get_or c.args.self.now k (tree_over x)) n
      ∙ ap (λ l. get_or l (length (pre ++ tree_over a ∷ [])) (tree_over x)) e
      ∙ get_or-append_seam (pre ++ tree_over a ∷ []) (tree_over x) (tree_over b ∷ [])
      (tree_over x) in
      subst (λ y. c.args.inside < length (text y)) at (c.requires.within (tree_over x))

  -- the text before it
  before : length (joined (take (length c.args.self.now - 2) c.args.self.now))
      ≡ length (joined pre) + length (joined a)
  before =
      let e : c.args.self.now ≡ (pre ++ tree_over a ∷ []) ++ (tree_over x ∷ tree_over b ∷ []) =
      c.in-Some.ensures.lists ∙ sym (append_assoc pre (tree_over a ∷ []) _) in
      let n : length c.args.self.now - 2 ≡ length (pre ++ tree_over a ∷ []) =
      omega (arith, long, length-append pre (tree_over a ∷ [])) in
      ap (λ l. length (joined l)) (ap (λ k. take k c.args.self.now) n
      ∙ ap (take (length (pre ++ tree_over a ∷ []))) e
      ∙ take-append_seam (pre ++ tree_over a ∷ []) (tree_over x ∷ tree_over b ∷ []))
      ∙ joined_two pre a

-- after the middle one was split, or not
module _ (t : ℕ) (c : split_list-After-split-did t) where
  abbrev i : split_list-In-Some t
  i = (goal.at.split_list-After-split-did t c).In-Some

  abbrev f : List Tree
  f = c.split-did.new.self

  abbrev k : List Tree
  k = c.split-did.new.rest

module _ (t : ℕ) (c : split_list-Joined-matches t) where
  abbrev s : split_list-After-split-did t
  s = (goal.at.split_list-Joined-matches t c).After-split-did

  sides : c.match-matches.matches ≡ true → AreSides c.args.inside (x t (i t s)) (f t s) (k t s)
  sides did = elim c.match-matches.branch [
    | split_list-in-Ok-true w ↦
        subst (λ l. AreSides c.args.inside l (f t s) (k t s)) c.as_mut.ensures.value
        (w.in-Ok-true.ensures.done w.in-Ok-true.field-0-test)
    | split_list-in_default-matches w ↦ absurd (cc)
    | split_list-in_default-matches-2 w ↦ absurd (cc)
  ]

  kept : c.match-matches.matches ≡ false → f t s ≡ x t (i t s)
  kept undone = elim c.match-matches.branch [
    | split_list-in-Ok-true w ↦ absurd (cc)
    | split_list-in_default-matches w ↦ w.in_default-matches.ensures.kept (search rules)
    | split_list-in_default-matches-2 w ↦ w.in_default-matches.ensures.err
  ] ∙ c.as_mut.ensures.value

  -- the first two, as they were
  first_two : c.match-matches.matches ≡ false
      → AreMovable (pre t (i t s) ++ (tree_over (a t (i t s)) ∷ tree_over (f t s) ∷ []))
  first_two undone =
      subst (λ l. AreMovable (pre t (i t s) ++ (tree_over (a t (i t s)) ∷ tree_over l ∷ [])))
      (sym (kept undone))
      (movable_left _ (tree_over (b t (i t s)) ∷ [])
      (subst AreMovable (c.in-Some.ensures.lists ∙ sym (append_assoc (pre t (i t s))
      (tree_over (a t (i t s)) ∷ tree_over (x t (i t s)) ∷ [])
      (tree_over (b t (i t s)) ∷ []))) (own t (i t s))))

  -- all three, as they were
  all_three : c.match-matches.matches ≡ false
      → (pre t (i t s) ++ (tree_over (a t (i t s)) ∷ tree_over (f t s) ∷ []))
      ++ tree_over (b t (i t s)) ∷ [] ≡ c.args.self.now
  all_three undone = append_assoc (pre t (i t s)) _ (tree_over (b t (i t s)) ∷ [])
      ∙ ap (λ l. pre t (i t s) ++ (tree_over (a t (i t s)) ∷ tree_over l
      ∷ tree_over (b t (i t s)) ∷ [])) (kept undone) ∙ sym c.in-Some.ensures.lists

  abbrev n : split_list-In-Some t
  n = i t s

  below : c.args.inside ≤ length (joined (x t n))
  below = omega (arith, inside_x t n)

  height_x : height_of (x t n) + 1 ≡ height_of (old t n)
  height_x =
      middle_height (old t n) (pre t n) (x t n) (tree_over (b t n) ∷ c.args.rest.now)
      (tree_over (a t n)) (front_is t n) c.requires.children

  module _ (did : c.match-matches.matches ≡ true) where
    two_front : AreMovable (a t n ++ f t s)
    two_front =
        front_movable (old t n) (pre t n) (a t n) (x t n) (tree_over (b t n) ∷ c.args.rest.now)
        (front_is t n) c.requires.children c.in-Some.ensures.first c.in-Some.ensures.second
        c.args.inside (f t s) (sides did).is_front (sides did).following below c.requires.few

    enough_front : 12 ≤ length (a t n ++ f t s)
    enough_front =
        front_enough (old t n) (pre t n) (a t n) (x t n) (tree_over (b t n) ∷ c.args.rest.now)
        (front_is t n) c.requires.children c.in-Some.ensures.first c.in-Some.ensures.second
        c.args.inside (f t s) (sides did).is_front (sides did).following below

    two_back : AreMovable (k t s ++ b t n)
    two_back =
        back_movable (old t n) (pre t n ++ tree_over (a t n) ∷ []) (x t n) (b t n) c.args.rest.now
        (back_is t n) c.requires.children c.in-Some.ensures.second c.in-Some.ensures.third
        c.args.inside (k t s) (sides did).is_back (sides did).ahead below c.requires.few

    enough_back : 12 ≤ length (k t s ++ b t n)
    enough_back =
        back_enough (old t n) (pre t n ++ tree_over (a t n) ∷ []) (x t n) (b t n) c.args.rest.now
        (back_is t n) c.requires.children c.in-Some.ensures.second c.in-Some.ensures.third
        c.args.inside (k t s) (sides did).is_back (sides did).ahead below

    module _ (nodes : List Tree) (settled : AreSettled (a t n ++ f t s) nodes) where
      fronts : AreMovable (pre t n ++ nodes)
      fronts =
          front_all (old t n) (pre t n) (a t n) (x t n) (tree_over (b t n) ∷ c.args.rest.now)
          (front_is t n) c.requires.children c.in-Some.ensures.first c.in-Some.ensures.second
          c.args.inside (f t s) (sides did).is_front (sides did).following below nodes settled
          c.requires.few

      side_front : IsFrontOf (length (joined (pre t n)) + (length (joined (a t n))
          + c.args.inside)) (old t n) (pre t n ++ nodes)
      side_front =
          front_side (old t n) (pre t n) (a t n) (x t n) (tree_over (b t n) ∷ c.args.rest.now)
          (front_is t n) c.requires.children c.in-Some.ensures.first c.in-Some.ensures.second
          c.args.inside (f t s) (sides did).is_front (sides did).following below nodes settled

      follow : MayFollow (old t n) (pre t n ++ nodes)
      follow =
          front_following (old t n) (pre t n) (a t n) (x t n)
          (tree_over (b t n) ∷ c.args.rest.now) (front_is t n) c.requires.children
          c.in-Some.ensures.first c.in-Some.ensures.second c.args.inside (f t s)
          (sides did).is_front (sides did).following below nodes settled

    module _ (nodes : List Tree) (settled : AreSettled (k t s ++ b t n) nodes) where
      backs : AreMovable (nodes ++ c.args.rest.now)
      backs =
          back_all (old t n) (pre t n ++ tree_over (a t n) ∷ []) (x t n) (b t n) c.args.rest.now
          (back_is t n) c.requires.children c.in-Some.ensures.second c.in-Some.ensures.third
          c.args.inside (k t s) (sides did).is_back (sides did).ahead below nodes settled
          c.requires.few

      side_back : IsBackOf (length (joined (pre t n ++ tree_over (a t n) ∷ [])) + c.args.inside)
          (old t n) (nodes ++ c.args.rest.now)
      side_back =
          back_side (old t n) (pre t n ++ tree_over (a t n) ∷ []) (x t n) (b t n) c.args.rest.now
          (back_is t n) c.requires.children c.in-Some.ensures.second c.in-Some.ensures.third
          c.args.inside (k t s) (sides did).is_back (sides did).ahead below nodes settled

      ends : EndsAs (old t n) (nodes ++ c.args.rest.now)
      ends =
          back_ahead (old t n) (pre t n ++ tree_over (a t n) ∷ []) (x t n) (b t n)
          c.args.rest.now (back_is t n) c.requires.children c.in-Some.ensures.second
          c.in-Some.ensures.third c.args.inside (k t s) (sides did).is_back (sides did).ahead below
          nodes settled

pub split_list-pop_three-requires-clause-level : goal.split_list-pop_three-requires-clause-level
split_list-pop_three-requires-clause-level t c =
    (movable_left c.args.self.now c.args.rest.now
    (movable_of _ c.requires.children c.requires.few)).level

pub split_list-pop_three-requires-clause-few : goal.split_list-pop_three-requires-clause-few
split_list-pop_three-requires-clause-few t c =
    (movable_left c.args.self.now c.args.rest.now
    (movable_of _ c.requires.children c.requires.few)).few

pub split_list-split-did-requires : goal.split_list-split-did-requires
split_list-split-did-requires t c =
    let i = (goal.at.split_list-split-did-requires t c).In-Some in
    let e = c.as_mut.ensures.value in (
      omega (
        arith,
        c.decreases,
        ap height_of e,
        middle_height (old t i) (pre t i) (x t i) (tree_over (b t i) ∷ c.args.rest.now)
            (tree_over (a t i)) (front_is t i) c.requires.children,
      ),
      (
        subst AreFamily (sym e) c.in-Some.ensures.second,
        (
          rw e (middle_few (old t i) (pre t i) (x t i) (tree_over (b t i) ∷ c.args.rest.now)
              (tree_over (a t i)) (front_is t i) c.requires.few),
          (
            c.requires.some,
            (
              rw e (inside_x t i),
              (c.as_mut-2.ensures.value ∙ c.in_ok-back.ensures, c.requires.none),
            ),
          ),
        ),
      ),
    )

pub split_list-push_two-requires-clause-level : goal.split_list-push_two-requires-clause-level
split_list-push_two-requires-clause-level t c =
    (first_two t (goal.at.split_list-push_two-requires-clause-level t c).Joined-matches
    c.if-not-matches.true).level

pub split_list-push_two-requires-clause-few : goal.split_list-push_two-requires-clause-few
split_list-push_two-requires-clause-few t c =
    (first_two t (goal.at.split_list-push_two-requires-clause-few t c).Joined-matches
    c.if-not-matches.true).few

-- the children as they were, with the last one
module _ (t : ℕ) (c : split_list-After-over t) where
  restored : c.match-matches.matches ≡ false
      → c.push_two.new.self ++ c.over.result ∷ [] ≡ c.args.self.now
  restored undone =
      let m = (goal.at.split_list-After-over t c).Joined-matches in
      ap₂ (λ l u. l ++ u ∷ []) c.push_two.ensures c.over.ensures ∙ all_three t m undone

pub split_list-push-requires-clause-level : goal.split_list-push-requires-clause-level
split_list-push-requires-clause-level t c =
    let o = (goal.at.split_list-push-requires-clause-level t c).After-over in
    let i = (goal.at.split_list-push-requires-clause-level t c).In-Some in
    subst AreLevel (sym (restored t o c.if-not-matches.true)) (own t i).level

pub split_list-push-requires-clause-few : goal.split_list-push-requires-clause-few
split_list-push-requires-clause-few t c =
    let o = (goal.at.split_list-push-requires-clause-few t c).After-over in
    let i = (goal.at.split_list-push-requires-clause-few t c).In-Some in
    subst (λ l. byte_len (joined l) < 2 ^ 32) (sym (restored t o c.if-not-matches.true))
    (own t i).few

-- what the search in the middle list counts
module _ (t : ℕ) (c : split_list-Joined-matches t) where
  counted : c.split-did.new.editor.maker.made ≤ c.args.editor.now.maker.made
      + height_of (c.args.self.now ++ c.args.rest.now)
  counted =
      omega (arith, c.split-did.ensures.made, ap height_of c.as_mut.ensures.value, height_x t c)

  searched : HasSearched (height_of (c.args.self.now ++ c.args.rest.now))
      (7 * height_of (c.args.self.now ++ c.args.rest.now)) c.args.editor.now c.split-did.new.editor
  searched =
      deeper _ _ _ _ _ c.as_mut.ensures.value (height_x t c) c.split-did.ensures.searched

pub split_list-returns-then-not-matches-clause-made :
    goal.split_list-returns-then-not-matches-clause-made
split_list-returns-then-not-matches-clause-made t c =
    let m = (goal.at.split_list-returns-then-not-matches-clause-made t c).Joined-matches in
    omega (arith, counted t m)

pub split_list-returns-then-not-matches-clause-searched :
    goal.split_list-returns-then-not-matches-clause-searched
split_list-returns-then-not-matches-clause-searched t c =
    searched t (goal.at.split_list-returns-then-not-matches-clause-searched t c).Joined-matches

pub split_list-push_settled-requires-clause-level :
    goal.split_list-push_settled-requires-clause-level
split_list-push_settled-requires-clause-level t c =
    let m = (goal.at.split_list-push_settled-requires-clause-level t c).Joined-matches in
    (two_front t m c.if-not-matches.false).level

pub split_list-push_settled-requires-clause-few : goal.split_list-push_settled-requires-clause-few
split_list-push_settled-requires-clause-few t c =
    let m = (goal.at.split_list-push_settled-requires-clause-few t c).Joined-matches in
    (two_front t m c.if-not-matches.false).few

pub split_list-push_settled-requires-clause-enough :
    goal.split_list-push_settled-requires-clause-enough
split_list-push_settled-requires-clause-enough t c =
    let m = (goal.at.split_list-push_settled-requires-clause-enough t c).Joined-matches in
    enough_front t m c.if-not-matches.false

pub split_list-push_settled-requires-clause-fits : goal.split_list-push_settled-requires-clause-fits
split_list-push_settled-requires-clause-fits t c = λ nodes settled.
    let m = (goal.at.split_list-push_settled-requires-clause-fits t c).Joined-matches in
    (fronts t m c.if-not-matches.false nodes settled).level

pub split_list-push_settled-requires-clause-narrow :
    goal.split_list-push_settled-requires-clause-narrow
split_list-push_settled-requires-clause-narrow t c = λ nodes settled.
    let m = (goal.at.split_list-push_settled-requires-clause-narrow t c).Joined-matches in
    (fronts t m c.if-not-matches.false nodes settled).few

pub split_list-prepend_settled-requires-clause-level :
    goal.split_list-prepend_settled-requires-clause-level
split_list-prepend_settled-requires-clause-level t c =
    let m = (goal.at.split_list-prepend_settled-requires-clause-level t c).Joined-matches in
    (two_back t m c.if-not-matches.false).level

pub split_list-prepend_settled-requires-clause-few :
    goal.split_list-prepend_settled-requires-clause-few
split_list-prepend_settled-requires-clause-few t c =
    let m = (goal.at.split_list-prepend_settled-requires-clause-few t c).Joined-matches in
    (two_back t m c.if-not-matches.false).few

pub split_list-prepend_settled-requires-clause-enough :
    goal.split_list-prepend_settled-requires-clause-enough
split_list-prepend_settled-requires-clause-enough t c =
    let m = (goal.at.split_list-prepend_settled-requires-clause-enough t c).Joined-matches in
    enough_back t m c.if-not-matches.false

pub split_list-prepend_settled-requires-clause-fits :
    goal.split_list-prepend_settled-requires-clause-fits
split_list-prepend_settled-requires-clause-fits t c = λ nodes settled.
    let m = (goal.at.split_list-prepend_settled-requires-clause-fits t c).Joined-matches in
    (backs t m c.if-not-matches.false nodes settled).level

pub split_list-prepend_settled-requires-clause-narrow :
    goal.split_list-prepend_settled-requires-clause-narrow
split_list-prepend_settled-requires-clause-narrow t c = λ nodes settled.
    let m = (goal.at.split_list-prepend_settled-requires-clause-narrow t c).Joined-matches in
    (backs t m c.if-not-matches.false nodes settled).few

pub split_list-returns-clause-done : goal.split_list-returns-clause-done
split_list-returns-clause-done t c = λ _.
    let m = (goal.at.split_list-returns-clause-done t c).Joined-matches in
    let i = n t m in
    let p = c.push_settled.ensures.pushed in
    let q = c.prepend_settled.ensures.prepended in
    let did = c.if-not-matches.false in
    let before_is : length (joined (pre t i ++ tree_over (a t i) ∷ [])) + c.args.inside
    ≡ length (joined (pre t i)) + (length (joined (a t i)) + c.args.inside) =
    omega (arith, joined_two (pre t i) (a t i)) in
    same_sides (length (joined (pre t i)) + (length (joined (a t i)) + c.args.inside)) _ (old t i)
    (pre t i ++ p.nodes) _ (q.nodes ++ c.args.rest.now) _ (omega (arith, before t i)) (sym p.is)
    (sym q.is) (record {
      is_front = side_front t m did p.nodes p.settled;
      is_back = subst (λ l. IsBackOf l (old t i) (q.nodes ++ c.args.rest.now)) before_is
          (side_back t m did q.nodes q.settled);
      following = follow t m did p.nodes p.settled;
      ahead = ends t m did q.nodes q.settled;
    })

pub split_list-returns-clause-made : goal.split_list-returns-clause-made
split_list-returns-clause-made t c =
    let m = (goal.at.split_list-returns-clause-made t c).Joined-matches in
    omega (arith, counted t m, c.add_made.ensures.most)

pub split_list-returns-clause-searched : goal.split_list-returns-clause-searched
split_list-returns-clause-searched t c =
    let m = (goal.at.split_list-returns-clause-searched t c).Joined-matches in
    let r = searched t m in
    record { rise = r.rise; nodes = r.nodes; compares = r.compares }

pub split-take_from-requires-clause-level : goal.split-take_from-requires-clause-level
split-take_from-requires-clause-level t c =
    (movable_after c.args.self.now c.args.rest.now c.branch_at-place.result.place c.requires.none
    (movable_of c.args.self.now c.requires.children c.requires.few)).level

pub split-take_from-requires-clause-few : goal.split-take_from-requires-clause-few
split-take_from-requires-clause-few t c =
    (movable_after c.args.self.now c.args.rest.now c.branch_at-place.result.place c.requires.none
    (movable_of c.args.self.now c.requires.children c.requires.few)).few

pub split-take_from-requires-2-clause-level : goal.split-take_from-requires-2-clause-level
split-take_from-requires-2-clause-level t c =
    (movable_after c.args.self.now c.args.rest.now (c.branch_at-place.result.place + 2)
    c.requires.none (movable_of c.args.self.now c.requires.children c.requires.few)).level

pub split-take_from-requires-2-clause-few : goal.split-take_from-requires-2-clause-few
split-take_from-requires-2-clause-few t c =
    (movable_after c.args.self.now c.args.rest.now (c.branch_at-place.result.place + 2)
    c.requires.none (movable_of c.args.self.now c.requires.children c.requires.few)).few

pub split-returns-then-inside-eq0-clause-done : goal.split-returns-then-inside-eq0-clause-done
split-returns-then-inside-eq0-clause-done t c =
    let ts = c.args.self.now in
    let k = c.branch_at-place.result.place in
    let place : c.args.at ≡ length (joined (take k ts)) =
    omega (arith, c.branch_at-place.ensures.place, c.if-inside-eq0.true) in
    let some : 1 ≤ k = first_some ts k c.args.at place c.requires.some in
    λ _. same_sides _ _ _ _ _ _ _ refl (sym c.take_from.ensures.rest)
    (sym (c.take_from.ensures.moved ∙ ap (λ l. l ++ drop k ts) c.requires.none))
    (between_sides ts k c.args.at c.requires.children some c.branch_at-place.ensures.child place)

-- the children before the last two that stay, and all
module _ (t : ℕ) (c : split-After-take_from-2 t) where
  abbrev ts : List Tree
  ts = c.args.self.now

  abbrev o : List Tree
  o = c.take_from-2.new.other

  abbrev at_place : ℕ
  at_place = c.branch_at-place.result.place

  both : o ++ c.take_from-2.new.self ≡ ts
  both = ap₂ (λ y z. y ++ z) c.take_from-2.ensures.rest c.take_from-2.ensures.moved
      ∙ both_parts ts c.args.rest.now (at_place + 2) c.requires.none

  many : length o ≡ at_place + 2
  many = ap length c.take_from-2.ensures.rest
      ∙ length-take-le (at_place + 2) ts (omega (
        arith,
        c.branch_at-place.ensures.child,
        c.if-place-len.false,
        c.len.ensures,
        c.self.invariant.totals_right.as_many,
        ap length c.self.view_is,
      ))

  front : length (joined (take (length o - 2) o)) ≡ length (joined (take at_place ts))
  front = ap (λ l. length (joined l))
      (ap (λ m. take m o) (omega (arith, many)) ∙ ap (take at_place) c.take_from-2.ensures.rest
      ∙ take-take at_place (at_place + 2) ts (omega arith))

pub split-split_list-did-requires : goal.split-split_list-did-requires
split-split_list-did-requires t c =
    let k = (goal.at.split-split_list-did-requires t c).After-take_from-2 in
    let low : 1 ≤ height_of (ts t k) =
    omega (arith, c.if-self-eq1.false, c.self.invariant.above, ap height_of c.self.view_is) in
    let at : (child : Tree) → get_or (o t k) (length (o t k) - 2) child
    ≡ get_or (ts t k) (at_place t k) child = λ child.
    ap (λ m. get_or (o t k) m child) (omega (arith, many t k))
    ∙ ap (λ l. get_or l (at_place t k) child) c.take_from-2.ensures.rest
    ∙ get_or-take (at_place t k + 2) (ts t k) (at_place t k) child (omega arith) in (
      omega (arith, c.decreases, ap height_of (both t k)),
      (
        subst AreFamily (sym (both t k)) c.requires.children,
        (
          subst (λ l. 1 ≤ height_of l) (sym (both t k)) low,
          (
            subst (λ l. byte_len (joined l) < 2 ^ 32) (sym (both t k)) c.requires.few,
            (
              omega (arith, many t k, c.if-place-eq0.false),
              (
                omega (arith, c.if-inside-eq0.false),
                (
                  (λ child. subst (λ y. c.branch_at-place.result.inside < length (text y))
                      (sym (at child)) ((c.branch_at-place.ensures.goes child).inside refl)),
                  c.requires.none_in_pocket,
                ),
              ),
            ),
          ),
        ),
      ),
    )

-- all children, where nothing was split
whole : (t : ℕ) (c : split-Joined-matches t) → c.match-matches.matches ≡ false
    → c.split_list-did.new.self ++ c.split_list-did.new.rest ≡ c.args.self.now
whole t c undone =
    let k = (goal.at.split-Joined-matches t c).After-take_from-2 in
    let kept : c.split_list-did.new.self ≡ c.take_from-2.new.other
    × c.split_list-did.new.rest ≡ c.take_from-2.new.self = elim c.match-matches.branch [
      | split-in-Ok-true w ↦ absurd (cc)
      | split-in_default w ↦ not_done c.split_list-did.result c.split_list-did.ensures.kept
          c.split_list-did.ensures.err (λ is. search rules)
      | split-in_default-2 w ↦ not_done c.split_list-did.result c.split_list-did.ensures.kept
          c.split_list-did.ensures.err (λ is. search rules)
    ] in
    ap₂ (λ y z. y ++ z) kept.0 kept.1 ∙ both t k

pub split-take_from-requires-then-not-matches-clause-level :
    goal.split-take_from-requires-then-not-matches-clause-level
split-take_from-requires-then-not-matches-clause-level t c =
    let k = (goal.at.split-take_from-requires-then-not-matches-clause-level t c).Joined-matches in
    subst AreLevel (sym (whole t k c.if-not-matches.true))
    (movable_of c.args.self.now c.requires.children c.requires.few).level

pub split-take_from-requires-then-not-matches-clause-level_other :
    goal.split-take_from-requires-then-not-matches-clause-level_other
split-take_from-requires-then-not-matches-clause-level_other t c =
    let k =
    (goal.at.split-take_from-requires-then-not-matches-clause-level_other t c).Joined-matches in
    (movable_right c.split_list-did.new.self c.split_list-did.new.rest
    (subst AreMovable (sym (whole t k c.if-not-matches.true))
    (movable_of c.args.self.now c.requires.children c.requires.few))).level

pub split-returns-else-not-matches-clause-done : goal.split-returns-else-not-matches-clause-done
split-returns-else-not-matches-clause-done t c =
    let k = (goal.at.split-returns-else-not-matches-clause-done t c).After-take_from-2 in
    let did_is : c.match-matches.did ≡ c.split_list-did.result = elim c.match-matches.branch [
      | split-in-Ok-true w ↦ w.did-is ∙ sym w.in-Ok-true.is
      | split-in_default w ↦ search rules
      | split-in_default-2 w ↦ search rules
    ] in
    subst (λ r. IfOk r (λ did. did ≡ true → AreSides c.args.at (ts t k) c.split_list-did.new.self
    c.split_list-did.new.rest)) (sym did_is) (IfOk-weaker c.split_list-did.result _ _
    (λ did done here. same_sides _ _ _ _ _ _ _
    (ap (λ m. m + c.branch_at-place.result.inside) (front t k)
    ∙ sym c.branch_at-place.ensures.place) refl refl
    (subst (λ l. AreSides (length (joined (take (length (o t k) - 2) (o t k)))
    + c.branch_at-place.result.inside) l c.split_list-did.new.self c.split_list-did.new.rest)
    (both t k) (done here))) c.split_list-did.ensures.done)

pub split_list-push_two-requires-clause-room : goal.split_list-push_two-requires-clause-room
split_list-push_two-requires-clause-room t c =
    let i = (goal.at.split_list-push_two-requires-clause-room t c).In-Some in
    omega (
      arith,
      long t i,
      length-append c.args.self.now c.args.rest.now,
      c.requires.children.at_most_24,
    )

pub split_list-push_settled-requires-clause-room : goal.split_list-push_settled-requires-clause-room
split_list-push_settled-requires-clause-room t c =
    let i = (goal.at.split_list-push_settled-requires-clause-room t c).In-Some in
    omega (
      arith,
      long t i,
      length-append c.args.self.now c.args.rest.now,
      c.requires.children.at_most_24,
    )

pub split_list-prepend_settled-requires-clause-room :
    goal.split_list-prepend_settled-requires-clause-room
split_list-prepend_settled-requires-clause-room t c =
    let i = (goal.at.split_list-prepend_settled-requires-clause-room t c).In-Some in
    omega (
      arith,
      long t i,
      length-append c.args.self.now c.args.rest.now,
      c.requires.children.at_most_24,
    )

pub split_list-push-requires-clause-room : goal.split_list-push-requires-clause-room
split_list-push-requires-clause-room t c =
    let o = (goal.at.split_list-push-requires-clause-room t c).After-over in
    omega (
      arith,
      ap length (restored t o c.if-not-matches.true),
      length-append c.push_two.new.self (c.over.result ∷ []),
      length-append c.args.self.now c.args.rest.now,
      c.requires.children.at_most_24,
    )

pub split_list-returns-then-not-matches-clause-kept :
    goal.split_list-returns-then-not-matches-clause-kept
split_list-returns-then-not-matches-clause-kept t c =
    let o = (goal.at.split_list-returns-then-not-matches-clause-kept t c).After-over in
    if_idle _ (c.push.ensures ∙ restored t o c.if-not-matches.true, refl)

pub split-take_from-requires-2-clause-room : goal.split-take_from-requires-2-clause-room
split-take_from-requires-2-clause-room t c =
    omega (
      arith,
      length-append c.args.rest.now (drop (c.branch_at-place.result.place + 2) c.args.self.now),
      ap length c.requires.none,
      length-drop (c.branch_at-place.result.place + 2) c.args.self.now,
      c.requires.children.at_most_24,
    )

pub split-take_from-requires-then-not-matches-clause-few :
    goal.split-take_from-requires-then-not-matches-clause-few
split-take_from-requires-then-not-matches-clause-few t c =
    let k = (goal.at.split-take_from-requires-then-not-matches-clause-few t c).Joined-matches in
    subst (λ l. byte_len (joined l) < 2 ^ 32) (sym (whole t k c.if-not-matches.true)) c.requires.few

pub split-take_from-requires-then-not-matches-clause-room :
    goal.split-take_from-requires-then-not-matches-clause-room
split-take_from-requires-then-not-matches-clause-room t c =
    let k = (goal.at.split-take_from-requires-then-not-matches-clause-room t c).Joined-matches in
    subst (λ l. length l ≤ 24) (sym (whole t k c.if-not-matches.true))
    c.requires.children.at_most_24

pub split-returns-then-not-matches-clause-kept : goal.split-returns-then-not-matches-clause-kept
split-returns-then-not-matches-clause-kept t c =
    let k = (goal.at.split-returns-then-not-matches-clause-kept t c).Joined-matches in
    if_idle _ (c.take_from-then-not-matches.ensures.moved ∙ whole t k c.if-not-matches.true)
