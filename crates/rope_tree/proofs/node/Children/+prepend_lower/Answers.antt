use Rattle.std.proofs.Common.{◌≡◌, ℕ, ◌+◌, ◌^◌, ◌<◌, ◌≤◌, List, [], ◌∷◌, ◌++◌, length, drop, sym, ap, ap₂, subst, ◌∙◌, arith}
use Rattle.std.specs.List.{All, concat}
use Rattle.std.proofs.lemmas.List.{append-nil, length-append, length-take-le, take-append-drop}
use Rattle.std.proofs.lemmas.List.Elements.{All-nil, All-cons}
use Rattle.rope_text.specs.Text.{byte_len}
use Rattle.rope_leaf.specs.Leaves.{AreLeaves}
use Rattle.rope_leaf.specs.Tree.{Tree, joined, leaves_of, height_of, breaks_of, tree_over, IsChild, AreFamily}
use Rattle.rope_leaf.specs.Siblings.{AreLevel}
use Rattle.rope_tree.specs.Split.{AreSettled}
use Rattle.rope_tree.proofs.MoveLaws.{AreMovable, movable_left, movable_right, movable_of, movable_after}
use Rattle.rope_tree.proofs.SettledLaws.{settled_some, settled_few}
use Rattle.rope_tree.proofs.SplitLaws.{none_of}
use Rattle.rope_tree.proofs.UnevenLaws.{IsLed, few_both, few_of_both, below_last, led_by, good_led, few_led, wider, own_first, first_leaves, first_few, first_replaced, first_movable, first_family, first_height, first_breaks, pair_movable, settled_nodes, settled_both}
use Rattle.rope_tree.proofs.node.Children.+prepend_lower.Goals.{After-take_from, In-Some, After-levels-2, After-push_settled, After-prepend_lower-left, After-push}
use Rattle.rope_tree.proofs.node.Children.+prepend_lower.Goals as goal

-- the first child and the others
module _ {t : ℕ} (c : After-take_from t) where
  abbrev all_of : List Tree
  all_of = c.args.self.now

  rest_is : c.take_from.new.self ≡ drop 1 all_of
  rest_is = c.take_from.ensures.moved ∙ ap (λ l. l ++ drop 1 all_of) c.none-rest.ensures

  whole : c.take_from.new.other ++ c.take_from.new.self ≡ all_of
  whole = ap₂ (λ y z. y ++ z) c.take_from.ensures.rest rest_is ∙ take-append-drop 1 all_of

  few_all : byte_len (joined all_of) < 2 ^ 32
  few_all = omega (arith, c.requires.few)

  all : AreMovable (c.take_from.new.other ++ c.take_from.new.self)
  all = subst AreMovable (sym whole) (movable_of all_of c.requires.children few_all)

  first : AreMovable c.take_from.new.other
  first = movable_left c.take_from.new.other c.take_from.new.self all

  rest : AreMovable c.take_from.new.self
  rest = movable_right c.take_from.new.other c.take_from.new.self all

  one : length c.take_from.new.other ≡ 1
  one = ap length c.take_from.ensures.rest
      ∙ length-take-le 1 all_of (omega (arith, c.requires.children.at_least_two))

-- the first list and the lower one
module _ {t : ℕ} (c : In-Some t) where
  abbrev k : After-take_from t
  k = (goal.at.In-Some t c).After-take_from

  abbrev old : List Tree
  old = c.args.self.now

  abbrev a : List Tree
  a = c.in-Some.first.value

  abbrev post : List Tree
  post = c.take_from.new.self

  abbrev lower : List Tree
  lower = c.args.lower.value

  abbrev lo : List (List ℕ)
  lo = leaves_of lower

  none : c.pop_list.new.self ≡ []
  none =
      none_of c.pop_list.new.self
      (omega (
        arith,
        one k,
        ap length c.in-Some.ensures.list,
        length-append c.pop_list.new.self (tree_over a ∷ []),
      ))

  is : old ≡ tree_over a ∷ post
  is = sym (whole k)
      ∙ ap (λ l. l ++ post) (c.in-Some.ensures.list ∙ ap (λ l. l ++ tree_over a ∷ []) none)

  few : byte_len (concat (lo ++ leaves_of old)) < 2 ^ 32
  few = few_both lower old (omega (arith, c.requires.few))

  own : IsChild (breaks_of old) (height_of old) (tree_over a)
  own = own_first old a post is c.requires.children lo c.requires.leaves few

  leaves_a : AreLeaves (lo ++ leaves_of a)
  leaves_a = first_leaves old a post is c.requires.children lo c.requires.leaves few

  few_a : byte_len (concat (lo ++ leaves_of a)) < 2 ^ 32
  few_a = first_few old a post is c.requires.children lo c.requires.leaves few

  module _ (same : height_of lower ≡ height_of a) where
    up : height_of lower + 1 ≡ height_of old
    up = omega (arith, same, own.at_height)

    pair : AreMovable (lower ++ a)
    pair =
        pair_movable (breaks_of old) (height_of old) lower a c.requires.lower
        c.in-Some.ensures.family c.requires.same_breaks own.same_breaks same up leaves_a few_a

    module _ (us : List Tree) (s : AreSettled (lower ++ a) us) where
      nodes : All (IsChild (breaks_of old) (height_of old)) us
      nodes =
          settled_nodes (breaks_of old) (height_of old) lower a c.requires.lower
          c.in-Some.ensures.family c.requires.same_breaks own.same_breaks same up leaves_a few_a us
          s

      both : leaves_of us ≡ lo ++ leaves_of a
      both =
          settled_both (breaks_of old) (height_of old) lower a c.requires.lower
          c.in-Some.ensures.family c.requires.same_breaks own.same_breaks same up leaves_a few_a us
          s

      moved : AreMovable (us ++ post)
      moved =
          first_movable old a post is c.requires.children lo c.requires.leaves few us nodes both

      alone : AreMovable (c.pop_list.new.self ++ us)
      alone = subst (λ l. AreMovable (l ++ us)) (sym none) (movable_left us post moved)

      some : 2 ≤ length (us ++ post)
      some =
          omega (
            arith,
            ap length is,
            length-append us post,
            c.requires.children.at_least_two,
            settled_some (lower ++ a) us s,
          )

-- the first list after the call, which has the leaves of both or is as it was
module _ {t : ℕ} (c : After-prepend_lower-left t) where
  abbrev n : In-Some t
  n = (goal.at.After-prepend_lower-left t c).In-Some

  abbrev b : List Tree
  b = c.prepend_lower-left.new.self

  same_a : c.as_mut.result.now ≡ a n
  same_a = c.as_mut.ensures.value

  led : IsLed (leaves_of (a n)) (leaves_of b) (lo n)
  led =
      subst (λ l. IsLed (leaves_of l) (leaves_of b) (lo n)) same_a
      (led_by c.prepend_lower-left.result c.as_mut.result.now b (lo n)
      c.prepend_lower-left.ensures.leaves c.prepend_lower-left.ensures.kept)

  good : AreLeaves (led.added ++ leaves_of (old n))
  good =
      good_led (leaves_of (old n)) (lo n) led.added led.all c.requires.children.leaves
      c.requires.leaves

  low : byte_len (concat (led.added ++ leaves_of (old n))) < 2 ^ 32
  low = few_led (leaves_of (old n)) (lo n) led.added led.all (few n)

  child : IsChild (breaks_of (old n)) (height_of (old n)) (tree_over b)
  child =
      wider (breaks_of (old n)) (height_of (old n)) (a n) b (own n)
      c.prepend_lower-left.ensures.children
      (c.prepend_lower-left.ensures.breaks ∙ ap breaks_of same_a)
      (c.prepend_lower-left.ensures.height ∙ ap height_of same_a)
      (omega (arith, c.prepend_lower-left.ensures.wide, ap length same_a))

  abbrev us : List Tree
  us = tree_over b ∷ []

  one_child : All (IsChild (breaks_of (old n)) (height_of (old n))) us
  one_child =
      let P = IsChild (breaks_of (old n)) (height_of (old n)) in
      All-cons P (tree_over b) [] child (All-nil P)

  one_leaves : leaves_of us ≡ led.added ++ leaves_of (a n)
  one_leaves = append-nil (leaves_of b) ∙ led.is

  moved_one : AreMovable (us ++ post n)
  moved_one =
      first_movable (old n) (a n) (post n) (is n) c.requires.children led.added good low us
      one_child one_leaves

  alone_one : AreMovable (c.pop_list.new.self ++ us)
  alone_one = subst (λ l. AreMovable (l ++ us)) (sym (none n)) (movable_left us (post n) moved_one)

  long : 2 ≤ length (us ++ post n)
  long = omega (arith, ap length (is n), c.requires.children.at_least_two)

  now_leaves : leaves_of (us ++ post n) ≡ led.added ++ leaves_of (old n)
  now_leaves =
      first_replaced (old n) (a n) (post n) (is n) c.requires.children led.added good low us
      one_child one_leaves

  now_family : AreFamily (us ++ post n)
  now_family =
      first_family (old n) (a n) (post n) (is n) c.requires.children led.added good low us
      one_child one_leaves long
      (omega (arith, ap length (is n), c.requires.children.at_most_24))

  now_height : height_of (us ++ post n) ≡ height_of (old n)
  now_height =
      first_height (old n) (a n) (post n) (is n) c.requires.children led.added good low us
      one_child one_leaves long

  now_breaks : breaks_of (us ++ post n) ≡ breaks_of (old n)
  now_breaks =
      first_breaks (old n) (a n) (post n) (is n) c.requires.children led.added good low us
      one_child one_leaves long

-- the heights that were found equal, or not
module _ {t : ℕ} (c : After-levels-2 t) where
  heights : c.levels.result ≡ c.levels-2.result
      → height_of c.args.lower.value ≡ height_of c.in-Some.first.value
  heights e =
      omega (
        arith,
        e,
        c.levels.ensures,
        c.levels-2.ensures,
        ap height_of c.as_ref.ensures,
        ap height_of c.as_ref-2.ensures,
      )

  others : (c.levels.result ≡ c.levels-2.result → ⊥)
      → height_of c.in-Some.first.value ≡ height_of c.args.lower.value → ⊥
  others e same =
      e
      (omega (
        arith,
        same,
        c.levels.ensures,
        c.levels-2.ensures,
        ap height_of c.as_ref.ensures,
        ap height_of c.as_ref-2.ensures,
      ))

pub take_from-requires-clause-level : goal.take_from-requires-clause-level
take_from-requires-clause-level t c =
    (movable_after c.args.self.now c.none-rest.result 1 c.none-rest.ensures
    (movable_of c.args.self.now c.requires.children (omega (arith, c.requires.few)))).level

pub take_from-requires-clause-few : goal.take_from-requires-clause-few
take_from-requires-clause-few t c =
    (movable_after c.args.self.now c.none-rest.result 1 c.none-rest.ensures
    (movable_of c.args.self.now c.requires.children (omega (arith, c.requires.few)))).few

pub pop_list-requires-clause-level : goal.pop_list-requires-clause-level
pop_list-requires-clause-level t c =
    (first (goal.at.pop_list-requires-clause-level t c).After-take_from).level

pub pop_list-requires-clause-few : goal.pop_list-requires-clause-few
pop_list-requires-clause-few t c =
    (first (goal.at.pop_list-requires-clause-few t c).After-take_from).few

pub take_from-requires-in_default-clause-level_other :
    goal.take_from-requires-in_default-clause-level_other
take_from-requires-in_default-clause-level_other t c =
    (rest (goal.at.take_from-requires-in_default-clause-level_other t c).After-take_from).level

pub push_settled-requires-clause-level : goal.push_settled-requires-clause-level
push_settled-requires-clause-level t c =
    let v = (goal.at.push_settled-requires-clause-level t c).After-levels-2 in
    let n = (goal.at.push_settled-requires-clause-level t c).In-Some in
    (pair n (heights v c.if-levels.true)).level

pub push_settled-requires-clause-few : goal.push_settled-requires-clause-few
push_settled-requires-clause-few t c =
    let v = (goal.at.push_settled-requires-clause-few t c).After-levels-2 in
    let n = (goal.at.push_settled-requires-clause-few t c).In-Some in
    (pair n (heights v c.if-levels.true)).few

pub push_settled-requires-clause-enough : goal.push_settled-requires-clause-enough
push_settled-requires-clause-enough t c =
    let n = (goal.at.push_settled-requires-clause-enough t c).In-Some in
    omega (
      arith,
      length-append (lower n) (a n),
      (own n).wide (omega (arith, (own n).at_height)),
    )

pub push_settled-requires-clause-fits : goal.push_settled-requires-clause-fits
push_settled-requires-clause-fits t c = λ us s.
    let v = (goal.at.push_settled-requires-clause-fits t c).After-levels-2 in
    let n = (goal.at.push_settled-requires-clause-fits t c).In-Some in
    (alone n (heights v c.if-levels.true) us s).level

pub push_settled-requires-clause-narrow : goal.push_settled-requires-clause-narrow
push_settled-requires-clause-narrow t c = λ us s.
    let v = (goal.at.push_settled-requires-clause-narrow t c).After-levels-2 in
    let n = (goal.at.push_settled-requires-clause-narrow t c).In-Some in
    (alone n (heights v c.if-levels.true) us s).few

-- the nodes over the lower list and the first one
module _ {t : ℕ} (c : After-push_settled t) where
  abbrev i : In-Some t
  i = (goal.at.After-push_settled t c).In-Some

  same : height_of (lower i) ≡ height_of (a i)
  same = heights (goal.at.After-push_settled t c).After-levels-2 c.if-levels.true

  abbrev p : List Tree
  p = c.push_settled.ensures.pushed.nodes

  pushed_is : c.push_settled.new.self ≡ p
  pushed_is = c.push_settled.ensures.pushed.is ∙ ap (λ l. l ++ p) (none i)

  all_now : AreMovable (c.push_settled.new.self ++ post i)
  all_now =
      subst (λ l. AreMovable (l ++ post i)) (sym pushed_is)
      (moved i same p c.push_settled.ensures.pushed.settled)

  most : length (p ++ post i) ≤ 24
  most =
      omega (
        arith,
        ap length (is i),
        length-append p (post i),
        settled_few (lower i ++ a i) p c.push_settled.ensures.pushed.settled,
        c.count.ensures,
        c.if-count-ge-MAX_CHILDREN.false,
      )

pub take_from-requires-then-levels-clause-level : goal.take_from-requires-then-levels-clause-level
take_from-requires-then-levels-clause-level t c =
    (all_now (goal.at.take_from-requires-then-levels-clause-level t c).After-push_settled).level

pub take_from-requires-then-levels-clause-level_other :
    goal.take_from-requires-then-levels-clause-level_other
take_from-requires-then-levels-clause-level_other t c =
    (rest (goal.at.take_from-requires-then-levels-clause-level_other t c).After-take_from).level

pub take_from-requires-then-levels-clause-few : goal.take_from-requires-then-levels-clause-few
take_from-requires-then-levels-clause-few t c =
    (all_now (goal.at.take_from-requires-then-levels-clause-few t c).After-push_settled).few

pub prepend_lower-left-requires : goal.prepend_lower-left-requires
prepend_lower-left-requires t c =
    let v = (goal.at.prepend_lower-left-requires t c).After-levels-2 in
    let n = (goal.at.prepend_lower-left-requires t c).In-Some in
    let e = c.as_mut.ensures.value in (
      omega (arith, c.decreases, ap height_of e, (own n).at_height),
      (
        subst AreFamily (sym e) c.in-Some.ensures.family,
        (
          c.requires.lower,
          (
            rw e (below_last (height_of (a n)) (height_of (lower n)) (height_of (old n))
                (own n).at_height c.requires.below (others v c.if-levels.false)),
            (
              rw e (c.requires.same_breaks ∙ sym (own n).same_breaks),
              (
                rw e (leaves_a n),
                (rw e (turned _ _ (few_of_both (lower n) (a n) (few_a n))), c.requires.none),
              ),
            ),
          ),
        ),
      ),
    )
  where
    turned : (m n : ℕ) → m + n < 2 ^ 32 → n + m < 2 ^ 32
    turned m n few = omega (arith, few)

pub push-requires-clause-level : goal.push-requires-clause-level
push-requires-clause-level t c =
    let g = (goal.at.push-requires-clause-level t c).After-prepend_lower-left in
    subst (λ x. AreLevel (c.pop_list.new.self ++ x ∷ [])) (sym c.over.ensures) (alone_one g).level

pub push-requires-clause-few : goal.push-requires-clause-few
push-requires-clause-few t c =
    let g = (goal.at.push-requires-clause-few t c).After-prepend_lower-left in
    subst (λ x. byte_len (joined (c.pop_list.new.self ++ x ∷ [])) < 2 ^ 32) (sym c.over.ensures)
    (alone_one g).few

-- all children after the nodes over both lists
module _ {t : ℕ} (c : After-push_settled t) where
  first_nodes : All (IsChild (breaks_of (old (i c))) (height_of (old (i c)))) (p c)
  first_nodes = nodes (i c) (same c) (p c) c.push_settled.ensures.pushed.settled

  of_both : leaves_of (p c) ≡ lo (i c) ++ leaves_of (a (i c))
  of_both = both (i c) (same c) (p c) c.push_settled.ensures.pushed.settled

  enough : 2 ≤ length (p c ++ post (i c))
  enough = some (i c) (same c) (p c) c.push_settled.ensures.pushed.settled

  all_leaves : leaves_of (p c ++ post (i c)) ≡ lo (i c) ++ leaves_of (old (i c))
  all_leaves =
      first_replaced (old (i c)) (a (i c)) (post (i c)) (is (i c)) c.requires.children (lo (i c))
      c.requires.leaves (few (i c)) (p c) first_nodes of_both

  all_family : AreFamily (p c ++ post (i c))
  all_family =
      first_family (old (i c)) (a (i c)) (post (i c)) (is (i c)) c.requires.children (lo (i c))
      c.requires.leaves (few (i c)) (p c) first_nodes of_both enough (most c)

  all_height : height_of (p c ++ post (i c)) ≡ height_of (old (i c))
  all_height =
      first_height (old (i c)) (a (i c)) (post (i c)) (is (i c)) c.requires.children (lo (i c))
      c.requires.leaves (few (i c)) (p c) first_nodes of_both enough

  all_breaks : breaks_of (p c ++ post (i c)) ≡ breaks_of (old (i c))
  all_breaks =
      first_breaks (old (i c)) (a (i c)) (post (i c)) (is (i c)) c.requires.children (lo (i c))
      c.requires.leaves (few (i c)) (p c) first_nodes of_both enough

pub returns-then-levels-clause-leaves : goal.returns-then-levels-clause-leaves
returns-then-levels-clause-leaves t c =
    let g = (goal.at.returns-then-levels-clause-leaves t c).After-push_settled in
    ap leaves_of (c.take_from-then-levels.ensures.moved
    ∙ ap (λ l. l ++ c.take_from.new.self) (pushed_is g)) ∙ all_leaves g

pub returns-then-levels-clause-children : goal.returns-then-levels-clause-children
returns-then-levels-clause-children t c =
    let g = (goal.at.returns-then-levels-clause-children t c).After-push_settled in
    subst AreFamily (sym (c.take_from-then-levels.ensures.moved
    ∙ ap (λ l. l ++ c.take_from.new.self) (pushed_is g))) (all_family g)

pub returns-then-levels-clause-height : goal.returns-then-levels-clause-height
returns-then-levels-clause-height t c =
    let g = (goal.at.returns-then-levels-clause-height t c).After-push_settled in
    ap height_of (c.take_from-then-levels.ensures.moved
    ∙ ap (λ l. l ++ c.take_from.new.self) (pushed_is g)) ∙ all_height g

pub returns-then-levels-clause-breaks : goal.returns-then-levels-clause-breaks
returns-then-levels-clause-breaks t c =
    let g = (goal.at.returns-then-levels-clause-breaks t c).After-push_settled in
    ap breaks_of (c.take_from-then-levels.ensures.moved
    ∙ ap (λ l. l ++ c.take_from.new.self) (pushed_is g)) ∙ all_breaks g

-- the first list over again
module _ {t : ℕ} (c : After-push t) where
  abbrev g : After-prepend_lower-left t
  g = (goal.at.After-push t c).After-prepend_lower-left

  pushed_one : c.push.new.self ≡ us g
  pushed_one = c.push.ensures
      ∙ ap₂ (λ l x. l ++ x ∷ []) (none (n g)) c.over.ensures

  back_all : AreMovable (c.push.new.self ++ post (n g))
  back_all = subst (λ l. AreMovable (l ++ post (n g))) (sym pushed_one) (moved_one g)

pub take_from-requires-2-clause-level : goal.take_from-requires-2-clause-level
take_from-requires-2-clause-level t c =
    (back_all (goal.at.take_from-requires-2-clause-level t c).After-push).level

pub take_from-requires-2-clause-level_other : goal.take_from-requires-2-clause-level_other
take_from-requires-2-clause-level_other t c =
    (rest (goal.at.take_from-requires-2-clause-level_other t c).After-take_from).level

pub take_from-requires-2-clause-few : goal.take_from-requires-2-clause-few
take_from-requires-2-clause-few t c =
    (back_all (goal.at.take_from-requires-2-clause-few t c).After-push).few

pub returns-clause-children : goal.returns-clause-children
returns-clause-children t c =
    let k = (goal.at.returns-clause-children t c).After-push in
    subst AreFamily (sym (c.take_from-2.ensures.moved
    ∙ ap (λ l. l ++ c.take_from.new.self) (pushed_one k))) (now_family (g k))

pub returns-clause-height : goal.returns-clause-height
returns-clause-height t c =
    let k = (goal.at.returns-clause-height t c).After-push in
    ap height_of (c.take_from-2.ensures.moved
    ∙ ap (λ l. l ++ c.take_from.new.self) (pushed_one k)) ∙ now_height (g k)

pub returns-clause-breaks : goal.returns-clause-breaks
returns-clause-breaks t c =
    let k = (goal.at.returns-clause-breaks t c).After-push in
    ap breaks_of (c.take_from-2.ensures.moved
    ∙ ap (λ l. l ++ c.take_from.new.self) (pushed_one k)) ∙ now_breaks (g k)

pub push-requires-clause-room : goal.push-requires-clause-room
push-requires-clause-room t c =
    let g = (goal.at.push-requires-clause-room t c).After-prepend_lower-left in
    omega (arith, ap length (none (n g)))

pub take_from-requires-2-clause-room : goal.take_from-requires-2-clause-room
take_from-requires-2-clause-room t c =
    let k = (goal.at.take_from-requires-2-clause-room t c).After-push in
    omega (
      arith,
      ap length (pushed_one k),
      length-append c.push.new.self c.take_from.new.self,
      ap length (is (n (g k))),
      c.requires.children.at_most_24,
    )

pub returns-clause-wide : goal.returns-clause-wide
returns-clause-wide t c =
    let k = (goal.at.returns-clause-wide t c).After-push in
    omega (
      arith,
      ap length c.take_from-2.ensures.moved,
      length-append c.push.new.self c.take_from.new.self,
      ap length (pushed_one k),
      ap length (is (n (g k))),
    )
