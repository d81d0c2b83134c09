use Rattle.std.proofs.Common.{◌≡◌, ℕ, ◌+◌, ◌-◌, ◌^◌, ◌<◌, ◌≤◌, inl, inr, List, [], ◌∷◌, ◌++◌, length, get_or, take, drop, sym, ap, ap₂, subst, refl, ◌∙◌, arith}
use Rattle.std.specs.List.{All}
use Rattle.std.proofs.lemmas.List.{length-append, length-take-le, length-drop, take-append-drop, take-take, get_or-take}
use Rattle.std.proofs.lemmas.List.Elements.{All-append}
use Rattle.rope_text.specs.Text.{byte_len}
use Rattle.rope_leaf.proofs.SiblingLaws.{byte_len-append}
use Rattle.rope_text.specs.declared.line_breaks.LineBreaks.{LineBreaks}
use Rattle.rope_leaf.specs.Tree.{Tree, text, joined, leaves_of, breaks_of, height_of, tree_over, IsChild, AreFamily}
use Rattle.rope_leaf.specs.Leaves.{AreLeaves}
use Rattle.rope_leaf.specs.Siblings.{AreSiblings, AreLevel}
use Rattle.rope_leaf.proofs.LeafLaws.{all_right}
use Rattle.rope_leaf.proofs.NodeLaws.{leaves_of-append}
use Rattle.rope_leaf.proofs.TreeLaws.{breaks_of_is, height_of_is}
use Rattle.rope_tree.specs.Removed.{AreWithout}
use Rattle.rope_tree.proofs.MoveLaws.{AreMovable, movable_of, movable_left, movable_right, movable_after, family_of, first_breaks, first_height}
use Rattle.rope_tree.proofs.UnevenLaws.{with_leaves, with_leaves_movable}
use Rattle.rope_tree.proofs.RemovedLaws.{without_before, without_leaves, without_bytes}
use Rattle.rope_tree.proofs.RemovedLists.{HasLast, own_list, list_many, list_few, list_here, each_now, without_now, moved_now}
use Rattle.rope_tree.proofs.node.Children.+remove_lists.Goals.{remove_in_last-In-Some, remove_in_last-Then-remove_lists, remove_in_last-Else-remove_lists, remove_lists-After-take_from, remove_lists-Then-remove_up_to_last, remove_lists-Else-remove_up_to_last}
use Rattle.rope_tree.proofs.node.Children.+remove_lists.Goals as goal

module _ (t : ℕ) (c : remove_in_last-In-Some t) where
  abbrev x : List Tree
  x = c.in-Some.list.value

  placed : HasLast c.args.self.now c.pop_list.new.self x
  placed = record {
    is = c.in-Some.ensures.list;
    level = c.requires.level;
    few = c.requires.few;
    last = c.in-Some.ensures.family;
  }

  lower : height_of x + 1 ≡ height_of c.args.self.now
  lower = omega (arith, (own_list _ _ _ placed).at_height)

  end_in : c.args.end ≤ length (joined x)
  end_in =
      subst (λ u. c.args.end ≤ length (text u)) (list_here _ _ _ placed)
      (c.requires.within (tree_over x))

pub remove_in_last-remove_lists-requires : goal.remove_in_last-remove_lists-requires
remove_in_last-remove_lists-requires t c =
    let i = (goal.at.remove_in_last-remove_lists-requires t c).In-Some in
    let e = c.as_mut.ensures.value in
    let many = list_many _ _ _ (placed t i) in (
      omega (arith, c.decreases, ap height_of e, lower t i),
      (
        subst AreFamily (sym e) c.in-Some.ensures.family,
        (
          rw e (list_few _ _ _ (placed t i)),
          (
            c.requires.ordered,
            (
              rw e (end_in t i),
              (omega arith, (rw e many, (omega arith, c.requires.none))),
            ),
          ),
        ),
      ),
    )

module _ (t : ℕ) (c : remove_in_last-Then-remove_lists t) where
  abbrev i : remove_in_last-In-Some t
  i = (goal.at.remove_in_last-Then-remove_lists t c).In-Some

  abbrev y : List Tree
  y = c.remove_lists.new.self

  own : AreWithout c.args.start c.args.end (leaves_of (x t i)) (leaves_of y)
  own =
      subst (λ l. AreWithout c.args.start c.args.end (leaves_of l) (leaves_of y))
      c.as_mut.ensures.value (c.remove_lists.ensures.without c.if-remove_lists.true)

  same_breaks : breaks_of y ≡ breaks_of (x t i)
  same_breaks = c.remove_lists.ensures.breaks ∙ ap breaks_of c.as_mut.ensures.value

  same_height : height_of y ≡ height_of (x t i)
  same_height = c.remove_lists.ensures.height ∙ ap height_of c.as_mut.ensures.value

  moved : AreMovable (c.pop_list.new.self ++ tree_over y ∷ [])
  moved =
      moved_now _ _ _ (placed t i) y c.remove_lists.ensures.children same_breaks same_height
      c.remove_lists.ensures.enough _ _ own

pub remove_in_last-push-requires-clause-level : goal.remove_in_last-push-requires-clause-level
remove_in_last-push-requires-clause-level t c =
    let m = (goal.at.remove_in_last-push-requires-clause-level t c).Then-remove_lists in
    subst (λ u. AreLevel (c.pop_list.new.self ++ u ∷ [])) (sym c.over.ensures) (moved t m).level

pub remove_in_last-push-requires-clause-few : goal.remove_in_last-push-requires-clause-few
remove_in_last-push-requires-clause-few t c =
    let m = (goal.at.remove_in_last-push-requires-clause-few t c).Then-remove_lists in
    subst (λ u. byte_len (joined (c.pop_list.new.self ++ u ∷ [])) < 2 ^ 32) (sym c.over.ensures)
    (moved t m).few

pub remove_in_last-returns-then-remove_lists-clause-without :
    goal.remove_in_last-returns-then-remove_lists-clause-without
remove_in_last-returns-then-remove_lists-clause-without t c = λ _.
    let m =
    (goal.at.remove_in_last-returns-then-remove_lists-clause-without t c).Then-remove_lists in
    rw (c.push.ensures ∙ ap (λ u. c.pop_list.new.self ++ u ∷ []) c.over.ensures)
    (without_now _ _ _ (placed t (i t m)) (y t m) c.remove_lists.ensures.children (same_breaks t m)
    (same_height t m) c.remove_lists.ensures.enough _ _ (own t m))

pub remove_in_last-returns-then-remove_lists-clause-each :
    goal.remove_in_last-returns-then-remove_lists-clause-each
remove_in_last-returns-then-remove_lists-clause-each t c = λ _.
    let m = (goal.at.remove_in_last-returns-then-remove_lists-clause-each t c).Then-remove_lists in
    rw (c.push.ensures ∙ ap (λ u. c.pop_list.new.self ++ u ∷ []) c.over.ensures)
    (each_now _ _ _ (placed t (i t m)) (y t m) c.remove_lists.ensures.children (same_breaks t m)
    (same_height t m) c.remove_lists.ensures.enough)

pub remove_lists-take_from-requires-clause-level : goal.remove_lists-take_from-requires-clause-level
remove_lists-take_from-requires-clause-level t c =
    (movable_after c.args.self.now c.none-rest.result (c.branch_at-last.result.place + 1)
    c.none-rest.ensures (movable_of _ c.requires.children c.requires.few)).level

pub remove_lists-take_from-requires-clause-few : goal.remove_lists-take_from-requires-clause-few
remove_lists-take_from-requires-clause-few t c =
    (movable_after c.args.self.now c.none-rest.result (c.branch_at-last.result.place + 1)
    c.none-rest.ensures (movable_of _ c.requires.children c.requires.few)).few

-- the children up to the one where the removal ends, and those after it
module _ (t : ℕ) (c : remove_lists-After-take_from t) where
  abbrev ts : List Tree
  ts = c.args.self.now

  abbrev from : ℕ
  from = c.branch_at-first.result.place

  abbrev to : ℕ
  to = c.branch_at-last.result.place

  abbrev head : List Tree
  head = take (to + 1) ts

  abbrev tail : List Tree
  tail = drop (to + 1) ts

  abbrev br : LineBreaks
  br = breaks_of ts

  abbrev h : ℕ
  h = height_of ts

  head_is : c.take_from.new.other ≡ head
  head_is = c.take_from.ensures.rest

  tail_is : c.take_from.new.self ≡ tail
  tail_is = c.take_from.ensures.moved ∙ ap (λ l. l ++ tail) c.none-rest.ensures

  halves : head ++ tail ≡ ts
  halves = take-append-drop (to + 1) ts

  all : AreMovable ts
  all = movable_of ts c.requires.children c.requires.few

  first : AreMovable head
  first = movable_left head tail (subst AreMovable (sym halves) all)

  last : AreMovable tail
  last = movable_right head tail (subst AreMovable (sym halves) all)

  head_long : length head ≡ to + 1
  head_long = length-take-le (to + 1) ts (omega (arith, c.branch_at-last.ensures.child))

  tail_long : length tail ≡ length ts - (to + 1)
  tail_long = length-drop (to + 1) ts

  head_height : height_of head ≡ h
  head_height = first_height (to + 1) ts (omega arith)

  head_breaks : breaks_of head ≡ br
  head_breaks = first_breaks (to + 1) ts (omega arith)

  low : byte_len (joined head) + byte_len (joined tail) ≡ byte_len (joined ts)
  low = sym (byte_len-append head tail) ∙ ap (λ l. byte_len (joined l)) halves

  -- the places in the first children
  start_is : length (joined (take from head)) + c.branch_at-first.result.inside ≡ c.args.start
  start_is =
      ap (λ l. length (joined l) + c.branch_at-first.result.inside)
      (take-take from (to + 1) ts (omega (arith, c.if-from-to.false)))
      ∙ sym c.branch_at-first.ensures.place

  end_is : length (joined (take (length head - 1) head)) + c.branch_at-last.result.inside
      ≡ c.args.end
  end_is =
      let n : length head - 1 ≡ to = omega (arith, head_long) in
      ap (λ n. length (joined (take n head)) + c.branch_at-last.result.inside) n
      ∙ ap (λ l. length (joined l) + c.branch_at-last.result.inside)
      (take-take to (to + 1) ts (omega arith))
      ∙ sym c.branch_at-last.ensures.place

  here : (d : Tree) → get_or head (length head - 1) d ≡ get_or ts to d
  here d =
      let n : length head - 1 ≡ to = omega (arith, head_long) in
      ap (λ n. get_or head n d) n ∙ get_or-take (to + 1) ts to d (omega arith)

  some_end : 1 ≤ c.branch_at-last.result.inside
  some_end = elim ((c.branch_at-last.ensures.goes (get_or ts to (tree_over []))).outside refl) [
    | inl none ↦ absurd (omega (arith, none, c.requires.ordered))
    | inr some ↦ some
  ]

  ordered : from + 1 ≡ length head
      → c.branch_at-first.result.inside < c.branch_at-last.result.inside
  ordered one =
      let same : from ≡ to = omega (arith, one, head_long) in
      omega (
        arith,
        c.requires.ordered,
        c.branch_at-first.ensures.place,
        c.branch_at-last.ensures.place,
        ap (λ n. length (joined (take n ts))) same,
      )

pub remove_lists-remove_up_to_last-requires : goal.remove_lists-remove_up_to_last-requires
remove_lists-remove_up_to_last-requires t c =
    let a = (goal.at.remove_lists-remove_up_to_last-requires t c).After-take_from in
    let e = head_is t a in (
      omega (arith, c.decreases, ap height_of e, head_height t a),
      (
        rw e (first t a).level,
        (
          omega (
            arith,
            ap height_of e,
            head_height t a,
            c.levels.ensures,
            c.if-levels-lt2.false,
          ),
          (
            rw e (first t a).few,
            (
              rw e (omega (arith, head_long t a, c.if-from-to.false)),
              (
                rw e (omega (
                  arith,
                  head_long t a,
                  c.branch_at-last.ensures.child,
                  c.requires.children.at_most_24,
                )),
                (
                  rw e (ordered t a),
                  (
                    some_end t a,
                    (
                      λ d. rw (e, here t a d) (c.branch_at-last.ensures.goes d).within,
                      c.requires.none,
                    ),
                  ),
                ),
              ),
            ),
          ),
        ),
      ),
    )

-- the first children without the removed ones, and all
module _ (t : ℕ) (c : remove_lists-Then-remove_up_to_last t) where
  abbrev a : remove_lists-After-take_from t
  a = (goal.at.remove_lists-Then-remove_up_to_last t c).After-take_from

  abbrev m : List Tree
  m = c.remove_up_to_last.new.self

  rest_own : AreWithout c.args.start c.args.end (leaves_of (head t a)) (leaves_of m)
  rest_own =
      subst (λ n. AreWithout n c.args.end (leaves_of (head t a)) (leaves_of m)) (start_is t a)
      (subst (λ n. AreWithout (length (joined (take (from t a) (head t a)))
      + c.branch_at-first.result.inside) n (leaves_of (head t a)) (leaves_of m)) (end_is t a)
      (subst (λ l. AreWithout (length (joined (take (from t a) l))
      + c.branch_at-first.result.inside)
      (length (joined (take (length l - 1) l)) + c.branch_at-last.result.inside) (leaves_of l)
      (leaves_of m)) (head_is t a)
      (c.remove_up_to_last.ensures.without c.if-remove_up_to_last.true)))

  parts : leaves_of (ts t a) ≡ leaves_of (head t a) ++ leaves_of (tail t a)
  parts = ap leaves_of (sym (halves t a)) ∙ leaves_of-append (head t a) (tail t a)

  whole : AreWithout c.args.start c.args.end (leaves_of (ts t a)) (leaves_of (m ++ tail t a))
  whole =
      rw (parts, leaves_of-append m (tail t a)) (without_before c.args.start c.args.end
      (leaves_of (head t a)) (leaves_of m) (leaves_of (tail t a)) rest_own
      (subst AreLeaves parts c.requires.children.leaves))

  each_m : All (IsChild (br t a) (h t a)) m
  each_m =
      subst (λ n. All (IsChild (br t a) n) m) (ap height_of (head_is t a) ∙ head_height t a)
      (subst (λ b. All (IsChild b (height_of c.take_from.new.other)) m)
      (ap breaks_of (head_is t a) ∙ head_breaks t a)
      (c.remove_up_to_last.ensures.each c.if-remove_up_to_last.true))

  each_tail : All (IsChild (br t a) (h t a)) (tail t a)
  each_tail =
      all_right (IsChild (br t a) (h t a)) (head t a) (tail t a)
      (subst (All (IsChild (br t a) (h t a))) (sym (halves t a)) c.requires.children.each)

  each : All (IsChild (br t a) (h t a)) (m ++ tail t a)
  each = All-append (IsChild (br t a) (h t a)) m (tail t a) each_m each_tail

  low_now : byte_len (joined (m ++ tail t a)) < 2 ^ 32
  low_now = omega (arith, without_bytes _ _ _ _ whole, c.requires.few)

  all_moved : AreMovable (m ++ tail t a)
  all_moved =
      with_leaves_movable (br t a) (h t a) (m ++ tail t a) _ each refl
      (without_leaves _ _ _ _ whole) low_now

  siblings : AreSiblings (br t a) (h t a) (m ++ tail t a)
  siblings =
      with_leaves (br t a) (h t a) (m ++ tail t a) _ each refl (without_leaves _ _ _ _ whole)
      low_now

  enough : c.args.fewest ≤ length (m ++ tail t a)
  enough =
      omega (
        arith,
        length-append m (tail t a),
        tail_long t a,
        c.remove_up_to_last.ensures.enough c.if-remove_up_to_last.true,
        c.branch_at-last.ensures.child,
        c.if-from-to.false,
        c.if-count-fewest.false,
        c.count.ensures,
      )

  few : length (m ++ tail t a) ≤ 24
  few =
      omega (
        arith,
        length-append m (tail t a),
        tail_long t a,
        head_long t a,
        ap length (head_is t a),
        c.remove_up_to_last.ensures.most c.if-remove_up_to_last.true,
        c.branch_at-last.ensures.child,
        c.requires.children.at_most_24,
      )

  now_is : (l : List Tree) → l ≡ m ++ c.take_from.new.self → l ≡ m ++ tail t a
  now_is l is = is ∙ ap (λ k. m ++ k) (tail_is t a)

pub remove_lists-take_from-requires-then-remove_up_to_last-clause-level :
    goal.remove_lists-take_from-requires-then-remove_up_to_last-clause-level
remove_lists-take_from-requires-then-remove_up_to_last-clause-level t c =
    let d = (goal.at.remove_lists-take_from-requires-then-remove_up_to_last-clause-level t
    c).Then-remove_up_to_last in
    rw (tail_is t (a t d)) (all_moved t d).level

pub remove_lists-take_from-requires-then-remove_up_to_last-clause-few :
    goal.remove_lists-take_from-requires-then-remove_up_to_last-clause-few
remove_lists-take_from-requires-then-remove_up_to_last-clause-few t c =
    let d = (goal.at.remove_lists-take_from-requires-then-remove_up_to_last-clause-few t
    c).Then-remove_up_to_last in
    rw (tail_is t (a t d)) (all_moved t d).few

pub remove_lists-take_from-requires-then-remove_up_to_last-clause-level_other :
    goal.remove_lists-take_from-requires-then-remove_up_to_last-clause-level_other
remove_lists-take_from-requires-then-remove_up_to_last-clause-level_other t c =
    let d = (goal.at.remove_lists-take_from-requires-then-remove_up_to_last-clause-level_other t
    c).Then-remove_up_to_last in
    rw (tail_is t (a t d)) (last t (a t d)).level

pub remove_lists-returns-then-remove_up_to_last-clause-without :
    goal.remove_lists-returns-then-remove_up_to_last-clause-without
remove_lists-returns-then-remove_up_to_last-clause-without t c = λ _.
    let d = (goal.at.remove_lists-returns-then-remove_up_to_last-clause-without t
    c).Then-remove_up_to_last in
    rw (now_is t d _ c.take_from-then-remove_up_to_last.ensures.moved) (whole t d)

pub remove_lists-returns-then-remove_up_to_last-clause-children :
    goal.remove_lists-returns-then-remove_up_to_last-clause-children
remove_lists-returns-then-remove_up_to_last-clause-children t c =
    let d = (goal.at.remove_lists-returns-then-remove_up_to_last-clause-children t
    c).Then-remove_up_to_last in
    subst AreFamily (sym (now_is t d _ c.take_from-then-remove_up_to_last.ensures.moved))
    (family_of _ _ _ (siblings t d) (omega (arith, enough t d, c.requires.some)) (few t d))

pub remove_lists-returns-then-remove_up_to_last-clause-height :
    goal.remove_lists-returns-then-remove_up_to_last-clause-height
remove_lists-returns-then-remove_up_to_last-clause-height t c =
    let d = (goal.at.remove_lists-returns-then-remove_up_to_last-clause-height t
    c).Then-remove_up_to_last in
    ap height_of (now_is t d _ c.take_from-then-remove_up_to_last.ensures.moved)
    ∙ height_of_is (br t (a t d)) (h t (a t d)) _ (omega (arith, enough t d, c.requires.some))
    (each t d)

pub remove_lists-returns-then-remove_up_to_last-clause-breaks :
    goal.remove_lists-returns-then-remove_up_to_last-clause-breaks
remove_lists-returns-then-remove_up_to_last-clause-breaks t c =
    let d = (goal.at.remove_lists-returns-then-remove_up_to_last-clause-breaks t
    c).Then-remove_up_to_last in
    ap breaks_of (now_is t d _ c.take_from-then-remove_up_to_last.ensures.moved)
    ∙ breaks_of_is (br t (a t d)) (h t (a t d)) _ (omega (arith, enough t d, c.requires.some))
    (each t d)

pub remove_lists-returns-then-remove_up_to_last-clause-enough :
    goal.remove_lists-returns-then-remove_up_to_last-clause-enough
remove_lists-returns-then-remove_up_to_last-clause-enough t c =
    let d = (goal.at.remove_lists-returns-then-remove_up_to_last-clause-enough t
    c).Then-remove_up_to_last in
    rw (now_is t d _ c.take_from-then-remove_up_to_last.ensures.moved) (enough t d)

-- the children as they were
module _ (t : ℕ) (c : remove_lists-Else-remove_up_to_last t) where
  abbrev q : remove_lists-After-take_from t
  q = (goal.at.remove_lists-Else-remove_up_to_last t c).After-take_from

  restored : c.remove_up_to_last.new.self ++ c.take_from.new.self ≡ ts t q
  restored =
      ap₂ (λ l k. l ++ k)
      (c.remove_up_to_last.ensures.kept c.if-remove_up_to_last.false ∙ head_is t q) (tail_is t q)
      ∙ halves t q

pub remove_lists-take_from-requires-2-clause-level :
    goal.remove_lists-take_from-requires-2-clause-level
remove_lists-take_from-requires-2-clause-level t c =
    let e = (goal.at.remove_lists-take_from-requires-2-clause-level t c).Else-remove_up_to_last in
    rw (restored t e) (all t (q t e)).level

pub remove_lists-take_from-requires-2-clause-level_other :
    goal.remove_lists-take_from-requires-2-clause-level_other
remove_lists-take_from-requires-2-clause-level_other t c =
    let e =
    (goal.at.remove_lists-take_from-requires-2-clause-level_other t c).Else-remove_up_to_last in
    rw (tail_is t (q t e)) (last t (q t e)).level
