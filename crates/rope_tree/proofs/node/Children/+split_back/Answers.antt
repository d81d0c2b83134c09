use Rattle.std.proofs.Common.{rules, ◌≡◌, ℕ, ◌+◌, ◌-◌, ◌*◌, ◌^◌, ◌<◌, ◌≤◌, true, false, List, [], ◌∷◌, ◌++◌, length, get_or, take, drop, IfOk, refl, sym, ap, subst, ◌∙◌, arith}
use Rattle.std.proofs.lemmas.List.{append_assoc, length-append, append-nil, take_all}
use Rattle.std.proofs.lemmas.Result.{IfOk-weaker}
use Rattle.std.proofs.Math.Seq.{take-append_seam}
use Rattle.rope_text.specs.Text.{byte_len}
use Rattle.rope_leaf.specs.Tree.{Tree, text, joined, height_of, breaks_of, tree_over, AreFamily}
use Rattle.rope_leaf.specs.Siblings.{AreLevel}
use Rattle.rope_leaf.specs.Searched.{HasSearched}
use Rattle.rope_tree.specs.Split.{AreSettled, IsFrontOf, MayFollow, IsWhole}
use Rattle.rope_leaf.specs.Totals.{HasTotals}
use Rattle.rope_leaf.proofs.Descents.{front_is}
use Rattle.rope_leaf.proofs.NodeLaws.{joined_more}
use Rattle.rope_tree.proofs.MoveLaws.{AreMovable, movable_of}
use Rattle.rope_tree.proofs.FrontSides.{front_movable, front_enough, front_all, front_side, front_following}
use Rattle.rope_tree.proofs.SplitLaws.{deeper, joined_two, end_height, end_text, end_few, end_back, whole_back}
use Rattle.rope_tree.proofs.node.Children.+split_back.Goals.{split_back-After-total_before-before, split_last-In-Some, split_last-After-split_back-did, split_last-Joined-matches, split_last-in-Ok-true, split_last-in_default-matches, split_last-in_default-matches-2}
use Rattle.rope_tree.proofs.node.Children.+split_back.Goals as goal

-- the lists of the last two children
module _ {t : ℕ} (c : split_last-In-Some t) where
  abbrev old : List Tree
  old = c.args.self.now

  abbrev pre : List Tree
  pre = c.pop_two.new.self

  abbrev a : List Tree
  a = c.in-Some.left.value

  abbrev x : List Tree
  x = c.in-Some.list.value

  is : old ≡ pre ++ (tree_over a ∷ tree_over x ∷ [])
  is = c.in-Some.ensures.lists

  is_last : old ≡ (pre ++ tree_over a ∷ []) ++ (tree_over x ∷ [])
  is_last = is ∙ sym (append_assoc pre (tree_over a ∷ []) (tree_over x ∷ []))

  -- the text before the last one
  before : length (joined (take (length old - 1) old)) ≡ length (joined (pre ++ tree_over a ∷ []))
  before =
      let n : length old - 1 ≡ length (pre ++ tree_over a ∷ []) =
      omega (
        arith,
        ap length is_last,
        length-append (pre ++ tree_over a ∷ []) (tree_over x ∷ []),
      ) in
      ap (λ l. length (joined l)) (ap (λ k. take k old) n
      ∙ ap (take (length (pre ++ tree_over a ∷ []))) is_last
      ∙ take-append_seam (pre ++ tree_over a ∷ []) (tree_over x ∷ []))

  within : c.args.inside < length (joined x)
  within =
      omega (
        arith,
        c.requires.within,
        before,
        ap length (end_text old (pre ++ tree_over a ∷ []) x [] is_last c.requires.children),
        length-append (joined (pre ++ tree_over a ∷ [])) (joined x ++ []),
        ap length (append-nil (joined x)),
      )

module _ {t : ℕ} (c : split_last-After-split_back-did t) where
  abbrev i : split_last-In-Some t
  i = (goal.at.split_last-After-split_back-did t c).In-Some

  abbrev f : List Tree
  f = c.split_back-did.new.self

  abbrev k : List Tree
  k = c.split_back-did.new.rest

module _ {t : ℕ} (c : split_last-Joined-matches t) where
  abbrev s : split_last-After-split_back-did t
  s = (goal.at.split_last-Joined-matches t c).After-split_back-did

  abbrev n : split_last-In-Some t
  n = i s

  parts : c.match-matches.matches ≡ true → IsFrontOf c.args.inside (x n) (f s)
      × (MayFollow (x n) (f s)
      × IsWhole (breaks_of (x n)) (drop c.args.inside (joined (x n))) (k s))
  parts did = elim c.match-matches.branch [
    | split_last-in-Ok-true w ↦
        subst (λ l. IsFrontOf c.args.inside l (f s) × (MayFollow l (f s)
        × IsWhole (breaks_of l) (drop c.args.inside (joined l)) (k s)))
        c.as_mut.ensures.value (
          w.in-Ok-true.ensures.front w.in-Ok-true.field-0-test,
          (
            w.in-Ok-true.ensures.following w.in-Ok-true.field-0-test,
            w.in-Ok-true.ensures.back w.in-Ok-true.field-0-test,
          ),
        )
    | split_last-in_default-matches w ↦ absurd (cc)
    | split_last-in_default-matches-2 w ↦ absurd (cc)
  ]

  kept : c.match-matches.matches ≡ false → f s ≡ x n
  kept undone = elim c.match-matches.branch [
    | split_last-in-Ok-true w ↦ absurd (cc)
    | split_last-in_default-matches w ↦ w.in_default-matches.ensures.kept (search rules)
    | split_last-in_default-matches-2 w ↦ w.in_default-matches.ensures.err
  ] ∙ c.as_mut.ensures.value

  -- the last two children, as they were
  restored : c.match-matches.matches ≡ false
      → pre n ++ (tree_over (a n) ∷ tree_over (f s) ∷ []) ≡ c.args.self.now
  restored undone = ap (λ l. pre n ++ (tree_over (a n) ∷ tree_over l ∷ [])) (kept undone)
      ∙ sym c.in-Some.ensures.lists

  below : c.args.inside ≤ length (joined (x n))
  below = omega (arith, within n)

  height_x : height_of (x n) + 1 ≡ height_of c.args.self.now
  height_x =
      end_height c.args.self.now (pre n ++ tree_over (a n) ∷ []) (x n) [] (is_last n)
      c.requires.children

  counted : c.split_back-did.new.editor.maker.made ≤ c.args.editor.now.maker.made
      + height_of c.args.self.now
  counted =
      omega (arith, c.split_back-did.ensures.made, ap height_of c.as_mut.ensures.value, height_x)

  searched : HasSearched (height_of c.args.self.now) (7 * height_of c.args.self.now)
      c.args.editor.now c.split_back-did.new.editor
  searched =
      deeper _ _ _ _ _ c.as_mut.ensures.value height_x c.split_back-did.ensures.searched

  module _ (did : c.match-matches.matches ≡ true) where
    two_front : AreMovable (a n ++ f s)
    two_front =
        front_movable c.args.self.now (pre n) (a n) (x n) [] (is n) c.requires.children
        c.in-Some.ensures.first c.in-Some.ensures.second c.args.inside (f s) (parts did).0
        (parts did).1.0 below c.requires.few

    enough : 12 ≤ length (a n ++ f s)
    enough =
        front_enough c.args.self.now (pre n) (a n) (x n) [] (is n) c.requires.children
        c.in-Some.ensures.first c.in-Some.ensures.second c.args.inside (f s) (parts did).0
        (parts did).1.0 below

    module _ (nodes : List Tree) (settled : AreSettled (a n ++ f s) nodes) where
      fronts : AreMovable (pre n ++ nodes)
      fronts =
          front_all c.args.self.now (pre n) (a n) (x n) [] (is n) c.requires.children
          c.in-Some.ensures.first c.in-Some.ensures.second c.args.inside (f s)
          (parts did).0 (parts did).1.0 below nodes settled c.requires.few

      front : IsFrontOf (length (joined (take (length c.args.self.now - 1) c.args.self.now))
          + c.args.inside) c.args.self.now (pre n ++ nodes)
      front =
          let at : length (joined (pre n)) + (length (joined (a n)) + c.args.inside)
          ≡ length (joined (take (length c.args.self.now - 1) c.args.self.now)) + c.args.inside =
          omega (arith, before n, joined_two (pre n) (a n)) in
          subst (λ p. IsFrontOf p c.args.self.now (pre n ++ nodes)) at
          (front_side c.args.self.now (pre n) (a n) (x n) [] (is n) c.requires.children
          c.in-Some.ensures.first c.in-Some.ensures.second c.args.inside (f s) (parts did).0
          (parts did).1.0 below nodes settled)

      follow : MayFollow c.args.self.now (pre n ++ nodes)
      follow =
          front_following c.args.self.now (pre n) (a n) (x n) [] (is n) c.requires.children
          c.in-Some.ensures.first c.in-Some.ensures.second c.args.inside (f s) (parts did).0
          (parts did).1.0 below nodes settled

pub split_last-split_back-did-requires : goal.split_last-split_back-did-requires
split_last-split_back-did-requires t c =
    let n = (goal.at.split_last-split_back-did-requires t c).In-Some in
    let e = c.as_mut.ensures.value in
    let up =
    end_height c.args.self.now (pre n ++ tree_over (a n) ∷ []) (x n) [] (is_last n)
    c.requires.children in (
      omega (arith, c.decreases, ap height_of e, up),
      (
        subst AreFamily (sym e) c.in-Some.ensures.second,
        (
          rw e (end_few c.args.self.now (pre n ++ tree_over (a n) ∷ []) (x n) [] (is_last n)
              c.requires.children c.requires.few),
          (
            c.requires.some,
            (
              rw e (within n),
              (c.as_mut-2.ensures.value ∙ c.in_ok-back.ensures, c.requires.none_in_pocket),
            ),
          ),
        ),
      ),
    )

pub split_last-push_two-requires-clause-level : goal.split_last-push_two-requires-clause-level
split_last-push_two-requires-clause-level t c =
    let j = (goal.at.split_last-push_two-requires-clause-level t c).Joined-matches in
    subst AreLevel (sym (restored j c.if-not-matches.true))
    (movable_of _ c.requires.children c.requires.few).level

pub split_last-push_two-requires-clause-few : goal.split_last-push_two-requires-clause-few
split_last-push_two-requires-clause-few t c =
    let j = (goal.at.split_last-push_two-requires-clause-few t c).Joined-matches in
    subst (λ l. byte_len (joined l) < 2 ^ 32) (sym (restored j c.if-not-matches.true))
    c.requires.few

pub split_last-push_settled-requires-clause-level :
    goal.split_last-push_settled-requires-clause-level
split_last-push_settled-requires-clause-level t c =
    (two_front (goal.at.split_last-push_settled-requires-clause-level t c).Joined-matches
    c.if-not-matches.false).level

pub split_last-push_settled-requires-clause-few : goal.split_last-push_settled-requires-clause-few
split_last-push_settled-requires-clause-few t c =
    (two_front (goal.at.split_last-push_settled-requires-clause-few t c).Joined-matches
    c.if-not-matches.false).few

pub split_last-push_settled-requires-clause-enough :
    goal.split_last-push_settled-requires-clause-enough
split_last-push_settled-requires-clause-enough t c =
    enough
    (goal.at.split_last-push_settled-requires-clause-enough t c).Joined-matches
    c.if-not-matches.false

pub split_last-push_settled-requires-clause-fits : goal.split_last-push_settled-requires-clause-fits
split_last-push_settled-requires-clause-fits t c = λ nodes settled.
    (fronts
    (goal.at.split_last-push_settled-requires-clause-fits t c).Joined-matches c.if-not-matches.false
    nodes settled).level

pub split_last-push_settled-requires-clause-narrow :
    goal.split_last-push_settled-requires-clause-narrow
split_last-push_settled-requires-clause-narrow t c = λ nodes settled.
    (fronts
    (goal.at.split_last-push_settled-requires-clause-narrow t c).Joined-matches
    c.if-not-matches.false
    nodes settled).few

pub split_last-returns-clause-front : goal.split_last-returns-clause-front
split_last-returns-clause-front t c = λ _.
    let j = (goal.at.split_last-returns-clause-front t c).Joined-matches in
    let p = c.push_settled.ensures.pushed in
    subst (IsFrontOf (length (joined (take (length c.args.self.now - 1) c.args.self.now))
    + c.args.inside) c.args.self.now) (sym p.is)
    (front j c.if-not-matches.false p.nodes p.settled)

pub split_last-returns-clause-following : goal.split_last-returns-clause-following
split_last-returns-clause-following t c = λ _.
    let j = (goal.at.split_last-returns-clause-following t c).Joined-matches in
    let p = c.push_settled.ensures.pushed in
    subst (MayFollow c.args.self.now) (sym p.is)
    (follow j c.if-not-matches.false p.nodes p.settled)

pub split_last-returns-clause-back : goal.split_last-returns-clause-back
split_last-returns-clause-back t c = λ _.
    let j = (goal.at.split_last-returns-clause-back t c).Joined-matches in
    let at : length (joined (pre (n j) ++ tree_over (a (n j)) ∷ [])) + c.args.inside
    ≡ length (joined (take (length c.args.self.now - 1) c.args.self.now)) + c.args.inside =
    omega (arith, before (n j)) in
    subst (IsWhole (breaks_of c.args.self.now)
    (drop (length (joined (take (length c.args.self.now - 1) c.args.self.now)) + c.args.inside)
    (joined c.args.self.now))) (sym (c.swap.ensures.x_after ∙ c.as_mut-3.ensures.value))
    (subst (λ p. IsWhole (breaks_of c.args.self.now) (drop p (joined c.args.self.now)) (k (s j))) at
    (end_back c.args.self.now (pre (n j) ++ tree_over (a (n j)) ∷ []) (x (n j)) [] (is_last (n j))
    c.requires.children c.args.inside (k (s j)) refl (below j)
    (parts j c.if-not-matches.false).1.1))

pub split_last-returns-clause-made : goal.split_last-returns-clause-made
split_last-returns-clause-made t c =
    omega (
      arith,
      counted (goal.at.split_last-returns-clause-made t c).Joined-matches,
      c.add_made.ensures.most,
    )

pub split_last-returns-clause-searched : goal.split_last-returns-clause-searched
split_last-returns-clause-searched t c =
    let r = searched (goal.at.split_last-returns-clause-searched t c).Joined-matches in
    record { rise = r.rise; nodes = r.nodes; compares = r.compares }

pub split_last-returns-then-not-matches-clause-made :
    goal.split_last-returns-then-not-matches-clause-made
split_last-returns-then-not-matches-clause-made t c =
    omega (
      arith,
      counted
          (goal.at.split_last-returns-then-not-matches-clause-made t c).Joined-matches,
    )

pub split_last-returns-then-not-matches-clause-searched :
    goal.split_last-returns-then-not-matches-clause-searched
split_last-returns-then-not-matches-clause-searched t c =
    searched (goal.at.split_last-returns-then-not-matches-clause-searched t c).Joined-matches

-- the text before the last child
module _ {t : ℕ} (c : split_back-After-total_before-before t) where
  abbrev ts : List Tree
  ts = c.args.self.now

  abbrev last : ℕ
  last = c.len-last.result - 1

  totals : HasTotals (breaks_of ts) c.self.inside.totals ts
  totals = rw c.self.view_is at c.self.invariant.totals_right

  last_is : last + 1 ≡ length ts
  last_is = omega (arith, c.len-last.ensures, totals.as_many, c.requires.children.at_least_two)

  before_is : c.total_before-before.result.chars ≡ length (joined (take last ts))
  before_is =
      ap (λ i. i.chars)
      (front_is _ _ _ _ c.total_before-before.result totals (omega (arith, c.len-last.ensures))
      c.total_before-before.ensures.first c.total_before-before.ensures.later)

  -- the text of the last child is the rest
  rest_is : (d : Tree) → length (joined ts) ≡ length (joined (take last ts))
      + length (text (get_or ts last d))
  rest_is d = ap (λ l. length (joined l)) (sym (take_all (last + 1) ts (omega (arith, last_is))))
      ∙ ap length (joined_more ts last d (omega (arith, last_is)))
      ∙ length-append (joined (take last ts)) (text (get_or ts last d))

  -- the place of the split
  place : c.total_before-before.result.chars < c.args.at
      → length (joined (take last ts)) + (c.args.at - c.total_before-before.result.chars)
      ≡ c.args.at
  place later = omega (arith, before_is, later)

  -- the number of children before the last
  last_place : length (joined (take (length ts - 1) ts)) ≡ length (joined (take last ts))
  last_place = ap (λ n. length (joined (take n ts))) (omega (arith, last_is))

pub split_back-returns-then-at-before-clause-back :
    goal.split_back-returns-then-at-before-clause-back
split_back-returns-then-at-before-clause-back t c =
    IfOk-weaker c.split.result _ _ (λ _ sides did. whole_back c.args.at _ _ c.requires.children
    (sides did).is_back) c.split.ensures.done

pub split_back-split_leaf_at-requires-clause-within :
    goal.split_back-split_leaf_at-requires-clause-within
split_back-split_leaf_at-requires-clause-within t c leaf =
    let k =
    (goal.at.split_back-split_leaf_at-requires-clause-within t c).After-total_before-before in
    omega (arith, c.requires.within, before_is k, rest_is k leaf, c.if-at-before.false)

pub split_back-returns-then-self-eq1-clause-front :
    goal.split_back-returns-then-self-eq1-clause-front
split_back-returns-then-self-eq1-clause-front t c =
    let k = (goal.at.split_back-returns-then-self-eq1-clause-front t c).After-total_before-before in
    subst (λ p. IfOk c.split_leaf_at.result (λ did. did ≡ true
    → IsFrontOf p (ts k) c.split_leaf_at.new.self)) (place k (omega (arith, c.if-at-before.false)))
    c.split_leaf_at.ensures.front

pub split_back-returns-then-self-eq1-clause-back :
    goal.split_back-returns-then-self-eq1-clause-back
split_back-returns-then-self-eq1-clause-back t c =
    let k = (goal.at.split_back-returns-then-self-eq1-clause-back t c).After-total_before-before in
    subst (λ p. IfOk c.split_leaf_at.result (λ did. did ≡ true
    → IsWhole (breaks_of (ts k)) (drop p (joined (ts k))) c.split_leaf_at.new.rest))
    (place k (omega (arith, c.if-at-before.false)))
    (IfOk-weaker c.split_leaf_at.result _ _
    (λ _ back did. whole_back _ _ _ c.requires.children (back did)) c.split_leaf_at.ensures.back)

pub split_back-split_last-requires : goal.split_back-split_last-requires
split_back-split_last-requires t c =
    let k = (goal.at.split_back-split_last-requires t c).After-total_before-before in (
      omega (arith, c.decreases),
      (
        c.requires.children,
        (
          omega (arith, c.if-self-eq1.false, c.self.invariant.above, ap height_of c.self.view_is),
          (
            c.requires.few,
            (
              omega (arith, c.if-at-before.false),
              (
                omega (
                  arith,
                  c.requires.within,
                  before_is k,
                  last_place k,
                  c.if-at-before.false,
                ),
                (c.requires.none, c.requires.none_in_pocket),
              ),
            ),
          ),
        ),
      ),
    )

pub split_back-returns-clause-front : goal.split_back-returns-clause-front
split_back-returns-clause-front t c =
    let k = (goal.at.split_back-returns-clause-front t c).After-total_before-before in
    subst (λ p. IfOk c.split_last.result (λ did. did ≡ true
    → IsFrontOf p (ts k) c.split_last.new.self))
    (omega (arith, last_place k, place k (omega (arith, c.if-at-before.false))))
    c.split_last.ensures.front

pub split_back-returns-clause-back : goal.split_back-returns-clause-back
split_back-returns-clause-back t c =
    let k = (goal.at.split_back-returns-clause-back t c).After-total_before-before in
    subst (λ p. IfOk c.split_last.result (λ did. did ≡ true
    → IsWhole (breaks_of (ts k)) (drop p (joined (ts k))) c.split_last.new.rest))
    (omega (arith, last_place k, place k (omega (arith, c.if-at-before.false))))
    c.split_last.ensures.back

pub split_last-push_settled-requires-clause-room : goal.split_last-push_settled-requires-clause-room
split_last-push_settled-requires-clause-room t c =
    let i = (goal.at.split_last-push_settled-requires-clause-room t c).In-Some in
    omega (
      arith,
      ap length (is i),
      length-append (pre i) (tree_over (a i) ∷ tree_over (x i) ∷ []),
      c.requires.children.at_most_24,
    )

pub split_last-push_two-requires-clause-room : goal.split_last-push_two-requires-clause-room
split_last-push_two-requires-clause-room t c =
    let i = (goal.at.split_last-push_two-requires-clause-room t c).In-Some in
    omega (
      arith,
      ap length (is i),
      length-append (pre i) (tree_over (a i) ∷ tree_over (x i) ∷ []),
      c.requires.children.at_most_24,
    )
