use Rattle.std.proofs.Common.{◌≡◌, ℕ, ◌+◌, ◌^◌, ◌<◌, ◌≤◌, List, [], ◌∷◌, ◌++◌, length, sym, ap, subst, ◌∙◌, arith}
use Rattle.std.specs.List.{All, concat}
use Rattle.std.proofs.lemmas.List.{append-nil, length-append}
use Rattle.std.proofs.lemmas.List.Elements.{All-nil, All-cons}
use Rattle.rope_text.specs.Text.{byte_len}
use Rattle.rope_leaf.specs.Leaves.{AreLeaves}
use Rattle.rope_leaf.specs.Tree.{Tree, joined, leaves_of, height_of, breaks_of, tree_over, IsChild, AreFamily}
use Rattle.rope_leaf.specs.Siblings.{AreLevel}
use Rattle.rope_tree.specs.Split.{AreSettled}
use Rattle.rope_tree.proofs.MoveLaws.{AreMovable}
use Rattle.rope_tree.proofs.SettledLaws.{settled_some, settled_few}
use Rattle.rope_tree.proofs.UnevenLaws.{IsGrown, few_both, grown_by, good_added, few_added, wider, own_last, last_leaves, last_few, last_replaced, last_movable, last_family, last_height, last_breaks, pair_movable, settled_nodes, settled_both, below_last, few_of_both}
use Rattle.rope_tree.proofs.node.Children.+append_lower.Goals.{In-Some, After-levels-2, After-append_lower-left}
use Rattle.rope_tree.proofs.node.Children.+append_lower.Goals as goal

-- the last list and the lower one
module _ {t : ℕ} (c : In-Some t) where
  abbrev old : List Tree
  old = c.args.self.now

  abbrev pre : List Tree
  pre = c.pop_list.new.self

  abbrev a : List Tree
  a = c.in-Some.last.value

  abbrev lower : List Tree
  lower = c.args.lower.value

  abbrev lo : List (List ℕ)
  lo = leaves_of lower

  is : old ≡ pre ++ tree_over a ∷ []
  is = c.in-Some.ensures.list

  few : byte_len (concat (leaves_of old ++ lo)) < 2 ^ 32
  few = few_both old lower c.requires.few

  own : IsChild (breaks_of old) (height_of old) (tree_over a)
  own = own_last old pre a is c.requires.children lo c.requires.leaves few

  many : length old ≡ length pre + 1
  many = ap length is ∙ length-append pre (tree_over a ∷ [])

  leaves_a : AreLeaves (leaves_of a ++ lo)
  leaves_a = last_leaves old pre a is c.requires.children lo c.requires.leaves few

  few_a : byte_len (concat (leaves_of a ++ lo)) < 2 ^ 32
  few_a = last_few old pre a is c.requires.children lo c.requires.leaves few

  module _ (same : height_of a ≡ height_of lower) where
    pair : AreMovable (a ++ lower)
    pair =
        pair_movable (breaks_of old) (height_of old) a lower c.in-Some.ensures.family
        c.requires.lower own.same_breaks c.requires.same_breaks same own.at_height leaves_a few_a

    module _ (us : List Tree) (s : AreSettled (a ++ lower) us) where
      nodes : All (IsChild (breaks_of old) (height_of old)) us
      nodes =
          settled_nodes (breaks_of old) (height_of old) a lower c.in-Some.ensures.family
          c.requires.lower own.same_breaks c.requires.same_breaks same own.at_height leaves_a few_a
          us s

      both : leaves_of us ≡ leaves_of a ++ lo
      both =
          settled_both (breaks_of old) (height_of old) a lower c.in-Some.ensures.family
          c.requires.lower own.same_breaks c.requires.same_breaks same own.at_height leaves_a few_a
          us s

      moved : AreMovable (pre ++ us)
      moved =
          last_movable old pre a is c.requires.children lo c.requires.leaves few us nodes both

      some : 2 ≤ length (pre ++ us)
      some =
          omega (
            arith,
            many,
            length-append pre us,
            c.requires.children.at_least_two,
            settled_some (a ++ lower) us s,
          )

-- the last list after the call, which has the leaves of both or is as it was
module _ {t : ℕ} (c : After-append_lower-left t) where
  abbrev n : In-Some t
  n = (goal.at.After-append_lower-left t c).In-Some

  abbrev b : List Tree
  b = c.append_lower-left.new.self

  same_a : c.as_mut.result.now ≡ a n
  same_a = c.as_mut.ensures.value

  grown : IsGrown (leaves_of (a n)) (leaves_of b) (lo n)
  grown =
      subst (λ l. IsGrown (leaves_of l) (leaves_of b) (lo n)) same_a
      (grown_by c.append_lower-left.result c.as_mut.result.now b (lo n)
      c.append_lower-left.ensures.leaves c.append_lower-left.ensures.kept)

  good : AreLeaves (leaves_of (old n) ++ grown.added)
  good =
      good_added (leaves_of (old n)) (lo n) grown.added grown.all c.requires.children.leaves
      c.requires.leaves

  low : byte_len (concat (leaves_of (old n) ++ grown.added)) < 2 ^ 32
  low = few_added (leaves_of (old n)) (lo n) grown.added grown.all (few n)

  child : IsChild (breaks_of (old n)) (height_of (old n)) (tree_over b)
  child =
      wider (breaks_of (old n)) (height_of (old n)) (a n) b (own n)
      c.append_lower-left.ensures.children
      (c.append_lower-left.ensures.breaks ∙ ap breaks_of same_a)
      (c.append_lower-left.ensures.height ∙ ap height_of same_a)
      (omega (arith, c.append_lower-left.ensures.wide, ap length same_a))

  one : All (IsChild (breaks_of (old n)) (height_of (old n))) (tree_over b ∷ [])
  one =
      let P = IsChild (breaks_of (old n)) (height_of (old n)) in
      All-cons P (tree_over b) [] child (All-nil P)

  one_leaves : leaves_of (tree_over b ∷ []) ≡ leaves_of (a n) ++ grown.added
  one_leaves = append-nil (leaves_of b) ∙ grown.is

  pushed : AreMovable (pre n ++ tree_over b ∷ [])
  pushed =
      last_movable (old n) (pre n) (a n) (is n) c.requires.children grown.added good low
      (tree_over b ∷ []) one one_leaves

  long : 2 ≤ length (pre n ++ tree_over b ∷ [])
  long =
      omega (
        arith,
        many n,
        length-append (pre n) (tree_over b ∷ []),
        c.requires.children.at_least_two,
      )

-- the heights that were found equal
module _ {t : ℕ} (c : After-levels-2 t) where
  heights : c.levels.result ≡ c.levels-2.result
      → height_of c.in-Some.last.value ≡ height_of c.args.lower.value
  heights e =
      omega (
        arith,
        e,
        c.levels.ensures,
        c.levels-2.ensures,
        ap height_of c.as_ref.ensures,
        ap height_of c.as_ref-2.ensures,
      )

  others : (c.levels.result ≡ c.levels-2.result → ⊥)
      → height_of c.in-Some.last.value ≡ height_of c.args.lower.value → ⊥
  others e same =
      e
      (omega (
        arith,
        same,
        c.levels.ensures,
        c.levels-2.ensures,
        ap height_of c.as_ref.ensures,
        ap height_of c.as_ref-2.ensures,
      ))

pub push_settled-requires-clause-level : goal.push_settled-requires-clause-level
push_settled-requires-clause-level t c =
    let v = (goal.at.push_settled-requires-clause-level t c).After-levels-2 in
    let n = (goal.at.push_settled-requires-clause-level t c).In-Some in
    (pair n (heights v c.if-levels.true)).level

pub push_settled-requires-clause-few : goal.push_settled-requires-clause-few
push_settled-requires-clause-few t c =
    let v = (goal.at.push_settled-requires-clause-few t c).After-levels-2 in
    let n = (goal.at.push_settled-requires-clause-few t c).In-Some in
    (pair n (heights v c.if-levels.true)).few

pub push_settled-requires-clause-enough : goal.push_settled-requires-clause-enough
push_settled-requires-clause-enough t c =
    let n = (goal.at.push_settled-requires-clause-enough t c).In-Some in
    omega (
      arith,
      length-append (a n) (lower n),
      (own n).wide (omega (arith, (own n).at_height)),
    )

pub push_settled-requires-clause-fits : goal.push_settled-requires-clause-fits
push_settled-requires-clause-fits t c = λ us s.
    let v = (goal.at.push_settled-requires-clause-fits t c).After-levels-2 in
    let n = (goal.at.push_settled-requires-clause-fits t c).In-Some in
    (moved n (heights v c.if-levels.true) us s).level

pub push_settled-requires-clause-narrow : goal.push_settled-requires-clause-narrow
push_settled-requires-clause-narrow t c = λ us s.
    let v = (goal.at.push_settled-requires-clause-narrow t c).After-levels-2 in
    let n = (goal.at.push_settled-requires-clause-narrow t c).In-Some in
    (moved n (heights v c.if-levels.true) us s).few

pub returns-then-levels-clause-leaves : goal.returns-then-levels-clause-leaves
returns-then-levels-clause-leaves t c =
    let v = (goal.at.returns-then-levels-clause-leaves t c).After-levels-2 in
    let n = (goal.at.returns-then-levels-clause-leaves t c).In-Some in
    let p = c.push_settled.ensures.pushed in
    let same = heights v c.if-levels.true in
    ap leaves_of p.is
    ∙ last_replaced (old n) (pre n) (a n) (is n) c.requires.children (lo n) c.requires.leaves
    (few n)
    p.nodes (nodes n same p.nodes p.settled) (both n same p.nodes p.settled)

pub returns-then-levels-clause-children : goal.returns-then-levels-clause-children
returns-then-levels-clause-children t c =
    let v = (goal.at.returns-then-levels-clause-children t c).After-levels-2 in
    let n = (goal.at.returns-then-levels-clause-children t c).In-Some in
    let p = c.push_settled.ensures.pushed in
    let same = heights v c.if-levels.true in
    subst AreFamily (sym p.is)
    (last_family (old n) (pre n) (a n) (is n) c.requires.children (lo n) c.requires.leaves (few n)
    p.nodes (nodes n same p.nodes p.settled) (both n same p.nodes p.settled)
    (some n same p.nodes p.settled)
    (omega (
      arith,
      many n,
      length-append (pre n) p.nodes,
      settled_few (a n ++ lower n) p.nodes p.settled,
      c.count.ensures,
      c.if-count-ge-MAX_CHILDREN.false,
    )))

pub returns-then-levels-clause-height : goal.returns-then-levels-clause-height
returns-then-levels-clause-height t c =
    let v = (goal.at.returns-then-levels-clause-height t c).After-levels-2 in
    let n = (goal.at.returns-then-levels-clause-height t c).In-Some in
    let p = c.push_settled.ensures.pushed in
    let same = heights v c.if-levels.true in
    ap height_of p.is
    ∙ last_height (old n) (pre n) (a n) (is n) c.requires.children (lo n) c.requires.leaves (few n)
    p.nodes (nodes n same p.nodes p.settled) (both n same p.nodes p.settled)
    (some n same p.nodes p.settled)

pub returns-then-levels-clause-breaks : goal.returns-then-levels-clause-breaks
returns-then-levels-clause-breaks t c =
    let v = (goal.at.returns-then-levels-clause-breaks t c).After-levels-2 in
    let n = (goal.at.returns-then-levels-clause-breaks t c).In-Some in
    let p = c.push_settled.ensures.pushed in
    let same = heights v c.if-levels.true in
    ap breaks_of p.is
    ∙ last_breaks (old n) (pre n) (a n) (is n) c.requires.children (lo n) c.requires.leaves (few n)
    p.nodes (nodes n same p.nodes p.settled) (both n same p.nodes p.settled)
    (some n same p.nodes p.settled)

pub append_lower-left-requires : goal.append_lower-left-requires
append_lower-left-requires t c =
    let v = (goal.at.append_lower-left-requires t c).After-levels-2 in
    let n = (goal.at.append_lower-left-requires t c).In-Some in
    let e = c.as_mut.ensures.value in (
      omega (arith, c.decreases, ap height_of e, (own n).at_height),
      (
        subst AreFamily (sym e) c.in-Some.ensures.family,
        (
          c.requires.lower,
          (
            rw e (below_last (height_of (a n)) (height_of (lower n)) (height_of (old n))
                (own n).at_height c.requires.below (others v c.if-levels.false)),
            (
              rw e (c.requires.same_breaks ∙ sym (own n).same_breaks),
              (rw e (leaves_a n), (rw e (few_of_both (a n) (lower n) (few_a n)), c.requires.none)),
            ),
          ),
        ),
      ),
    )

pub push-requires-clause-level : goal.push-requires-clause-level
push-requires-clause-level t c =
    let g = (goal.at.push-requires-clause-level t c).After-append_lower-left in
    subst (λ x. AreLevel (c.pop_list.new.self ++ x ∷ [])) (sym c.over.ensures) (pushed g).level

pub push-requires-clause-few : goal.push-requires-clause-few
push-requires-clause-few t c =
    let g = (goal.at.push-requires-clause-few t c).After-append_lower-left in
    subst (λ x. byte_len (joined (c.pop_list.new.self ++ x ∷ [])) < 2 ^ 32) (sym c.over.ensures)
    (pushed g).few

-- the children with the last list over again
module _ {t : ℕ} (c : After-append_lower-left t) where
  abbrev now : List Tree
  now = pre (n c) ++ tree_over (b c) ∷ []

  now_leaves : leaves_of now ≡ leaves_of (old (n c)) ++ (grown c).added
  now_leaves =
      last_replaced (old (n c)) (pre (n c)) (a (n c)) (is (n c)) c.requires.children
      (grown c).added (good c) (low c) (tree_over (b c) ∷ []) (one c) (one_leaves c)

  now_family : AreFamily now
  now_family =
      last_family (old (n c)) (pre (n c)) (a (n c)) (is (n c)) c.requires.children
      (grown c).added (good c) (low c) (tree_over (b c) ∷ []) (one c) (one_leaves c) (long c)
      (omega (
        arith,
        many (n c),
        length-append (pre (n c)) (tree_over (b c) ∷ []),
        c.requires.children.at_most_24,
      ))

  now_height : height_of now ≡ height_of (old (n c))
  now_height =
      last_height (old (n c)) (pre (n c)) (a (n c)) (is (n c)) c.requires.children
      (grown c).added (good c) (low c) (tree_over (b c) ∷ []) (one c) (one_leaves c) (long c)

  now_breaks : breaks_of now ≡ breaks_of (old (n c))
  now_breaks =
      last_breaks (old (n c)) (pre (n c)) (a (n c)) (is (n c)) c.requires.children
      (grown c).added (good c) (low c) (tree_over (b c) ∷ []) (one c) (one_leaves c) (long c)

  pushed_is : (o : Tree) → o ≡ tree_over (b c) → (l : List Tree) → l ≡ pre (n c) ++ o ∷ [] → l ≡ now
  pushed_is o over l e = e ∙ ap (λ x. pre (n c) ++ x ∷ []) over

pub returns-clause-children : goal.returns-clause-children
returns-clause-children t c =
    let g = (goal.at.returns-clause-children t c).After-append_lower-left in
    subst AreFamily (sym (pushed_is g _ c.over.ensures _ c.push.ensures)) (now_family g)

pub returns-clause-height : goal.returns-clause-height
returns-clause-height t c =
    let g = (goal.at.returns-clause-height t c).After-append_lower-left in
    ap height_of (pushed_is g _ c.over.ensures _ c.push.ensures) ∙ now_height g

pub returns-clause-breaks : goal.returns-clause-breaks
returns-clause-breaks t c =
    let g = (goal.at.returns-clause-breaks t c).After-append_lower-left in
    ap breaks_of (pushed_is g _ c.over.ensures _ c.push.ensures) ∙ now_breaks g

pub push_settled-requires-clause-room : goal.push_settled-requires-clause-room
push_settled-requires-clause-room t c =
    let n = (goal.at.push_settled-requires-clause-room t c).In-Some in
    omega (arith, ap length (is n), length-append (pre n) (tree_over (a n) ∷ []))

pub returns-clause-wide : goal.returns-clause-wide
returns-clause-wide t c =
    let n = (goal.at.returns-clause-wide t c).In-Some in
    omega (
      arith,
      ap length c.push.ensures,
      length-append c.pop_list.new.self (c.over.result ∷ []),
      ap length (is n),
      length-append (pre n) (tree_over (a n) ∷ []),
    )
