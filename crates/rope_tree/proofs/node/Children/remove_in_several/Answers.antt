use Rattle.std.proofs.Common.{◌≡◌, ◌+◌, ◌-◌, ◌≤◌, List, [], ◌∷◌, ◌++◌, length, get_or, take, drop, sym, ap, ap₂, subst, ◌∙◌, arith}
use Rattle.std.specs.List.{All, concat}
use Rattle.std.proofs.lemmas.List.{append_assoc, append-nil, length-append, length-take-le, take-append-le, take-append-drop, take-take}
use Rattle.std.proofs.lemmas.List.Elements.{All-head}
use Rattle.std.proofs.Math.Seq.{take-append_seam, get_or-append_seam}
use Rattle.rope_text.specs.Text.{byte_len}
use Rattle.rope_leaf.specs.Tree.{Tree, text, joined, leaves_of, breaks_of, height_of, tree_over, IsChild}
use Rattle.rope_leaf.proofs.LeafLaws.{all_right}
use Rattle.rope_leaf.proofs.NodeLaws.{leaves_of-append, joined-append}
use Rattle.rope_leaf.proofs.SiblingLaws.{byte_len-append}
use Rattle.rope_tree.specs.Removed.{AreParted, AreWithout}
use Rattle.rope_tree.specs.Split.{nodes_over}
use Rattle.rope_tree.proofs.MoveLaws.{AreMovable, movable, movable_left, movable_right, movable_after, leaves_over, first_breaks}
use Rattle.rope_tree.proofs.PartLaws.{same_set}
use Rattle.rope_tree.proofs.UnevenLaws.{with_leaves_movable}
use Rattle.rope_tree.proofs.RemovedLaws.{without_of, parted_bytes}
use Rattle.rope_tree.proofs.node.Children.remove_in_several.Goals.{In-Some, After-take_from, Then-remove_in_two, Else-remove_in_two}
use Rattle.rope_tree.proofs.node.Children.remove_in_several.Goals as goal

module _ (c : In-Some) where
  abbrev ts : List Tree
  ts = c.args.self.now

  abbrev us : List Tree
  us = c.pop_list.new.self

  abbrev x : List Tree
  x = c.in-Some.right.value

  is : ts ≡ us ++ tree_over x ∷ []
  is = c.in-Some.ensures.list

  long : length ts ≡ length us + 1
  long = ap length is ∙ length-append us (tree_over x ∷ [])

  all : AreMovable ts
  all = movable ts c.requires.level c.requires.few

  front : AreMovable us
  front = movable_left us (tree_over x ∷ []) (subst AreMovable is all)

  -- the children up to the one at the index, and those after it but the last
  abbrev head : List Tree
  head = take (c.args.place + 1) us

  abbrev mid : List Tree
  mid = drop (c.args.place + 1) us

  halves : head ++ mid ≡ us
  halves = take-append-drop (c.args.place + 1) us

  head_long : length head ≡ c.args.place + 1
  head_long = length-take-le (c.args.place + 1) us (omega (arith, long, c.requires.some_after))

  first : AreMovable head
  first = movable_left head mid (subst AreMovable (sym halves) front)

  same_breaks : breaks_of head ≡ breaks_of ts
  same_breaks =
      first_breaks (c.args.place + 1) us (omega arith)
      ∙ same_set us (tree_over x ∷ []) (omega (arith, long, c.requires.some_after))
      ∙ ap breaks_of (sym is)

  low : byte_len (joined head) + (byte_len (joined mid) + byte_len (joined x))
      ≡ byte_len (joined ts)
  low =
      omega (
        arith,
        byte_len-append head mid,
        ap (λ l. byte_len (joined l)) halves,
        byte_len-append us (tree_over x ∷ []),
        ap (λ l. byte_len (joined l)) is,
        ap (λ l. byte_len (concat l)) (append-nil (leaves_of x)),
      )

  last_here : get_or ts (length ts - 1) (tree_over x) ≡ tree_over x
  last_here =
      let n : length ts - 1 ≡ length us = omega (arith, long) in
      ap (λ n. get_or ts n (tree_over x)) n
      ∙ ap (λ l. get_or l (length us) (tree_over x)) is
      ∙ get_or-append_seam us (tree_over x) [] (tree_over x)

  end_in : c.args.end ≤ length (joined x)
  end_in =
      subst (λ t. c.args.end ≤ length (text t)) last_here (c.requires.within (tree_over x))

  before_last : take (length ts - 1) ts ≡ head ++ mid
  before_last =
      let n : length ts - 1 ≡ length us = omega (arith, long) in
      ap (λ n. take n ts) n
      ∙ ap (take (length us)) is ∙ take-append_seam us (tree_over x ∷ []) ∙ sym halves

  at_place : take (length head - 1) head ≡ take c.args.place ts
  at_place =
      let n : length head - 1 ≡ c.args.place = omega (arith, head_long) in
      ap (λ n. take n head) n
      ∙ take-take c.args.place (c.args.place + 1) us (omega arith)
      ∙ sym (ap (take c.args.place) is
      ∙ take-append-le c.args.place us (tree_over x ∷ [])
      (omega (arith, long, c.requires.some_after)))

  all_leaves : leaves_of ts ≡ leaves_of head ++ (leaves_of mid ++ leaves_of x)
  all_leaves =
      ap leaves_of is ∙ leaves_of-append us (tree_over x ∷ [])
      ∙ ap₂ (λ l m. l ++ m) (ap leaves_of (sym halves) ∙ leaves_of-append head mid)
      (append-nil (leaves_of x))
      ∙ append_assoc (leaves_of head) (leaves_of mid) (leaves_of x)

  own : IsChild (breaks_of ts) 1 (tree_over x)
  own =
      let P = IsChild (breaks_of ts) 1 in
      All-head P (tree_over x) []
      (all_right P us (tree_over x ∷ [])
      (subst (All P) is (subst (λ h. All (IsChild (breaks_of ts) h) ts) c.requires.lists
      c.requires.level.each)))

  flat : height_of x ≡ 0
  flat = omega (arith, own.at_height)

pub take_from-requires-clause-level : goal.take_from-requires-clause-level
take_from-requires-clause-level c =
    let i = (goal.at.take_from-requires-clause-level c).In-Some in
    (movable_after (us i) c.none-between.result (c.args.place + 1) c.none-between.ensures
    (front i)).level

pub take_from-requires-clause-few : goal.take_from-requires-clause-few
take_from-requires-clause-few c =
    let i = (goal.at.take_from-requires-clause-few c).In-Some in
    (movable_after (us i) c.none-between.result (c.args.place + 1) c.none-between.ensures
    (front i)).few

pub take_from-requires-clause-level_other : goal.take_from-requires-clause-level_other
take_from-requires-clause-level_other c =
    (front (goal.at.take_from-requires-clause-level_other c).In-Some).level

-- the lists between, taken out
module _ (c : After-take_from) where
  abbrev i : In-Some
  i = (goal.at.After-take_from c).In-Some

  mid_is : c.take_from.new.self ≡ mid i
  mid_is = c.take_from.ensures.moved ∙ ap (λ l. l ++ mid i) c.none-between.ensures

  head_is : c.take_from.new.other ≡ head i
  head_is = c.take_from.ensures.rest

pub remove_in_two-requires-clause-level : goal.remove_in_two-requires-clause-level
remove_in_two-requires-clause-level c =
    let a = (goal.at.remove_in_two-requires-clause-level c).After-take_from in
    rw (head_is a) (first (i a)).level

pub remove_in_two-requires-clause-few : goal.remove_in_two-requires-clause-few
remove_in_two-requires-clause-few c =
    let a = (goal.at.remove_in_two-requires-clause-few c).After-take_from in
    rw (head_is a, c.as_mut.ensures.value) (omega (arith, low (i a), c.requires.few))

pub remove_in_two-requires-clause-right_leaves : goal.remove_in_two-requires-clause-right_leaves
remove_in_two-requires-clause-right_leaves c =
    let a = (goal.at.remove_in_two-requires-clause-right_leaves c).After-take_from in
    rw c.as_mut.ensures.value (flat (i a))

pub remove_in_two-requires-clause-same_breaks : goal.remove_in_two-requires-clause-same_breaks
remove_in_two-requires-clause-same_breaks c =
    let a = (goal.at.remove_in_two-requires-clause-same_breaks c).After-take_from in
    rw (head_is a, c.as_mut.ensures.value) ((own (i a)).same_breaks ∙ sym (same_breaks (i a)))

pub remove_in_two-requires-clause-within : goal.remove_in_two-requires-clause-within
remove_in_two-requires-clause-within c =
    let a = (goal.at.remove_in_two-requires-clause-within c).After-take_from in
    rw c.as_mut.ensures.value (end_in (i a))

-- the lists that are left
module _ (c : Then-remove_in_two) where
  abbrev a : After-take_from
  a = (goal.at.Then-remove_in_two c).After-take_from

  abbrev n : List Tree
  n = c.remove_in_two.new.self

  abbrev r : List Tree
  r = c.remove_in_two.new.right

  parted : AreParted (length (joined (take c.args.place (ts (i a)))) + c.args.start) c.args.end
      (leaves_of (head (i a))) (leaves_of (x (i a))) (leaves_of n ++ leaves_of r)
  parted =
      subst (λ l. AreParted (length (joined l) + c.args.start) c.args.end
      (leaves_of (head (i a))) (leaves_of (x (i a))) (leaves_of n ++ leaves_of r)) (at_place (i a))
      (subst (λ l. AreParted (length (joined (take (length (head (i a)) - 1) (head (i a))))
      + c.args.start) c.args.end (leaves_of (head (i a))) (leaves_of l)
      (leaves_of n ++ leaves_of r)) c.as_mut.ensures.value
      (subst (λ l. AreParted (length (joined (take (length l - 1) l)) + c.args.start) c.args.end
      (leaves_of l) (leaves_of c.as_mut.result.now) (leaves_of n ++ leaves_of r)) (head_is a)
      (c.remove_in_two.ensures.parted c.if-remove_in_two.true)))

  each : All (IsChild (breaks_of (ts (i a))) 1) (n ++ nodes_over r)
  each =
      subst (λ b. All (IsChild b 1) (n ++ nodes_over r))
      (ap breaks_of (head_is a) ∙ same_breaks (i a))
      (c.remove_in_two.ensures.each c.if-remove_in_two.true)

  now_leaves : leaves_of (n ++ nodes_over r) ≡ leaves_of n ++ leaves_of r
  now_leaves = leaves_of-append n (nodes_over r) ∙ ap (λ l. leaves_of n ++ l) (leaves_over r)

  moved : AreMovable (n ++ nodes_over r)
  moved =
      with_leaves_movable (breaks_of (ts (i a))) 1 (n ++ nodes_over r) _ each now_leaves
      parted.leaves
      (omega (arith, parted_bytes _ _ _ _ _ parted, low (i a), c.requires.few))

  without : AreWithout (length (joined (take c.args.place (ts (i a)))) + c.args.start)
      (length (joined (take (length (ts (i a)) - 1) (ts (i a)))) + c.args.end)
      (leaves_of (ts (i a))) (leaves_of (n ++ nodes_over r))
  without =
      let w =
      without_of _ _ (leaves_of (head (i a))) (leaves_of (mid (i a))) (leaves_of (x (i a))) _
      parted in
      let at : length (joined (head (i a))) + (length (joined (mid (i a))) + c.args.end)
      ≡ length (joined (take (length (ts (i a)) - 1) (ts (i a)))) + c.args.end =
      omega (
        arith,
        ap (λ l. length (joined l)) (before_last (i a)),
        ap length (joined-append (head (i a)) (mid (i a))),
        length-append (joined (head (i a))) (joined (mid (i a))),
      ) in
      rw (all_leaves (i a), now_leaves) (subst (λ e. AreWithout
      (length (joined (take c.args.place (ts (i a)))) + c.args.start) e
      (leaves_of (head (i a)) ++ (leaves_of (mid (i a)) ++ leaves_of (x (i a))))
      (leaves_of n ++ leaves_of r)) at w)

pub push_over-requires-clause-level : goal.push_over-requires-clause-level
push_over-requires-clause-level c =
    (moved (goal.at.push_over-requires-clause-level c).Then-remove_in_two).level

pub push_over-requires-clause-few : goal.push_over-requires-clause-few
push_over-requires-clause-few c =
    (moved (goal.at.push_over-requires-clause-few c).Then-remove_in_two).few

pub returns-then-remove_in_two-clause-without : goal.returns-then-remove_in_two-clause-without
returns-then-remove_in_two-clause-without c = λ _.
    let t = (goal.at.returns-then-remove_in_two-clause-without c).Then-remove_in_two in
    rw c.push_over.ensures (without t)

pub returns-then-remove_in_two-clause-each : goal.returns-then-remove_in_two-clause-each
returns-then-remove_in_two-clause-each c = λ _.
    let t = (goal.at.returns-then-remove_in_two-clause-each c).Then-remove_in_two in
    rw c.push_over.ensures (each t)

-- the children as they were
module _ (c : Else-remove_in_two) where
  abbrev q : After-take_from
  q = (goal.at.Else-remove_in_two c).After-take_from

  restored : c.remove_in_two.new.self ++ c.take_from.new.self ≡ us (i q)
  restored =
      ap₂ (λ l m. l ++ m) (c.remove_in_two.ensures.kept c.if-remove_in_two.false ∙ head_is q)
      (mid_is q)
      ∙ halves (i q)

pub take_from-requires-2-clause-level : goal.take_from-requires-2-clause-level
take_from-requires-2-clause-level c =
    let e = (goal.at.take_from-requires-2-clause-level c).Else-remove_in_two in
    rw (restored e) (front (i (q e))).level

pub take_from-requires-2-clause-few : goal.take_from-requires-2-clause-few
take_from-requires-2-clause-few c =
    let e = (goal.at.take_from-requires-2-clause-few c).Else-remove_in_two in
    rw (restored e) (front (i (q e))).few

pub take_from-requires-2-clause-level_other : goal.take_from-requires-2-clause-level_other
take_from-requires-2-clause-level_other c =
    let e = (goal.at.take_from-requires-2-clause-level_other c).Else-remove_in_two in
    rw (mid_is (q e)) (movable_right (head (i (q e))) (mid (i (q e)))
    (subst AreMovable (sym (halves (i (q e)))) (front (i (q e))))).level
