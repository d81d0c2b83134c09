use Rattle.std.proofs.Common.{◌≡◌, ◌+◌, ◌-◌, ◌<◌, ◌≤◌, List, [], ◌++◌, length, get_or, set, take, drop, refl, sym, ap, subst, ◌∙◌, arith}
use Rattle.std.proofs.lemmas.List.{get_or-take, get_or-drop, get_or-set_same, get_or-set_other, length-set, length-append, length-take-le, length-drop, take-set-le, drop-set-lt}
use Rattle.rope_text.specs.Text.{byte_len}
use Rattle.rope_text.specs.TextInfo.{info_of}
use Rattle.rope_text.specs.declared.text_info.TextInfo.{TextInfo}
use Rattle.rope_text.specs.declared.line_breaks.LineBreaks.{LineBreaks}
use Rattle.rope_leaf.specs.Leaves.{IsEnoughAfter, IsEnoughAhead}
use Rattle.rope_leaf.specs.Tree.{Tree, text, joined, leaves_of, height_of, breaks_of, AreChildren, AreFamily}
use Rattle.rope_tree.specs.Listed.{listed, IsListed}
use Rattle.rope_leaf.specs.Totals.{HasTotals, AreBelow}
use Rattle.rope_leaf.specs.Change.{no_counts, IsChange}
use Rattle.rope_leaf.specs.Removal.{AreRemoved, AreShortened}
use Rattle.rope_tree.specs.declared.node.Children.TheInside.{Inside}
use Rattle.rope_leaf.proofs.ChangeLaws.{change_to, fallen_change}
use Rattle.rope_leaf.proofs.CountLaws.{counts_fall}
use Rattle.rope_leaf.proofs.GrownLaws.{totals_seen}
use Rattle.rope_tree.proofs.ListedLaws.{seen_at, set_seen, set_listed}
use Rattle.rope_tree.proofs.FormLaws.{not_tried}
use Rattle.rope_tree.proofs.KeptLaws.{unset_parts, same_seen, same_listed, refused}
use Rattle.rope_tree.proofs.LossLaws.{lost, lost_part, lost_fits, lost_totals, lost_twice, enough_after, enough_before, both_set}
use Rattle.rope_leaf.proofs.NodeLaws.{small_totals, children_of_first, more_at, joined_more, joined_parts}
use Rattle.rope_leaf.proofs.BesideLaws.{some_next}
use Rattle.rope_leaf.proofs.RemovalLaws.{Holds, byte_len-removed}
use Rattle.rope_leaf.proofs.TreeLaws.{breaks_of_is, height_of_is}
use Rattle.rope_tree.proofs.node.Children.remove_across.Goals.{After-index-back-0, In-Some, After-new-2, After-retotal-2}
use Rattle.rope_tree.proofs.node.Children.remove_across.Goals as goal

-- the two leaves
abbrev left : After-index-back-0 → Tree
left c = get_or c.split_at_mut-front.result.0.now c.args.place c.index-front-place.result

abbrev right : After-index-back-0 → Tree
right c = get_or c.split_at_mut-front.result.1.now 0 c.index-back-0.result

totals : (c : After-index-back-0)
    → HasTotals (breaks_of c.args.self.now) c.self.inside.totals c.args.self.now
totals c =
    totals_seen (listed c.self.inside) c.args.self.now c.self.inside.totals c.self.inside.totals
    c.self.view_is refl c.self.invariant.totals_right

within : (c : After-index-back-0) → c.args.place + 1 < length c.args.self.now
within c = omega (arith, c.if-next-len.false, c.len.ensures, (totals c).as_many)

left_is : (c : After-index-back-0)
    → left c ≡ get_or c.self.inside.nodes c.args.place c.index-front-place.result
left_is c =
    ap (λ xs. get_or xs c.args.place c.index-front-place.result) c.split_at_mut-front.ensures.front
    ∙ get_or-take (c.args.place + 1) c.self.inside.nodes c.args.place c.index-front-place.result
    (omega arith)

right_is : (c : After-index-back-0)
    → right c ≡ get_or c.self.inside.nodes (c.args.place + 1) c.index-back-0.result
right_is c =
    ap (λ xs. get_or xs 0 c.index-back-0.result) c.split_at_mut-front.ensures.back
    ∙ get_or-drop (c.args.place + 1) c.self.inside.nodes 0 c.index-back-0.result
    ∙ ap (λ n. get_or c.self.inside.nodes n c.index-back-0.result) (omega arith)

left_here : (c : After-index-back-0) → get_or c.args.self.now c.args.place (left c) ≡ left c
left_here c =
    ap (get_or c.args.self.now c.args.place) (left_is c)
    ∙ sym (seen_at c.self.inside c.args.self.now c.args.place c.index-front-place.result
    c.self.view_is c.requires.child)
    ∙ sym (left_is c)

right_here : (c : After-index-back-0)
    → get_or c.args.self.now (c.args.place + 1) (right c) ≡ right c
right_here c =
    ap (get_or c.args.self.now (c.args.place + 1)) (right_is c)
    ∙ sym (seen_at c.self.inside c.args.self.now (c.args.place + 1) c.index-back-0.result
    c.self.view_is (within c))
    ∙ sym (right_is c)

-- the end of the left leaf, and of the right one
left_end : (c : After-index-back-0)
    → c.get-past.result.chars ≡ length (joined (take c.args.place c.args.self.now)) + length
    (text (left c))
left_end c =
    let ts = c.args.self.now in
    ap (λ x. x.chars) (c.get-past.ensures no_counts
    ∙ (totals c).total_at c.args.place no_counts c.requires.child
    ∙ more_at (breaks_of ts) (height_of ts) ts c.args.place (left c) c.requires.children
    c.requires.child (left_here c))

right_end : (c : After-index-back-0)
    → c.get.result.chars ≡ length (joined (take (c.args.place + 1) c.args.self.now)) + length
    (text (right c))
right_end c =
    let ts = c.args.self.now in
    ap (λ x. x.chars) (c.get.ensures no_counts
    ∙ (totals c).total_at (c.args.place + 1) no_counts (within c)
    ∙ more_at (breaks_of ts) (height_of ts) ts (c.args.place + 1) (right c) c.requires.children
    (within c) (right_here c))

right_start : (c : After-index-back-0)
    → length (joined (take (c.args.place + 1) c.args.self.now)) ≡ c.get-past.result.chars
right_start c =
    let ts = c.args.self.now in
    sym (ap (λ x. x.chars) (c.get-past.ensures no_counts
    ∙ (totals c).total_at c.args.place no_counts c.requires.child))

inside : (c : After-index-back-0) → c.args.inside < length (text (left c))
inside c = subst (λ t. c.args.inside < length (text t)) (left_here c) (c.requires.inside (left c))

pub shorten_nodes-requires-clause-start : goal.shorten_nodes-requires-clause-start
shorten_nodes-requires-clause-start c =
    inside (goal.at.shorten_nodes-requires-clause-start c).After-index-back-0

pub shorten_nodes-requires-clause-end : goal.shorten_nodes-requires-clause-end
shorten_nodes-requires-clause-end c =
    let e = (goal.at.shorten_nodes-requires-clause-end c).After-index-back-0 in
    omega (arith, right_end e, right_start e, c.if-end-get.false)

-- the leaves after the removal
abbrev now_left : In-Some → Tree
now_left c = c.shorten_nodes.new.left

abbrev now_right : In-Some → Tree
now_right c = c.shorten_nodes.new.right

abbrev old : In-Some → After-index-back-0
old c = (goal.at.In-Some c).After-index-back-0

abbrev first : In-Some → Tree
first c = left (old c)

abbrev second : In-Some → Tree
second c = right (old c)

-- the children after the first step, and after both
abbrev mid : In-Some → List Tree
mid c = set c.args.self.now c.args.place (now_left c)

abbrev last : In-Some → List Tree
last c = set (mid c) (c.args.place + 1) (now_right c)

shortened : (c : In-Some)
    → AreShortened c.least_at.result.first c.least_at-2.result.last c.args.inside
    (c.args.end - c.get-past.result.chars) (first c) (now_left c) (second c) (now_right c)
shortened c = rw c.in-Some.is at c.in_ok-losses.ensures.done

low : (c : In-Some) → height_of c.args.self.now ≡ 0
low c = omega (arith, c.self.invariant.above, ap height_of c.self.view_is, c.if-self-gt1.false)

leaves : (c : In-Some) → AreChildren (breaks_of c.args.self.now) 0 c.args.self.now
leaves c = subst (λ h. AreChildren (breaks_of c.args.self.now) h c.args.self.now) (low c)
    c.requires.children

below : (c : In-Some) → AreBelow 1 c.self.inside.totals c.args.self.now
below c = record {
  above = omega (arith, low c);
  children = c.requires.children;
  totals_right =
      totals (old c);
}

-- the first step
first_held : (c : In-Some)
    → Holds c.args.self.now c.args.place (first c) c.args.inside (length (text (first c)))
    c.args.start c.get-past.result.chars
first_held c = record {
  first = c.requires.place;
  last = left_end (old c);
  order = inside (old c);
  within = omega arith;
}

first_before : (c : In-Some)
    → IsEnoughAfter c.args.least.first c.least_at.result.first
    (leaves_of (take c.args.place c.args.self.now))
first_before c = c.least_at.ensures.first c.args.self.now (below c)

first_after : (c : In-Some)
    → IsEnoughAhead c.args.least.last (492 - byte_len (text (now_right c)))
    (leaves_of (drop (c.args.place + 1) c.args.self.now))
first_after c =
    let ts = c.args.self.now in
    let n = byte_len (text (now_right c)) in
    let t = text (second c) in
    let fewer : n ≤ byte_len t =
    omega (
      arith,
      ap byte_len (shortened c).start.text_is,
      byte_len-removed t 0 (c.args.end - c.get-past.result.chars) (omega arith),
    ) in
    record {
      dense = enough_before (breaks_of ts) ts (c.args.place + 1) (second c) (leaves c)
          (within (old c)) (right_here (old c)) (492 - n) n fewer refl;
      at_end = λ none. absurd (omega (
        arith,
        none,
        some_next (breaks_of ts) 0 ts (c.args.place + 1) (leaves c)
            (within (old c)),
      ));
    }

first_lost : (c : In-Some)
    → AreRemoved c.args.least.first c.args.least.last c.args.self.now (mid c) c.args.start
    c.get-past.result.chars
first_lost c =
    lost c.args.self.now c.args.place (first c) (now_left c) c.args.inside (length (text (first c)))
    c.args.start c.get-past.result.chars
    c.requires.children c.requires.child (left_here (old c)) (first_held c) c.args.least.first
    c.args.least.last
    c.least_at.result.first (492 - byte_len (text (now_right c))) (shortened c).end (first_before c)
    (first_after c)

-- the second step
mid_sets : (c : In-Some) → breaks_of (mid c) ≡ breaks_of c.args.self.now
mid_sets c =
    let r = first_lost c in
    breaks_of_is (breaks_of c.args.self.now) (height_of c.args.self.now) (mid c)
    (omega (arith, r.children.at_least_two)) r.children.each

mid_heights : (c : In-Some) → height_of (mid c) ≡ height_of c.args.self.now
mid_heights c =
    let r = first_lost c in
    height_of_is (breaks_of c.args.self.now) (height_of c.args.self.now) (mid c)
    (omega (arith, r.children.at_least_two)) r.children.each

mid_children : (c : In-Some) → AreFamily (mid c)
mid_children c = children_of_first (breaks_of c.args.self.now) (height_of c.args.self.now) (mid c)
    (first_lost c).children

mid_within : (c : In-Some) → c.args.place + 1 < length (mid c)
mid_within c = omega (arith, length-set c.args.self.now c.args.place (now_left c), within (old c))

mid_left : (c : In-Some) → get_or (mid c) c.args.place (now_left c) ≡ now_left c
mid_left c = get_or-set_same c.args.self.now c.args.place (now_left c) (now_left c) c.requires.child

mid_right : (c : In-Some) → get_or (mid c) (c.args.place + 1) (second c) ≡ second c
mid_right c =
    get_or-set_other c.args.self.now c.args.place (c.args.place + 1) (now_left c) (second c)
    (λ e. absurd (omega (arith, e)))
    ∙ right_here (old c)

mid_start : (c : In-Some) → c.args.start ≡ length (joined (take (c.args.place + 1) (mid c)))
mid_start c =
    let ts = c.args.self.now in
    let k = c.args.place in
    let t = text (first c) in
    let front : take k (mid c) ≡ take k ts = take-set-le k ts k (now_left c) (omega arith) in
    let own : text (now_left c) ≡ take c.args.inside t ++ drop (length t) t =
    (shortened c).end.text_is in
    omega (
      arith,
      ap length (joined_more (mid c) k (now_left c) (omega (arith, mid_within c))),
      length-append (joined (take k (mid c))) (text (get_or (mid c) k (now_left c))),
      ap (λ xs. length (joined xs)) front,
      ap (λ x. length (text x)) (mid_left c),
      ap length own,
      length-append (take c.args.inside t) (drop (length t) t),
      length-take-le c.args.inside t (omega (arith, inside (old c))),
      length-drop (length t) t,
      c.requires.place,
    )

second_held : (c : In-Some)
    → Holds (mid c) (c.args.place + 1) (second c) 0 (c.args.end - c.get-past.result.chars)
    c.args.start (c.args.start + (c.args.end - c.get-past.result.chars))
second_held c = record {
  first = omega (arith, mid_start c);
  last = omega (arith, mid_start c);
  order = omega (arith, c.if-end-past.false);
  within = omega (arith, right_end (old c), right_start (old c), c.if-end-get.false);
}

second_before : (c : In-Some)
    → IsEnoughAfter c.args.least.first (492 - byte_len (text (now_left c)))
    (leaves_of (take (c.args.place + 1) (mid c)))
second_before c = λ n some.
    enough_after (breaks_of (mid c)) (mid c) c.args.place (now_left c)
    (subst (λ h. AreChildren (breaks_of (mid c)) h (mid c)) (mid_heights c ∙ low c)
    (mid_children c))
    (omega (arith, mid_within c)) (mid_left c) (492 - byte_len (text (now_left c)))
    (byte_len (text (now_left c))) (omega arith) refl n

second_after : (c : In-Some)
    → IsEnoughAhead c.args.least.last c.least_at-2.result.last
    (leaves_of (drop (c.args.place + 1 + 1) (mid c)))
second_after c =
    let same : drop (c.args.place + 1 + 1) (mid c) ≡ drop (c.args.place + 1 + 1) c.args.self.now =
    drop-set-lt (c.args.place + 1 + 1) c.args.self.now c.args.place (now_left c) (omega arith) in
    subst (λ xs. IsEnoughAhead c.args.least.last c.least_at-2.result.last (leaves_of xs))
    (sym same)
    (c.least_at-2.ensures.last c.args.self.now (below c))

second_lost : (c : In-Some)
    → AreRemoved c.args.least.first c.args.least.last (mid c) (last c) c.args.start
    (c.args.start + (c.args.end - c.get-past.result.chars))
second_lost c =
    lost (mid c) (c.args.place + 1) (second c) (now_right c) 0
    (c.args.end - c.get-past.result.chars) c.args.start
    (c.args.start + (c.args.end - c.get-past.result.chars)) (mid_children c) (mid_within c)
    (mid_right c) (second_held c)
    c.args.least.first c.args.least.last (492 - byte_len (text (now_left c)))
    c.least_at-2.result.last
    (shortened c).start (second_before c) (second_after c)

both_lost : (c : In-Some)
    → AreRemoved c.args.least.first c.args.least.last c.args.self.now (last c) c.args.start
    c.args.end
both_lost c =
    let ts = c.args.self.now in
    let from = inside (old c) in
    let past = right_start (old c) in
    lost_twice c.args.least.first c.args.least.last ts (mid c) (last c) c.args.start
    c.get-past.result.chars c.args.end
    (omega (arith, c.requires.place, left_end (old c), from)) (omega (arith, c.if-end-past.false))
    (omega (
      arith,
      past,
      ap length (joined_parts ts (c.args.place + 1)),
      length-append (joined (take (c.args.place + 1) ts)) (joined (drop (c.args.place + 1) ts)),
    ))
    (mid_sets c) (mid_heights c) (first_lost c) (second_lost c)

first_change : (c : In-Some) (none : TextInfo) → ((breaks : LineBreaks) → none ≡ info_of breaks [])
    → IsChange c.in-Some.losses.left none (info_of (first c).breaks (text (first c)))
    (info_of (first c).breaks (text (now_left c)))
first_change c none is = change_to none c.in-Some.losses.left _ _ is
    (rw c.in-Some.is at c.in_ok-losses.ensures.left)

second_change : (c : In-Some) (none : TextInfo) → ((breaks : LineBreaks) → none ≡ info_of breaks [])
    → IsChange c.in-Some.losses.right none (info_of (second c).breaks (text (second c)))
    (info_of (second c).breaks (text (now_right c)))
second_change c none is =
    change_to none c.in-Some.losses.right _ _ is (rw c.in-Some.is at c.in_ok-losses.ensures.right)

pub retotal-requires-clause-small : goal.retotal-requires-clause-small
retotal-requires-clause-small c =
    small_totals (breaks_of c.args.self.now) c.self.inside.totals c.args.self.now
    (totals (goal.at.retotal-requires-clause-small c).After-index-back-0) c.requires.children.fits

pub retotal-requires-clause-part : goal.retotal-requires-clause-part
retotal-requires-clause-part c =
    let e = (goal.at.retotal-requires-clause-part c).In-Some in
    lost_part c.args.self.now c.args.place (first e) (now_left e) c.args.inside
    (length (text (first e))) c.args.start c.get-past.result.chars
    c.requires.children c.requires.child (left_here (old e)) (first_held e) c.args.least.first
    c.args.least.last
    c.least_at.result.first (492 - byte_len (text (now_right e))) (shortened e).end (first_before e)
    (first_after e)
    c.in-Some.losses.left c.new.result (first_change e c.new.result c.new.ensures)
    c.self.inside.totals (totals (old e))

pub retotal-requires-clause-new : goal.retotal-requires-clause-new
retotal-requires-clause-new c =
    (first_change (goal.at.retotal-requires-clause-new c).In-Some c.new.result c.new.ensures).low

pub retotal-requires-clause-fits : goal.retotal-requires-clause-fits
retotal-requires-clause-fits c =
    let e = (goal.at.retotal-requires-clause-fits c).In-Some in
    lost_fits c.args.self.now c.args.place (first e) (now_left e) c.args.inside
    (length (text (first e))) c.args.start c.get-past.result.chars
    c.requires.children c.requires.child (left_here (old e)) (first_held e) c.args.least.first
    c.args.least.last
    c.least_at.result.first (492 - byte_len (text (now_right e))) (shortened e).end (first_before e)
    (first_after e)
    c.in-Some.losses.left c.new.result (first_change e c.new.result c.new.ensures)
    c.self.inside.totals (totals (old e))

-- the totals after the first step
mid_totals : (c : After-new-2)
    → HasTotals (breaks_of (mid (goal.at.After-new-2 c).In-Some)) c.retotal.new.self
    (mid (goal.at.After-new-2 c).In-Some)
mid_totals c =
    let e = (goal.at.After-new-2 c).In-Some in
    lost_totals c.args.self.now c.args.place (first e) (now_left e) c.args.inside
    (length (text (first e))) c.args.start c.get-past.result.chars
    c.requires.children c.requires.child (left_here (old e)) (first_held e) c.args.least.first
    c.args.least.last
    c.least_at.result.first (492 - byte_len (text (now_right e))) (shortened e).end (first_before e)
    (first_after e)
    c.in-Some.losses.left c.new.result (first_change e c.new.result c.new.ensures)
    c.self.inside.totals (totals (old e))
    c.retotal.new.self c.retotal.ensures.len c.retotal.ensures.before c.retotal.ensures.after

pub retotal-requires-2-clause-small : goal.retotal-requires-2-clause-small
retotal-requires-2-clause-small c =
    let p = (goal.at.retotal-requires-2-clause-small c).After-new-2 in
    let e = (goal.at.After-new-2 p).In-Some in
    small_totals (breaks_of (mid e)) c.retotal.new.self (mid e) (mid_totals p)
    (first_lost e).children.fits

pub retotal-requires-2-clause-part : goal.retotal-requires-2-clause-part
retotal-requires-2-clause-part c =
    let p = (goal.at.retotal-requires-2-clause-part c).After-new-2 in
    let e = (goal.at.After-new-2 p).In-Some in
    lost_part (mid e) (c.args.place + 1) (second e) (now_right e) 0
    (c.args.end - c.get-past.result.chars) c.args.start
    (c.args.start + (c.args.end - c.get-past.result.chars)) (mid_children e) (mid_within e)
    (mid_right e) (second_held e)
    c.args.least.first c.args.least.last (492 - byte_len (text (now_left e)))
    c.least_at-2.result.last
    (shortened e).start (second_before e) (second_after e)
    c.in-Some.losses.right c.new-2.result (second_change e c.new-2.result c.new-2.ensures)
    c.retotal.new.self (mid_totals p)

pub retotal-requires-2-clause-new : goal.retotal-requires-2-clause-new
retotal-requires-2-clause-new c =
    (second_change (goal.at.After-new-2
    (goal.at.retotal-requires-2-clause-new c).After-new-2).In-Some c.new-2.result
    c.new-2.ensures).low

pub retotal-requires-2-clause-fits : goal.retotal-requires-2-clause-fits
retotal-requires-2-clause-fits c =
    let p = (goal.at.retotal-requires-2-clause-fits c).After-new-2 in
    let e = (goal.at.After-new-2 p).In-Some in
    lost_fits (mid e) (c.args.place + 1) (second e) (now_right e) 0
    (c.args.end - c.get-past.result.chars) c.args.start
    (c.args.start + (c.args.end - c.get-past.result.chars)) (mid_children e) (mid_within e)
    (mid_right e) (second_held e)
    c.args.least.first c.args.least.last (492 - byte_len (text (now_left e)))
    c.least_at-2.result.last
    (shortened e).start (second_before e) (second_after e)
    c.in-Some.losses.right c.new-2.result (second_change e c.new-2.result c.new-2.ensures)
    c.retotal.new.self (mid_totals p)

-- the fields after the first step, and after both
abbrev mid_inside : (c : After-retotal-2) → Inside
mid_inside c = record {
  height = c.self.inside.height;
  breaks = c.self.inside.breaks;
  last = c.self.inside.last;
  totals = c.retotal.new.self;
  nodes = set c.self.inside.nodes c.args.place c.shorten_nodes.new.left;
}

abbrev last_inside : (c : After-retotal-2) → Inside
last_inside c = record {
  height = c.self.inside.height;
  breaks = c.self.inside.breaks;
  last = c.self.inside.last;
  totals = c.retotal-2.new.self;
  nodes = set c.split_at_mut-front.result.0.now c.args.place c.shorten_nodes.new.left ++ set
      c.split_at_mut-front.result.1.now 0 c.shorten_nodes.new.right;
}

nodes_are : (c : After-retotal-2)
    → (last_inside c).nodes ≡ set (mid_inside c).nodes (c.args.place + 1) c.shorten_nodes.new.right
nodes_are c =
    let e = (goal.at.After-new-2 (goal.at.After-retotal-2 c).After-new-2).In-Some in
    let many : c.args.place + 1 < length c.self.inside.nodes =
    omega (
      arith,
      within (old e),
      ap length c.self.view_is,
      length-take-le (length c.self.inside.totals) c.self.inside.nodes
          (omega (
            arith,
            c.self.invariant.room,
            (totals (old e)).as_many,
            c.requires.children.at_most_24,
          )),
      (totals (old e)).as_many,
      c.self.invariant.room,
      c.requires.children.at_most_24,
    ) in
    (rw (c.split_at_mut-front.ensures.front, c.split_at_mut-front.ensures.back) refl)
    ∙ both_set c.self.inside.nodes c.args.place (c.args.place + 1) c.shorten_nodes.new.left
    c.shorten_nodes.new.right (omega arith) many

module _ (c : After-retotal-2) where
  abbrev p : After-new-2
  p = (goal.at.After-retotal-2 c).After-new-2

  abbrev e : In-Some
  e = (goal.at.After-new-2 p).In-Some

  mid_view : listed (mid_inside c) ≡ mid e
  mid_view =
      set_seen c.self.inside (mid_inside c) c.args.self.now c.args.place (now_left e)
      c.self.invariant c.self.view_is
      c.requires.child (first_lost e).children refl refl refl (mid_totals p)

  mid_listed : IsListed (mid_inside c)
  mid_listed =
      set_listed c.self.inside (mid_inside c) c.args.self.now c.args.place (now_left e)
      c.self.invariant c.self.view_is
      c.requires.child (first_lost e).children refl refl refl (mid_totals p)

  last_totals : HasTotals (breaks_of (last e)) c.retotal-2.new.self (last e)
  last_totals =
      lost_totals (mid e) (c.args.place + 1) (second e) (now_right e) 0
      (c.args.end - c.get-past.result.chars) c.args.start
      (c.args.start + (c.args.end - c.get-past.result.chars)) (mid_children e) (mid_within e)
      (mid_right e) (second_held e)
      c.args.least.first c.args.least.last (492 - byte_len (text (now_left e)))
      c.least_at-2.result.last
      (shortened e).start (second_before e) (second_after e)
      c.in-Some.losses.right c.new-2.result (second_change e c.new-2.result c.new-2.ensures)
      c.retotal.new.self (mid_totals p)
      c.retotal-2.new.self c.retotal-2.ensures.len c.retotal-2.ensures.before
      c.retotal-2.ensures.after

  last_view : listed (last_inside c) ≡ last e
  last_view =
      set_seen (mid_inside c) (last_inside c) (mid e) (c.args.place + 1) (now_right e) mid_listed
      mid_view
      (mid_within e) (second_lost e).children refl refl (nodes_are c) last_totals

  last_listed : IsListed (last_inside c)
  last_listed =
      set_listed (mid_inside c) (last_inside c) (mid e) (c.args.place + 1) (now_right e) mid_listed
      mid_view
      (mid_within e) (second_lost e).children refl refl (nodes_are c) last_totals

pub invariant_of-self-2 : goal.invariant_of-self-2
invariant_of-self-2 c = last_listed (goal.at.invariant_of-self-2 c).After-retotal-2

pub returns-clause-tried : goal.returns-clause-tried
returns-clause-tried c = record {
  done = λ yes.
      let r = (goal.at.returns-clause-tried c).After-retotal-2 in
      rw (last_view r) (both_lost (e r));
  kept = λ no. cc;
  err = tt;
}

pub minus-requires : goal.minus-requires
minus-requires c =
    let r = (goal.at.minus-requires c).After-retotal-2 in
    let b = both_lost (e r) in
    let ts = c.args.self.now in
    let sets = breaks_of_is (breaks_of ts) (height_of ts) (last (e r))
    (omega (arith, b.children.at_least_two)) b.children.each in
    let now = c.total.ensures ∙ ap (λ xs. info_of (breaks_of xs) (joined xs)) (last_view r) in
    rw (c.total-before.ensures, now, sets, b.text_is)
    (counts_fall (breaks_of ts) (joined ts) c.args.start c.args.end
    (omega (arith, c.requires.place, left_end (old (e r)), inside (old (e r)), c.if-end-past.false))
    (omega (
      arith,
      right_end (old (e r)),
      c.if-end-get.false,
      ap length (joined_parts ts (c.args.place + 1 + 1)),
      length-append (joined (take (c.args.place + 1 + 1) ts))
          (joined (drop (c.args.place + 1 + 1) ts)),
      ap length (joined_more ts (c.args.place + 1) (second (e r)) (within (old (e r)))),
      length-append (joined (take (c.args.place + 1) ts))
          (text (get_or ts (c.args.place + 1) (second (e r)))),
      ap (λ t. length (text t)) (right_here (old (e r))),
    )))

-- the nodes are unchanged where both leaves are
still : (c : After-index-back-0) (u v : Tree) → u ≡ left c → v ≡ right c
    → set c.split_at_mut-front.result.0.now c.args.place u
    ++ set c.split_at_mut-front.result.1.now 0 v ≡ c.self.inside.nodes
still c u v first second =
    unset_parts c.self.inside.nodes c.split_at_mut-front.result.0.now
    c.split_at_mut-front.result.1.now (c.args.place + 1) c.args.place u v
    c.index-front-place.result c.index-back-0.result c.split_at_mut-front.ensures.front
    c.split_at_mut-front.ensures.back first second

pub invariant_of-self : goal.invariant_of-self
invariant_of-self c =
    same_listed c.self.inside _ c.self.invariant
    (still (goal.at.invariant_of-self c).After-index-back-0 c.shorten_nodes.new.left
    c.shorten_nodes.new.right c.in_err-losses.ensures.err.0 c.in_err-losses.ensures.err.1)
    refl refl refl

pub returns-in_err-losses-clause-tried : goal.returns-in_err-losses-clause-tried
returns-in_err-losses-clause-tried c =
    refused c.from_residual.result c.args.self.now _ c.from_residual.ensures.0
    (same_seen c.self.inside c.args.self.now _
    (still (goal.at.returns-in_err-losses-clause-tried c).After-index-back-0
    c.shorten_nodes.new.left c.shorten_nodes.new.right c.in_err-losses.ensures.err.0
    c.in_err-losses.ensures.err.1) c.self.view_is)

pub invariant_of-self-in_default : goal.invariant_of-self-in_default
invariant_of-self-in_default c =
    let same = rw c.in_default.is at c.in_ok-losses.ensures.kept in
    same_listed c.self.inside _ c.self.invariant
    (still (goal.at.invariant_of-self-in_default c).After-index-back-0 c.shorten_nodes.new.left
    c.shorten_nodes.new.right same.0 same.1) refl refl refl

pub returns-in_default-clause-tried : goal.returns-in_default-clause-tried
returns-in_default-clause-tried c =
    let same = rw c.in_default.is at c.in_ok-losses.ensures.kept in
    not_tried c.args.self.now _ (same_seen c.self.inside c.args.self.now _
    (still (goal.at.returns-in_default-clause-tried c).After-index-back-0
    c.shorten_nodes.new.left c.shorten_nodes.new.right same.0 same.1) c.self.view_is)

pub total-requires : goal.total-requires
total-requires c =
    let r = (goal.at.total-requires c).After-retotal-2 in
    rw (last_view r) (omega (arith, (both_lost (e r)).children.at_least_two))

pub returns-clause-change : goal.returns-clause-change
returns-clause-change c = λ yes.
    let r = (goal.at.returns-clause-change c).After-retotal-2 in
    let b = both_lost (e r) in
    let ts = c.args.self.now in
    let sets = breaks_of_is (breaks_of ts) (height_of ts) (last (e r))
    (omega (arith, b.children.at_least_two)) b.children.each in
    let now = c.total.ensures ∙ ap (λ xs. info_of (breaks_of xs) (joined xs)) (last_view r)
    ∙ ap (λ s. info_of s (joined (last (e r)))) sets in
    rw (last_view r, ← c.total-before.ensures, ← now)
    (fallen_change c.total-before.result c.total.result c.minus.result c.minus.ensures.sum)
