use Rattle.std.proofs.Common.{◌-◌, ◌≤◌, [], length, get_or, ap, refl, arith, sym}
use Rattle.std.proofs.lemmas.List.{get_or_default}
use Rattle.rope_leaf.specs.declared.search.Unit.TheVariants.{Char}
use Rattle.rope_leaf.specs.Tree.{Tree, text, joined, height_of, breaks_of}
use Rattle.rope_leaf.specs.Totals.{HasTotals}
use Rattle.rope_tree.specs.Listed.{listed}
use Rattle.rope_leaf.specs.Insert.{GoesIn}
use Rattle.rope_leaf.proofs.NodeLaws.{small_totals}
use Rattle.rope_leaf.proofs.Descents.{Descends, descends}
use Rattle.rope_leaf.proofs.InsertDescents.{last_total, inner_some, holds_within, goes_in}
use Rattle.rope_leaf.proofs.GrownLaws.{totals_seen}
use Rattle.rope_tree.proofs.node.Children.branch_at.Goals.{After-total_before-before, After-self}
use Rattle.rope_tree.proofs.node.Children.branch_at.Goals as goal

totals : (c : After-self)
    → HasTotals (breaks_of c.args.self.now) c.self.inside.totals c.args.self.now
totals c =
    totals_seen (listed c.self.inside) c.args.self.now c.self.inside.totals c.self.inside.totals
    c.self.view_is refl c.self.invariant.totals_right

-- the step to the child
down : (c : After-total_before-before) (d : Tree)
    → Descends (breaks_of c.args.self.now) Char c.char_to_hold-held.result c.args.self.now
    c.try_place-place.result.0 (get_or c.args.self.now c.try_place-place.result.0 d)
    c.total_before-before.result
down c d =
    let ts = c.args.self.now in
    let k = c.try_place-place.result.0 in
    let h = totals (goal.at.returns-clause-place c).After-self in
    descends Char c.char_to_hold-held.result ts c.self.inside.totals k (get_or ts k d)
    c.total_before-before.result
    c.requires.children h c.try_place-place.ensures.within
    (sym (get_or_default ts k (get_or ts k d) d
    (omega (arith, c.try_place-place.ensures.within, h.as_many))))
    c.total_before-before.ensures.first c.total_before-before.ensures.later
    c.try_place-place.ensures.before c.try_place-place.ensures.past

goes : (c : After-total_before-before) (d : Tree) → (c.total_before-before.result.chars ≤ c.args.at)
    × GoesIn c.args.at (c.args.at - c.total_before-before.result.chars)
    (length (text (get_or c.args.self.now c.try_place-place.result.0 d))) c.args.to_right
goes c d =
    let w = down c d in
    goes_in c.args.at c.char_to_hold-held.result c.total_before-before.result.chars
    (length (text (get_or c.args.self.now c.try_place-place.result.0 d))) c.args.to_right w.not_past
    w.past
    c.char_to_hold-held.ensures.right c.char_to_hold-held.ensures.first
    c.char_to_hold-held.ensures.left

-- any tree, if a list is known to have one
some_tree : Tree
some_tree = record { breaks = breaks_of []; leaves = []; height = 0; width = 0 }

pub try_place-place-requires-clause-small : goal.try_place-place-requires-clause-small
try_place-place-requires-clause-small c =
    small_totals (breaks_of c.args.self.now) c.self.inside.totals c.args.self.now
    (totals (goal.at.try_place-place-requires-clause-small c).After-self) c.requires.children.fits

pub try_place-place-requires-clause-last : goal.try_place-place-requires-clause-last
try_place-place-requires-clause-last c =
    let ts = c.args.self.now in
    let some = inner_some (breaks_of ts) (height_of ts) ts c.requires.children in
    let held =
    holds_within c.args.at c.char_to_hold-held.result (length (joined ts)) c.args.to_right
    c.requires.within some c.requires.right
    c.char_to_hold-held.ensures.right c.char_to_hold-held.ensures.first
    c.char_to_hold-held.ensures.left in
    λ d. rw (last_total (breaks_of ts) c.self.inside.totals ts
    (totals (goal.at.try_place-place-requires-clause-last c).After-self)
    (omega (arith, c.requires.children.at_least_two)) d) held

pub overflow_sub-result : goal.overflow_sub-result
overflow_sub-result c = (goes c some_tree).0

pub returns-clause-place : goal.returns-clause-place
returns-clause-place c =
    let front = ap (λ x. x.chars) (down c some_tree).front_is in
    let g = (goes c some_tree).0 in
    omega arith

pub returns-clause-goes : goal.returns-clause-goes
returns-clause-goes c = λ d. (goes c d).1
