use Rattle.std.proofs.Common.{◌≡◌, min, ◌+◌, ◌-◌, arith}
use Rattle.rope_leaf.specs.Search.{count_of}
use Rattle.rope_slice.proofs.Places.{small_end}
use Rattle.rope_slice.proofs.LeafStarts.{some_in, place_in, span_here, holds_here}
use Rattle.rope_slice.proofs.path.TreeSpan.holding.Goals.{After-min-place}
use Rattle.rope_slice.proofs.path.TreeSpan.holding.Goals as goal

pub count-requires : goal.count-requires
count-requires c = small_end _ _ _ _ c.args.excerpt.now.is_excerpt c.place.ensures.tree.fits

pub overflow_sub-count : goal.overflow_sub-count
overflow_sub-count c =
    let s = c.args.excerpt.now in
    let some =
    some_in s.node.now s.start s.end s.is_excerpt c.args.idx 0 c.args.unit c.requires.unit in
    omega (arith, some, c.count.ensures)

-- the index in the tree
place_is : (c : After-min-place) → let s = c.args.excerpt.now in
    c.min-place.result ≡ min (count_of c.args.unit s.start + c.args.idx)
    (count_of c.args.unit s.end - 1)
place_is c = rw (c.place.ensures.value, c.count.ensures) at c.min-place.ensures

pub at-path-requires-clause-within : goal.at-path-requires-clause-within
at-path-requires-clause-within c =
    let s = c.args.excerpt.now in
    place_in s.node.now s.start s.end s.is_excerpt c.args.idx c.min-place.result c.args.unit
    c.requires.unit (place_is (goal.at.at-path-requires-clause-within c).After-min-place)

pub invariant_of-span : goal.invariant_of-span
invariant_of-span c =
    let s = c.args.excerpt.now in
    span_here s.node.now s.start s.end c.place.ensures.tree s.is_excerpt c.args.idx
    c.min-place.result c.args.unit c.requires.unit
    (place_is (goal.at.invariant_of-span c).After-min-place)
    c.at-path.result.0 c.at-path.result.1.before c.at-path.ensures.leaves c.at-path.ensures.holds

pub returns : goal.returns
returns c =
    let s = c.args.excerpt.now in
    rw (c.since.ensures.bytes, c.since.ensures.chars, c.since.ensures.break_count)
    (holds_here s.node.now s.start s.end c.place.ensures.tree s.is_excerpt c.args.idx
    c.min-place.result c.args.unit c.requires.unit (place_is (goal.at.returns c).After-min-place)
    c.at-path.result.0 c.at-path.result.1.before c.at-path.ensures.leaves c.at-path.ensures.holds
    c.requires.within)
