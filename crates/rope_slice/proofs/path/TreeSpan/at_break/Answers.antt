use Rattle.std.proofs.Common.{◌+◌, ◌-◌, arith}
use Rattle.rope_leaf.specs.declared.search.Unit.TheVariants.{LineBreak}
use Rattle.rope_slice.specs.Path.{HoldsPlace}
use Rattle.rope_slice.proofs.BreakStarts.{break_within, span_at_break, is_at_break}
use Rattle.rope_slice.proofs.path.TreeSpan.at_break.Goals.{After-at-path}
use Rattle.rope_slice.proofs.path.TreeSpan.at_break.Goals as goal

pub at-path-requires-clause-within : goal.at-path-requires-clause-within
at-path-requires-clause-within c =
    let s = c.args.excerpt.now in
    omega (
      arith,
      c.place-place.ensures.value,
      break_within s.node.now s.start s.end c.place-place.ensures.tree s.is_excerpt
          c.args.line_idx c.requires.later c.requires.within,
    )

holds : (c : After-at-path) → let s = c.args.excerpt.now in
    HoldsPlace LineBreak s.node.now.breaks (s.start.break_count + c.args.line_idx - 1)
    c.at-path.result.0.before c.at-path.result.0.here c.at-path.result.1.before
holds c = rw c.place-place.ensures.value at c.at-path.ensures.holds

pub invariant_of-result : goal.invariant_of-result
invariant_of-result c =
    let s = c.args.excerpt.now in
    span_at_break s.node.now s.start s.end c.place-place.ensures.tree s.is_excerpt c.args.line_idx
    c.requires.later c.requires.within c.at-path.result.0 c.at-path.result.1.before
    c.at-path.ensures.leaves (holds (goal.at.invariant_of-result c).After-at-path)

pub returns : goal.returns
returns c =
    let s = c.args.excerpt.now in
    is_at_break s.node.now s.start s.end c.place-place.ensures.tree s.is_excerpt c.args.line_idx
    c.requires.later c.requires.within c.at-path.result.0 c.at-path.result.1.before
    c.at-path.ensures.leaves (holds (goal.at.returns c).After-at-path) c.at-path.result.1.leaf
    c.at-path.result.1.inside c.at-path.ensures.leaf c.at-path.ensures.inside
