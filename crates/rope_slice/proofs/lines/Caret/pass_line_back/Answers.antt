use Rattle.std.proofs.Common.{◌<◌, refl, sym, ◌∙◌, ap}
use Rattle.std.specs.Str.{chars}
use Rattle.rope_text.specs.TextInfo.{info_sum}
use Rattle.rope_leaf.proofs.Infos.{sum_of_small}
use Rattle.rope_slice.specs.Caret.{halves_at, PassesBack}
use Rattle.rope_slice.proofs.Carets.{start_of_chunk}
use Rattle.rope_slice.proofs.CaretsBack.{caret_apart, caret_found, caret_left, caret_small, other_small, caret_composed}
use Rattle.rope_slice.proofs.lines.Caret.pass_line_back.Goals.{After-of_last_line-start, After-plus}
use Rattle.rope_slice.proofs.lines.Caret.pass_line_back.Goals as goal

-- the line starts in the chunk
found : (c : After-of_last_line-start) → 0 < c.of_last_line-start.result.0
    → PassesBack c.args.breaks c.args.skip (halves_at c.self.inside.span c.self.inside.inside).front
    (halves_at c.self.inside.span c.self.inside.inside).back c.self.inside.span
    c.of_last_line-start.result.0 c.of_last_line-start.result.1
found c = caret_found c.args.breaks c.args.skip c.self.inside.span c.self.inside.inside
    c.of_last_line-start.result.0 c.of_last_line-start.result.1 c.self.invariant
    (chars c.chunk-chunk.result.now) c.chunk-chunk.ensures c.of_last_line-start.ensures.start
    c.of_last_line-start.ensures.counts

-- it starts in the chunk before
passed : (c : After-plus)
    → PassesBack c.args.breaks c.args.skip (halves_at c.self.inside.span c.self.inside.inside).front
    (halves_at c.self.inside.span c.self.inside.inside).back c.pass_chunk_back.new.span
    c.in-Some.inside c.plus.result
passed c =
    caret_composed c.args.breaks c.args.skip c.self.inside.span c.self.inside.inside
    c.of_last_line-start.result.0 c.of_last_line-start.result.1 c.self.invariant
    (chars c.chunk-chunk.result.now) c.chunk-chunk.ensures c.of_last_line-start.ensures.start
    c.of_last_line-start.ensures.counts
    c.pass_chunk_back.new.span c.in-Some.inside c.pass_chunk_back.new.more c.if-start-gt0.false
    (rw c.in-Some.is at c.pass_chunk_back.ensures.passes) c.plus.result c.plus.ensures.sum

pub of_last_line-start-requires-clause-between : goal.of_last_line-start-requires-clause-between
of_last_line-start-requires-clause-between c = rw c.chunk-chunk.ensures c.self.invariant.between

pub of_last_line-start-requires-clause-apart : goal.of_last_line-start-requires-clause-apart
of_last_line-start-requires-clause-apart c = rw c.chunk-chunk.ensures
    (caret_apart c.self.inside.span c.self.inside.inside
    (rw (← c.self.view_is) at c.requires.apart))

pub invariant_of-self : goal.invariant_of-self
invariant_of-self c = (found (goal.at.invariant_of-self c).After-of_last_line-start
    c.if-start-gt0.true).caret

pub minus-requires : goal.minus-requires
minus-requires c =
    rw (found (goal.at.minus-requires c).After-of_last_line-start c.if-start-gt0.true).counts
    (rw (← c.self.view_is) at c.requires.part)

pub returns-then-start-gt0 : goal.returns-then-start-gt0
returns-then-start-gt0 c =
    let it = found (goal.at.returns-then-start-gt0 c).After-of_last_line-start c.if-start-gt0.true
    in
    rw (← c.self.view_is) record {
      front = it.front_is;
      back = it.back_is;
      chunks = refl;
      counts = ap (λ x. info_sum x c.minus.result) (sym it.counts) ∙ c.minus.ensures.sum;
    }

pub overflow_sub-left : goal.overflow_sub-left
overflow_sub-left c =
    caret_left c.args.breaks c.args.skip c.self.inside.span c.self.inside.inside
    c.of_last_line-start.result.0 c.of_last_line-start.result.1 c.self.invariant
    (chars c.chunk-chunk.result.now) c.chunk-chunk.ensures c.of_last_line-start.ensures.start
    c.of_last_line-start.ensures.counts c.if-start-gt0.false

pub invariant_of-self-in_default : goal.invariant_of-self-in_default
invariant_of-self-in_default c = start_of_chunk c.pass_chunk_back.new.span
    c.pass_chunk_back.ensures.chunks

pub plus-requires : goal.plus-requires
plus-requires c =
    let one = caret_small c.args.breaks c.args.skip c.self.inside.span c.self.inside.inside
    c.of_last_line-start.result.0 c.of_last_line-start.result.1 c.self.invariant
    (chars c.chunk-chunk.result.now) c.chunk-chunk.ensures c.of_last_line-start.ensures.start
    c.of_last_line-start.ensures.counts in
    let two = other_small c.args.breaks c.args.skip c.self.inside.span c.self.inside.inside
    c.of_last_line-start.result.0 c.of_last_line-start.result.1 c.self.invariant
    (chars c.chunk-chunk.result.now) c.chunk-chunk.ensures c.of_last_line-start.ensures.start
    c.of_last_line-start.ensures.counts
    c.pass_chunk_back.new.span c.in-Some.inside c.pass_chunk_back.new.more c.if-start-gt0.false
    (rw c.in-Some.is at c.pass_chunk_back.ensures.passes) in
    sum_of_small _ _ two one

pub minus-requires-2 : goal.minus-requires-2
minus-requires-2 c = rw (passed (goal.at.minus-requires-2 c).After-plus).counts
    (rw (← c.self.view_is) at c.requires.part)

pub returns : goal.returns
returns c =
    let it = passed (goal.at.returns c).After-plus in
    rw (← c.self.view_is) record {
      front = it.front_is;
      back = it.back_is;
      chunks = c.pass_chunk_back.ensures.same;
      counts = ap (λ x. info_sum x c.minus-2.result) (sym it.counts) ∙ c.minus-2.ensures.sum;
    }
