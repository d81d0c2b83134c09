use Rattle.std.proofs.Common.{refl, ap, ◌∙◌, ◌++◌}
use Rattle.std.specs.List.{concat}
use Rattle.std.proofs.lemmas.Str.{IsCharBoundary-start}
use Rattle.rope_slice.specs.Chars.{at_char}
use Rattle.rope_slice.proofs.CharCursors as step
use Rattle.rope_slice.proofs.chars.Chars.right.Goals as goal

pub char_after-c-requires-2-clause-within : goal.char_after-c-requires-2-clause-within
char_after-c-requires-2-clause-within c =
    let s = c.self.inside in
    step.next_some s.span c.step_chunk.new.span s.chunk.now c.in_ok-chunk.chunk.now
    c.in_ok-chunk.ensures.moved c.self.invariant.chunk_is c.in_ok-chunk.ensures.chunk s.at s.passed
    s.total c.self.invariant c.if-self-total.false

pub char_after-c-requires-2-clause-cut : goal.char_after-c-requires-2-clause-cut
char_after-c-requires-2-clause-cut c =
    IsCharBoundary-start c.in_ok-chunk.chunk.now c.in_ok-chunk.ensures.chunk.utf8

pub invariant_of-self-2 : goal.invariant_of-self-2
invariant_of-self-2 c =
    let s = c.self.inside in
    step.cursor_next s.span c.step_chunk.new.span s.chunk.now c.in_ok-chunk.chunk.now
    c.in_ok-chunk.ensures.moved c.self.invariant.chunk_is c.in_ok-chunk.ensures.chunk s.at
    c.char_after-c-2.result.1 c.char_after-c-2.result.0 c.if-at-self.false c.char_after-c-2.ensures
    s.passed s.total c.self.invariant

pub returns : goal.returns
returns c =
    let s = c.self.inside in
    let right =
    step.first_right s.span c.step_chunk.new.span s.chunk.now c.in_ok-chunk.chunk.now
    c.in_ok-chunk.ensures.moved c.self.invariant.chunk_is c.in_ok-chunk.ensures.chunk s.at
    c.char_after-c-2.result.1 c.char_after-c-2.result.0 c.if-at-self.false
    c.char_after-c-2.ensures in
    let left =
    step.first_left s.span c.step_chunk.new.span s.chunk.now c.in_ok-chunk.chunk.now
    c.in_ok-chunk.ensures.moved c.self.invariant.chunk_is c.in_ok-chunk.ensures.chunk s.at
    c.char_after-c-2.result.1 c.char_after-c-2.result.0 c.if-at-self.false
    c.char_after-c-2.ensures in
    rw (← c.self.view_is) (right, left, refl)

pub returns-in_err-chunk : goal.returns-in_err-chunk
returns-in_err-chunk c =
    let s = c.self.inside in
    rw (c.from_residual.ensures, ← c.self.view_is) (
      ap (λ cs. cs ++ concat s.span.after) (step.no_rest s.chunk.now s.at c.if-at-self.false)
          ∙ ap concat c.in_err-chunk.ensures.ended,
      ap (λ p. at_char p s.chunk.now s.at s.is_backward) c.in_err-chunk.ensures.stays,
    )

-- in the same chunk
pub char_after-c-requires-clause-within : goal.char_after-c-requires-clause-within
char_after-c-requires-clause-within c = c.if-at-self.true

pub char_after-c-requires-clause-cut : goal.char_after-c-requires-clause-cut
char_after-c-requires-clause-cut c = c.self.invariant.cut

pub invariant_of-self : goal.invariant_of-self
invariant_of-self c =
    let s = c.self.inside in
    step.cursor_after s.span s.chunk.now s.at c.char_after-c.result.1 c.char_after-c.result.0
    c.char_after-c.ensures s.passed s.total c.self.invariant

pub returns-then-at-self : goal.returns-then-at-self
returns-then-at-self c =
    let s = c.self.inside in
    let before =
    step.before_passed s.span s.chunk.now s.at c.char_after-c.result.1 c.char_after-c.result.0
    c.char_after-c.ensures in
    let after =
    step.after_passed s.span s.chunk.now s.at c.char_after-c.result.1 c.char_after-c.result.0
    c.char_after-c.ensures in
    rw (← c.self.view_is) (after, before, refl)
