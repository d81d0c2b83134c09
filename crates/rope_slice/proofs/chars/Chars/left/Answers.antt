use Rattle.std.proofs.Common.{[], ◌≡◌, refl, ap, ◌∙◌, ◌++◌, take, arith}
use Rattle.std.specs.List.{concat}
use Rattle.std.specs.Str.{chars}
use Rattle.rope_slice.specs.Chars.{at_char}
use Rattle.rope_slice.proofs.CharCursors as step
use Rattle.rope_slice.proofs.chars.Chars.left.Goals as goal

pub char_before-c-requires-2-clause-some : goal.char_before-c-requires-2-clause-some
char_before-c-requires-2-clause-some c =
    let s = c.self.inside in
    step.prev_some c.step_chunk.new.span s.span c.in_ok-chunk.chunk.now s.chunk.now
    c.in_ok-chunk.ensures.moved c.in_ok-chunk.ensures.chunk c.self.invariant.chunk_is s.at s.passed
    s.total c.self.invariant c.if-self-eq0.false

pub invariant_of-self-2 : goal.invariant_of-self-2
invariant_of-self-2 c =
    let s = c.self.inside in
    step.cursor_prev c.step_chunk.new.span s.span c.in_ok-chunk.chunk.now s.chunk.now
    c.in_ok-chunk.ensures.moved c.in_ok-chunk.ensures.chunk c.self.invariant.chunk_is s.at
    c.char_before-c-2.result.1 c.char_before-c-2.result.0 (omega (arith, c.if-at-gt0.false))
    c.char_before-c-2.ensures s.passed s.total c.self.invariant

pub returns : goal.returns
returns c =
    let s = c.self.inside in
    let first : s.at ≡ 0 = omega (arith, c.if-at-gt0.false) in
    let right =
    step.last_right c.step_chunk.new.span s.span c.in_ok-chunk.chunk.now s.chunk.now
    c.in_ok-chunk.ensures.moved c.in_ok-chunk.ensures.chunk c.self.invariant.chunk_is s.at
    c.char_before-c-2.result.1 c.char_before-c-2.result.0 first c.char_before-c-2.ensures in
    let left =
    step.last_left c.step_chunk.new.span s.span c.in_ok-chunk.chunk.now s.chunk.now
    c.in_ok-chunk.ensures.moved c.in_ok-chunk.ensures.chunk c.self.invariant.chunk_is s.at
    c.char_before-c-2.result.1 c.char_before-c-2.result.0 first c.char_before-c-2.ensures in
    rw (← c.self.view_is) (left, right, refl)

pub returns-in_err-chunk : goal.returns-in_err-chunk
returns-in_err-chunk c =
    let s = c.self.inside in
    let first : s.at ≡ 0 = omega (arith, c.if-at-gt0.false) in
    rw (c.from_residual.ensures, ← c.self.view_is) (
      ap (λ i. concat s.span.before ++ chars (take i s.chunk.now)) first
          ∙ ap (λ cs. concat s.span.before ++ cs) (step.no_front s.chunk.now)
          ∙ ap (λ x. concat x ++ []) c.in_err-chunk.ensures.ended,
      ap (λ p. at_char p s.chunk.now s.at s.is_backward) c.in_err-chunk.ensures.stays,
    )

-- in the same chunk
pub char_before-c-requires-clause-some : goal.char_before-c-requires-clause-some
char_before-c-requires-clause-some c = c.if-at-gt0.true

pub char_before-c-requires-clause-cut : goal.char_before-c-requires-clause-cut
char_before-c-requires-clause-cut c = c.self.invariant.cut

pub invariant_of-self : goal.invariant_of-self
invariant_of-self c =
    let s = c.self.inside in
    step.cursor_before s.span s.chunk.now c.char_before-c.result.1 s.at c.char_before-c.result.0
    c.char_before-c.ensures s.passed s.total c.self.invariant

pub returns-then-at-gt0 : goal.returns-then-at-gt0
returns-then-at-gt0 c =
    let s = c.self.inside in
    let before =
    step.before_passed s.span s.chunk.now c.char_before-c.result.1 s.at c.char_before-c.result.0
    c.char_before-c.ensures in
    let after =
    step.after_passed s.span s.chunk.now c.char_before-c.result.1 s.at c.char_before-c.result.0
    c.char_before-c.ensures in
    rw (← c.self.view_is) (before, after, refl)
