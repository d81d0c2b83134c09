use Rattle.std.proofs.Common.{◌≡◌, ◌+◌, ◌<◌, ◌-◌, ◌∙◌, refl, arith}
use Rattle.std.specs.Str.{chars}
use Rattle.rope_text.specs.Content.{Content}
use Rattle.rope_slice.specs.Slice.{content_of}
use Rattle.rope_slice.specs.Lines.{at_line}
use Rattle.rope_slice.proofs.Points.{stays_put}
use Rattle.rope_slice.proofs.LineSteps.{left_of_line, right_of_line, no_line}
use Rattle.rope_slice.proofs.LineMoves.{at_count, of_count, line_held, line_part, IsLinePart}
use Rattle.rope_slice.proofs.lines.Lines.step.Goals.{Then-is_left, Else-is_left, After-go_back-held, After-go_on-held}
use Rattle.rope_slice.proofs.lines.Lines.step.Goals as goal

pub returns-then-self-end_of : goal.returns-then-self-end_of
returns-then-self-end_of c =
    let s = c.self.inside in
    let lines = at_line (content_of s.slice) s.line s.is_backward in
    let none = no_line c.args.is_left (content_of s.slice) s.caret s.before s.line s.total
    s.is_backward c.self.invariant.start (c.if-self-end_of.true ∙ c.end_of.ensures) in
    rw (← c.self.view_is) (stays_put c.args.is_left lines lines refl none (λ (x : Content). x))

-- a line back
not_first : (c : Then-is_left) → 0 < c.self.inside.line
not_first c = omega (arith, c.if-self-end_of.false, rw c.if-is_left.true at c.end_of.ensures)

back : (c : After-go_back-held) → IsLinePart (content_of c.self.inside.slice)
    c.go_back-held.new.before c.self.inside.before (c.self.inside.line - 1)
back c =
    let s = c.self.inside in
    let line : s.line ≡ (s.line - 1) + 1 =
    omega (arith, c.if-self-end_of.false, rw c.if-is_left.true at c.end_of.ensures) in
    line_part (content_of s.slice) c.go_back-held.new.self s.caret c.go_back-held.new.before
    s.before (s.line - 1) c.go_back-held.ensures.start
    (at_count (content_of s.slice) s.caret s.before s.line ((s.line - 1) + 1) s.total line
    c.self.invariant.start)

pub go_back-held-requires-clause-start : goal.go_back-held-requires-clause-start
go_back-held-requires-clause-start c =
    let s = c.self.inside in
    let some = not_first (goal.at.go_back-held-requires-clause-start c).Then-is_left in
    at_count (content_of s.slice) s.caret s.before s.line ((s.line - 1) + 1) s.total
    (omega (arith, some)) c.self.invariant.start

pub between-requires-clause-from_is : goal.between-requires-clause-from_is
between-requires-clause-from_is c =
    (back (goal.at.between-requires-clause-from_is c).After-go_back-held).from_is

pub between-requires-clause-to_is : goal.between-requires-clause-to_is
between-requires-clause-to_is c =
    (back (goal.at.between-requires-clause-to_is c).After-go_back-held).to_is

pub between-requires-clause-ordered : goal.between-requires-clause-ordered
between-requires-clause-ordered c =
    (back (goal.at.between-requires-clause-ordered c).After-go_back-held).ordered

pub between-requires-clause-within : goal.between-requires-clause-within
between-requires-clause-within c =
    (back (goal.at.between-requires-clause-within c).After-go_back-held).within

pub between-requires-clause-apart : goal.between-requires-clause-apart
between-requires-clause-apart c =
    (back (goal.at.between-requires-clause-apart c).After-go_back-held).apart

pub between-requires-clause-held : goal.between-requires-clause-held
between-requires-clause-held c =
    let s = c.self.inside in
    line_held (content_of s.slice) c.go_back-held.new.self c.go_back-held.new.before (s.line - 1) _
    (chars c.go_back-held.result.now) c.go_back-held.ensures.start c.go_back-held.ensures.held

pub invariant_of-self : goal.invariant_of-self
invariant_of-self c =
    let s = c.self.inside in
    record {
      start = of_count (content_of s.slice) c.go_back-held.new.self c.go_back-held.new.before
          (s.line - 1) s.total c.self.invariant.start.total_is c.go_back-held.ensures.start;
      breaks_is = c.self.invariant.breaks_is;
    }

pub returns-then-is_left : goal.returns-then-is_left
returns-then-is_left c =
    let s = c.self.inside in
    let some = not_first (goal.at.returns-then-is_left c).Then-is_left in
    let start = c.self.invariant.start in
    let step = left_of_line (content_of s.slice) s.line s.is_backward some
    (omega (arith, start.within, start.total_is)) in
    let item = c.between.ensures
    ∙ (back (goal.at.returns-then-is_left c).After-go_back-held).part_is in
    rw (c.if-is_left.true, ← c.self.view_is, item) (step.0, step.1, refl)

-- a line on
not_last : (c : Else-is_left) → c.self.inside.line < c.self.inside.total
not_last c =
    omega (
      arith,
      c.self.invariant.start.within,
      c.if-self-end_of.false,
      rw c.if-is_left.false at c.end_of.ensures,
    )

on : (c : After-go_on-held) → IsLinePart (content_of c.self.inside.slice) c.self.inside.before
    c.go_on-held.new.before c.self.inside.line
on c =
    let s = c.self.inside in
    line_part (content_of s.slice) s.caret c.go_on-held.new.self s.before c.go_on-held.new.before
    s.line (at_count (content_of s.slice) s.caret s.before s.line s.line s.total refl
    c.self.invariant.start) c.go_on-held.ensures.start

pub go_on-held-requires-clause-start : goal.go_on-held-requires-clause-start
go_on-held-requires-clause-start c =
    let s = c.self.inside in
    at_count (content_of s.slice) s.caret s.before s.line s.line s.total refl
    c.self.invariant.start

pub go_on-held-requires-clause-within : goal.go_on-held-requires-clause-within
go_on-held-requires-clause-within c =
    let less = not_last (goal.at.go_on-held-requires-clause-within c).Else-is_left in
    omega (arith, less, c.self.invariant.start.total_is)

pub between-requires-2-clause-from_is : goal.between-requires-2-clause-from_is
between-requires-2-clause-from_is c =
    (on (goal.at.between-requires-2-clause-from_is c).After-go_on-held).from_is

pub between-requires-2-clause-to_is : goal.between-requires-2-clause-to_is
between-requires-2-clause-to_is c =
    (on (goal.at.between-requires-2-clause-to_is c).After-go_on-held).to_is

pub between-requires-2-clause-ordered : goal.between-requires-2-clause-ordered
between-requires-2-clause-ordered c =
    (on (goal.at.between-requires-2-clause-ordered c).After-go_on-held).ordered

pub between-requires-2-clause-within : goal.between-requires-2-clause-within
between-requires-2-clause-within c =
    (on (goal.at.between-requires-2-clause-within c).After-go_on-held).within

pub between-requires-2-clause-apart : goal.between-requires-2-clause-apart
between-requires-2-clause-apart c =
    (on (goal.at.between-requires-2-clause-apart c).After-go_on-held).apart

pub between-requires-2-clause-held : goal.between-requires-2-clause-held
between-requires-2-clause-held c =
    let s = c.self.inside in
    line_held (content_of s.slice) s.caret s.before s.line s.total
    (chars c.go_on-held.result.now) c.self.invariant.start c.go_on-held.ensures.held

pub invariant_of-self-2 : goal.invariant_of-self-2
invariant_of-self-2 c =
    let s = c.self.inside in
    record {
      start = of_count (content_of s.slice) c.go_on-held.new.self c.go_on-held.new.before
          (s.line + 1) s.total c.self.invariant.start.total_is c.go_on-held.ensures.start;
      breaks_is = c.self.invariant.breaks_is;
    }

pub returns : goal.returns
returns c =
    let s = c.self.inside in
    let less = not_last (goal.at.returns c).Else-is_left in
    let step = right_of_line (content_of s.slice) s.line s.is_backward
    (omega (arith, less, c.self.invariant.start.total_is)) in
    let item = c.between-2.ensures ∙ (on (goal.at.returns c).After-go_on-held).part_is in
    rw (c.if-is_left.false, ← c.self.view_is, item) (step.0, step.1, refl)
