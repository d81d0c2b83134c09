use Rattle.std.proofs.Common.{◌≡◌, ℕ, ◌+◌, ◌-◌, ◌≤◌, ◌∙◌, length, ap, arith}
use Rattle.std.specs.List.{slice_range}
use Rattle.rope_text.specs.Content.{Content}
use Rattle.rope_text.specs.LastBreak.{last_break_len}
use Rattle.rope_text.specs.Lines.{line}
use Rattle.rope_slice.specs.Slice.{text_of, breaks_of}
use Rattle.rope_position.proofs.Columns.{line_within}
use Rattle.rope_position.proofs.slices.RopeSlicePositions.clamped_position_to_char.Goals.{After-char_at_column}
use Rattle.rope_position.proofs.slices.RopeSlicePositions.clamped_position_to_char.Goals as goal

within : (c : After-char_at_column) → c.line_to_char.result + c.char_at_column.result ≤ length
    (text_of c.args.self.now)
within c =
    let l : ℕ = c.args.position.line in
    let part = text_of c.without_break-line.result in
    let whole = text_of c.line.result in
    let n : ℕ = length whole - last_break_len (breaks_of c.line.result) whole in
    let long : length part ≡ length (slice_range (line (breaks_of c.args.self.now)
    (text_of c.args.self.now) l) 0 n) =
    ap (λ (x : Content). length x.text) c.without_break-line.ensures ∙ ap
    (λ (x : Content). length (slice_range x.text 0 n)) c.line.ensures in
    omega (
      arith,
      c.char_at_column.ensures.within,
      c.line_to_char.ensures,
      line_within
          (breaks_of c.args.self.now) (text_of c.args.self.now) part l n long,
    )

pub overflow_add-result : goal.overflow_add-result
overflow_add-result c = omega (
  arith,
  within (goal.at.overflow_add-result c).After-char_at_column,
  c.len_chars-len.ensures,
)

pub returns-clause-within : goal.returns-clause-within
returns-clause-within c = within (goal.at.returns-clause-within c).After-char_at_column
