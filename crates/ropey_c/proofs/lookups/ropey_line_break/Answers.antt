-- The line break is the end of its line.
use Rattle.std.proofs.Common.{◌≡◌, length, refl, ap, ◌∙◌, arith}
use Rattle.rope_slice.specs.Slice.{text_of, breaks_of}
use Rattle.rope_text.specs.LastBreak.{last_break_len}
use Rattle.rope_text.specs.Lines.{line}
use Rattle.ropey_c.proofs.LineBreaks.{last_part}
use Rattle.ropey_c.proofs.lookups.ropey_line_break.Goals as goal

pub returns-clause-answer : goal.returns-clause-answer
returns-clause-answer c =
    rw c.in-Some.ensures.found (
    let breaks = c.in-Some.value.now.breaks in
    let whole = line breaks c.in-Some.value.now.text c.args.line_idx in
    let text_is : text_of c.line.result ≡ whole = ap (λ x. x.text) c.line.ensures in
    let breaks_is : breaks_of c.line.result ≡ breaks = ap (λ x. x.breaks) c.line.ensures in
    let part = ap (λ x. length x.text) c.line_break.ensures in
    let len = last_part (breaks_of c.line.result) (text_of c.line.result) in
    let same = ap (λ b. last_break_len b (text_of c.line.result)) breaks_is ∙
    ap (last_break_len breaks) text_is in (
      λ past. absurd (omega (arith, past, c.if-line_idx-len_lines.false, c.len_lines.ensures)),
      λ _. (refl, c.len_chars.ensures ∙ part ∙ len ∙ same),
    )
    )
