use Rattle.std.proofs.Common.{◌∙◌, ap, sym, take, length, arith}
use Rattle.std.proofs.lemmas.List.{take_all}
use Rattle.rope_text.specs.TextInfo.{info_of}
use Rattle.rope_text.specs.Breaks.{break_count}
use Rattle.rope_text.specs.Lines.{line_start}
use Rattle.rope_text.proofs.LineLaws.{line_start_first, line_start_past}
use Rattle.rope_slice.specs.Plain.{text_of}
use Rattle.rope_slice.proofs.plain.Plain.before_line.Goals as goal

pub before_line-requires-clause-within : goal.before_line-requires-clause-within
before_line-requires-clause-within c =
    omega (
      arith,
      ap (λ x. x.break_count) c.args.self.now.counted,
      ap (break_count c.args.self.now.breaks) c.as_str.ensures,
    )

pub returns-then-line_idx-eq0 : goal.returns-then-line_idx-eq0
returns-then-line_idx-eq0 c =
    let breaks = c.args.self.now.breaks in
    let t = text_of c.args.self.now in
    c.new.ensures breaks ∙ sym (ap (λ n. info_of breaks (take n t))
    (ap (line_start breaks t) c.if-line_idx-eq0.true ∙ line_start_first breaks t))

pub returns-then-line_idx-self : goal.returns-then-line_idx-self
returns-then-line_idx-self c =
    let breaks = c.args.self.now.breaks in
    let t = text_of c.args.self.now in
    let past =
    line_start_past breaks t c.args.line_idx
    (omega (arith, ap (λ x. x.break_count) c.args.self.now.counted)) in
    c.args.self.now.counted ∙ ap (info_of breaks)
    (sym (ap (λ n. take n t) past ∙ take_all (length t) t (omega arith)))

pub returns : goal.returns
returns c =
    let breaks = c.args.self.now.breaks in
    c.before_line.ensures ∙ ap (λ s. info_of breaks (take (line_start breaks s c.args.line_idx) s))
    c.as_str.ensures

pub before_line-requires-clause-info : goal.before_line-requires-clause-info
before_line-requires-clause-info c = c.args.self.now.counted
    ∙ ap (info_of c.args.self.now.breaks) (sym c.as_str.ensures)
