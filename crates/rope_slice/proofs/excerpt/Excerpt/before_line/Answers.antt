use Rattle.std.proofs.Common.{◌∙◌, take, length, sym, ap, arith}
use Rattle.std.proofs.lemmas.List.{take_all}
use Rattle.rope_text.specs.TextInfo.{info_of}
use Rattle.rope_text.specs.Lines.{line_start}
use Rattle.rope_text.proofs.LineLaws.{line_start_first, line_start_past}
use Rattle.rope_slice.specs.Excerpt.{text_of, breaks_of}
use Rattle.rope_slice.proofs.Measured.{measured}
use Rattle.rope_slice.proofs.ExcerptLines.{line_later, line_place_within, line_counts, own_line}
use Rattle.rope_slice.proofs.excerpt.Excerpt.before_line.Goals.{After-line_start_at}
use Rattle.rope_slice.proofs.excerpt.Excerpt.before_line.Goals as goal

pub returns-then-line_idx-eq0 : goal.returns-then-line_idx-eq0
returns-then-line_idx-eq0 c =
    let breaks = breaks_of c.args.self.now in
    let t = text_of c.args.self.now in
    c.new.ensures breaks ∙ sym (ap (λ n. info_of breaks (take n t))
    (ap (line_start breaks t) c.if-line_idx-eq0.true ∙ line_start_first breaks t))

pub line_start_at-requires-clause-within : goal.line_start_at-requires-clause-within
line_start_at-requires-clause-within c = let m = measured _ _ _ _ c.args.self.now.is_excerpt in
    omega (arith, c.place-place.ensures.value, ap (λ x. x.break_count) c.info-info.ensures.value)

pub counts_to-requires-clause-later : goal.counts_to-requires-clause-later
counts_to-requires-clause-later c =
    line_later _ _ _ _ _ c.args.self.now.is_excerpt c.args.line_idx _ (omega arith)
    c.place-place.ensures.value c.line_start_at.ensures.before

pub counts_to-requires-clause-within : goal.counts_to-requires-clause-within
counts_to-requires-clause-within c =
    line_place_within _ _ _ _ _ c.args.self.now.is_excerpt c.args.line_idx _ (omega arith)
    c.place-place.ensures.value c.line_start_at.ensures.before

pub counts_to-requires-clause-counts : goal.counts_to-requires-clause-counts
counts_to-requires-clause-counts c =
    line_counts _ _ _ _ _ c.args.self.now.is_excerpt c.args.line_idx _ (omega arith)
    c.place-place.ensures.value c.line_start_at.ensures.before

pub returns : goal.returns
returns c = c.counts_to.ensures.value
    ∙ own_line _ _ _ _ _ c.args.self.now.is_excerpt c.args.line_idx _ (omega arith)
    c.place-place.ensures.value c.line_start_at.ensures.before

pub returns-then-line_idx-info : goal.returns-then-line_idx-info
returns-then-line_idx-info c =
    let breaks = breaks_of c.args.self.now in
    let t = text_of c.args.self.now in
    let e = ap (λ x. x.break_count) c.info-info.ensures.value in
    c.info-info.ensures.value
    ∙ sym (ap (info_of breaks)
    (ap (λ n. take n t) (line_start_past breaks t c.args.line_idx (omega (arith, e)))
    ∙ take_all (length t) t (omega arith)))
