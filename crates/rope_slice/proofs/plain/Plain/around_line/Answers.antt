use Rattle.std.proofs.Common.{◌≡◌, ◌+◌, ◌∙◌, ap, sym, take, drop, subst, arith}
use Rattle.std.specs.Str.{chars, IsCharBoundary}
use Rattle.std.proofs.lemmas.List.{length-take-le}
use Rattle.rope_text.specs.Text.{byte_len}
use Rattle.rope_text.specs.TextInfo.{info_of, info_sum}
use Rattle.rope_text.specs.Lines.{line_start}
use Rattle.rope_text.specs.LineParts.{first_line}
use Rattle.rope_text.proofs.LineLaws.{line_start-le-length}
use Rattle.rope_text.proofs.LineSeams.{first_line-drop}
use Rattle.rope_text.proofs.TextParts.{chars_back, byte_len_boundary}
use Rattle.rope_text.proofs.Measures.{IsMeasure-byte_len, size_le_all}
use Rattle.rope_leaf.specs.Search.{IsSmall}
use Rattle.rope_leaf.proofs.Infos.{small_info, small_sum}
use Rattle.rope_slice.specs.Edge.{line_info}
use Rattle.rope_slice.specs.Plain.{text_of}
use Rattle.rope_slice.proofs.LeafLines.{next_counts}
use Rattle.rope_slice.proofs.plain.Plain.around_line.Goals.{After-before_line-start, After-of_first_line-line}
use Rattle.rope_slice.proofs.plain.Plain.around_line.Goals as goal

held_is : (c : After-of_first_line-line)
    → chars c.range_from-held.result.now ≡ drop
    (line_start c.args.self.now.breaks (text_of c.args.self.now) c.args.line_idx)
    (text_of c.args.self.now)
held_is c =
    let breaks = c.args.self.now.breaks in
    let t = text_of c.args.self.now in
    chars_back c.as_str.result.now c.range_from-held.result.now t
    (line_start breaks t c.args.line_idx) c.before_line-start.result.bytes c.as_str.utf8
    c.as_str.ensures
    (ap (λ x. x.bytes) c.before_line-start.ensures
    ∙ ap (λ s. byte_len (take (line_start breaks t c.args.line_idx) s)) (sym c.as_str.ensures))
    c.range_from-held.ensures.value

sum_is : (c : After-of_first_line-line)
    → info_sum c.before_line-start.result c.of_first_line-line.result
    ≡ line_info c.args.self.now.breaks (text_of c.args.self.now) (c.args.line_idx + 1)
sum_is c =
    let breaks = c.args.self.now.breaks in
    let t = text_of c.args.self.now in
    ap (λ x. info_sum x c.of_first_line-line.result) c.before_line-start.ensures
    ∙ ap (info_sum (line_info breaks t c.args.line_idx)) (c.of_first_line-line.ensures
    ∙ ap (λ s. info_of breaks (first_line breaks s)) (held_is c)
    ∙ ap (info_of breaks) (first_line-drop breaks t c.args.line_idx c.requires.within))
    ∙ sym (next_counts breaks t c.args.line_idx c.requires.within)

pub returns-clause-end : goal.returns-clause-end
returns-clause-end c = c.plus-end.ensures.sum
    ∙ sum_is (goal.at.returns-clause-end c).After-of_first_line-line

pub returns-clause-held : goal.returns-clause-held
returns-clause-held c =
    let breaks = c.args.self.now.breaks in
    let t = text_of c.args.self.now in
    let n = line_start breaks t c.args.line_idx in
    held_is (goal.at.returns-clause-held c).After-of_first_line-line
    ∙ ap (λ k. drop k t) (sym (ap (λ x. x.chars) c.before_line-start.ensures
    ∙ length-take-le n t (line_start-le-length breaks t c.args.line_idx)))

pub range_from-held-requires : goal.range_from-held-requires
range_from-held-requires c = λ some.
    let bs = c.as_str.result.now in
    let breaks = c.args.self.now.breaks in
    subst (IsCharBoundary bs)
    (sym (ap (λ x. x.bytes) c.before_line-start.ensures
    ∙ ap (λ s. byte_len (take (line_start breaks s c.args.line_idx) s)) (sym c.as_str.ensures)))
    (byte_len_boundary bs (line_start breaks (chars bs) c.args.line_idx) c.as_str.utf8)

small : (c : After-of_first_line-line)
    → IsSmall (line_info c.args.self.now.breaks (text_of c.args.self.now) (c.args.line_idx + 1))
small c =
    let t = text_of c.args.self.now in
    let next = line_start c.args.self.now.breaks t (c.args.line_idx + 1) in
    small_info c.args.self.now.breaks (take next t)
    (omega (arith, size_le_all byte_len IsMeasure-byte_len t next, c.requires.fits))

pub plus-end-requires : goal.plus-end-requires
plus-end-requires c = let here = (goal.at.plus-end-requires c).After-of_first_line-line in
    small_sum _ _ (rw (sum_is here) (small here))
