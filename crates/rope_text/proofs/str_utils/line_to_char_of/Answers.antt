use Rattle.std.proofs.Common.{◌≡◌, length, ap, ◌∙◌, arith}
use Rattle.std.specs.Str.{chars}
use Rattle.rope_text.specs.Conversions.{byte_to_char}
use Rattle.rope_text.specs.Lines.{line_start}
use Rattle.rope_text.specs.Text.{byte_len}
use Rattle.rope_text.proofs.ConversionLaws.{byte_to_char-char_to_byte}
use Rattle.rope_text.proofs.LineLaws.{line_start-le-length}
use Rattle.rope_text.proofs.AsciiTexts.{ascii_front}
use Rattle.rope_text.proofs.str_utils.line_to_char_of.Goals as goal

pub returns-then-info : goal.returns-then-info
returns-then-info c =
    let t = chars c.args.text.now in
    let l = line_start c.args.breaks t c.args.line_idx in
    let ascii : byte_len t ≡ length t =
    omega (arith, ap (λ x. x.bytes) c.requires, ap (λ x. x.chars) c.requires, c.if-info.true) in
    omega (
      arith,
      c.line_to_byte_of-place.ensures.value,
      ascii_front t ascii l,
      line_start-le-length c.args.breaks t c.args.line_idx,
    )

pub returns : goal.returns
returns c =
    let t = chars c.args.text.now in
    c.byte_to_char_idx_of.ensures ∙ ap (byte_to_char t) c.line_to_byte_of-place.ensures.value
    ∙ byte_to_char-char_to_byte t (line_start c.args.breaks t c.args.line_idx)
    (line_start-le-length c.args.breaks t c.args.line_idx)
