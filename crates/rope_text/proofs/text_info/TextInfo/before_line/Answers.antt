use Rattle.std.proofs.Common.{◌≡◌, ℕ, List, length, take, ap, sym, ◌∙◌, arith}
use Rattle.std.proofs.lemmas.List.{length-take-le}
use Rattle.std.proofs.lemmas.Str.{length-le-encodes}
use Rattle.std.specs.Str.{chars}
use Rattle.rope_text.specs.Conversions.{byte_to_char}
use Rattle.rope_text.specs.Lines.{line_start}
use Rattle.rope_text.specs.Text.{byte_len, surrogate_count}
use Rattle.rope_text.specs.TextInfo.{info_of}
use Rattle.rope_text.proofs.AsciiTexts.{ascii_front, ascii_units}
use Rattle.rope_text.proofs.ConversionLaws.{byte_to_char-char_to_byte}
use Rattle.rope_text.proofs.InfoLaws.{same_info}
use Rattle.rope_text.proofs.LineLaws.{line_start-le-length}
use Rattle.rope_text.proofs.LineSeams.{break_count-front}
use Rattle.rope_text.proofs.text_info.TextInfo.before_line.Goals as goal

pub returns-then-info : goal.returns-then-info
returns-then-info c =
    let text : List ℕ = chars c.args.text.now in
    let start : ℕ = line_start c.args.breaks text c.args.line_idx in
    let within = line_start-le-length c.args.breaks text c.args.line_idx in
    let place = c.line_to_byte_of-bytes.ensures.value in
    let here : byte_to_char text c.line_to_byte_of-bytes.result ≡ start =
    ap (byte_to_char text) place ∙ byte_to_char-char_to_byte text start within in
    same_info _ (info_of c.args.breaks (take start text)) place
    (c.byte_to_char_idx_of.ensures ∙ here ∙ sym (length-take-le start text within))
    (c.byte_to_surrogates_of.ensures ∙ ap (λ n. surrogate_count (take n text)) here)
    (omega (
      arith,
      break_count-front c.args.breaks text c.args.line_idx
          (omega (arith, c.requires.within)),
      c.requires.within,
    ))

pub returns-else-info : goal.returns-else-info
returns-else-info c =
    let text : List ℕ = chars c.args.text.now in
    let start : ℕ = line_start c.args.breaks text c.args.line_idx in
    let within = line_start-le-length c.args.breaks text c.args.line_idx in
    let place = c.line_to_byte_of-bytes.ensures.value in
    let ascii : byte_len text ≡ length text =
    omega (
      arith,
      ap (λ x. x.bytes) c.requires.info,
      ap (λ x. x.chars) c.requires.info,
      c.if-info.false,
      length-le-encodes text,
    ) in
    let front = ascii_front text ascii start in
    let long = length-take-le start text within in
    same_info _ (info_of c.args.breaks (take start text)) place
    (omega (arith, place, front, long, within))
    (omega (arith, ascii_units text ascii start, long, within))
    (omega (
      arith,
      break_count-front c.args.breaks text c.args.line_idx
          (omega (arith, c.requires.within)),
      c.requires.within,
    ))
