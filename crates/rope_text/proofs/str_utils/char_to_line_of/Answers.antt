use Rattle.std.proofs.Common.{◌≡◌, ℕ, List, length, ap, sym, ◌∙◌, arith, inl, inr}
use Rattle.std.proofs.lemmas.Bool.{cases_lt}
use Rattle.std.proofs.lemmas.List.{take_all}
use Rattle.std.specs.Str.{chars}
use Rattle.rope_text.specs.declared.line_breaks.LineBreaks.{LineBreaks}
use Rattle.rope_text.specs.Conversions.{byte_to_line, char_to_byte, char_to_line}
use Rattle.rope_text.specs.Text.{byte_len}
use Rattle.rope_text.proofs.ConversionLaws.{byte_to_char-char_to_byte, byte_to_line-byte_to_char, char_to_line_past}
use Rattle.rope_text.proofs.AsciiTexts.{ascii_char_to_line}
use Rattle.rope_text.proofs.str_utils.char_to_line_of.Goals as goal

-- a character is on the line of the byte at which it starts
line_of_start : (breaks : LineBreaks) (text : List ℕ) (i : ℕ)
    → byte_to_line breaks text (char_to_byte text i) ≡ char_to_line breaks text i
line_of_start breaks text i =
    elim (cases_lt i (length text)) [
      | inl less ↦ byte_to_line-byte_to_char breaks text (char_to_byte text i)
          ∙ ap (char_to_line breaks text) (byte_to_char-char_to_byte text i (omega arith))
      | inr past ↦
          let all : char_to_byte text i ≡ char_to_byte text (length text) =
          ap byte_len (take_all i text past ∙ sym (take_all (length text) text (omega arith))) in
          byte_to_line-byte_to_char breaks text (char_to_byte text i)
          ∙ ap (char_to_line breaks text)
          (rw all (byte_to_char-char_to_byte text (length text) (omega arith)))
          ∙ char_to_line_past breaks text (length text) (omega arith)
          ∙ sym (char_to_line_past breaks text i past)
    ]

pub returns-then-info : goal.returns-then-info
returns-then-info c =
    let t = chars c.args.text.now in
    let ascii : byte_len t ≡ length t =
    omega (arith, ap (λ x. x.bytes) c.requires, ap (λ x. x.chars) c.requires, c.if-info.true) in
    c.byte_to_line_of.ensures ∙ ascii_char_to_line t ascii c.args.breaks c.args.char_idx

pub returns : goal.returns
returns c =
    let t = chars c.args.text.now in
    c.byte_to_line_of-2.ensures
    ∙ ap (byte_to_line c.args.breaks t) c.char_to_byte_idx_of-place.ensures.value
    ∙ line_of_start c.args.breaks t c.args.char_idx
