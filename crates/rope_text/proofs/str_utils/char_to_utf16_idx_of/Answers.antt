use Rattle.std.proofs.Common.{◌≡◌, ℕ, List, min, length, take, nat_le, ap, sym, ◌∙◌, arith}
use Rattle.std.proofs.lemmas.List.{length-take, take_min}
use Rattle.std.specs.Str.{chars}
use Rattle.rope_text.specs.Conversions.{byte_to_char, char_to_byte}
use Rattle.rope_text.specs.Text.{byte_len, surrogate_count}
use Rattle.rope_text.proofs.AsciiTexts.{utf16_len-le-bytes}
use Rattle.rope_text.proofs.Blocks.{count_by-front}
use Rattle.rope_text.proofs.ConversionLaws.{byte_to_char-char_to_byte}
use Rattle.rope_text.proofs.str_utils.char_to_utf16_idx_of.Goals.{After-byte_to_surrogates_of}
use Rattle.rope_text.proofs.str_utils.char_to_utf16_idx_of.Goals as goal

pub returns-then-info-eq0 : goal.returns-then-info-eq0
returns-then-info-eq0 c =
    let text : List ℕ = chars c.args.text.now in
    omega (
      arith,
      c.requires.chars,
      c.requires.pairs,
      c.if-info-eq0.true,
      c.min-before.ensures,
      length-take c.args.char_idx text,
      count_by-front (λ x. nat_le 0x1_0000 x) text c.args.char_idx,
    )

-- the pairs before the character, and the number of those characters
front : (c : After-byte_to_surrogates_of)
    → (c.byte_to_surrogates_of.result ≡ surrogate_count
    (take c.args.char_idx (chars c.args.text.now)))
    × (c.char_to_byte_idx_of-place.result ≡ char_to_byte (chars c.args.text.now) c.args.char_idx)
    × (c.min-before.result ≡ length (take c.args.char_idx (chars c.args.text.now)))
front c =
    let text : List ℕ = chars c.args.text.now in
    let before : ℕ = c.min-before.result in
    let size : before ≡ min c.args.char_idx (length text) = c.min-before.ensures
    ∙ ap (min c.args.char_idx) c.requires.chars in
    let same : take before text ≡ take c.args.char_idx text = ap (λ n. take n text) size
    ∙ take_min c.args.char_idx text in
    let place = c.char_to_byte_idx_of-place.ensures.value in
    let back : byte_to_char text c.char_to_byte_idx_of-place.result ≡ before =
    ap (byte_to_char text) place ∙ byte_to_char-char_to_byte text before (omega (arith, size)) in (
      c.byte_to_surrogates_of.ensures ∙ ap (λ n. surrogate_count (take n text)) back
          ∙ ap surrogate_count same,
      place ∙ ap byte_len same,
      size ∙ sym (length-take c.args.char_idx text),
    )

pub overflow_add-result : goal.overflow_add-result
overflow_add-result c =
    let f = front (goal.at.overflow_add-result c).After-byte_to_surrogates_of in
    record {
      fits =
          omega (
            arith,
            f.0,
            f.1,
            f.2,
            utf16_len-le-bytes
                (take c.args.char_idx (chars c.args.text.now)),
            c.char_to_byte_idx_of-place.type_inv,
          );
    }

pub returns : goal.returns
returns c =
    let f = front (goal.at.returns c).After-byte_to_surrogates_of in
    omega (arith, f.0, f.2)
