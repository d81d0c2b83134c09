use Rattle.std.proofs.Common.{◌≡◌, ℕ, List, length, take, true, refl, ap, sym, subst, ◌∙◌, arith}
use Rattle.std.proofs.lemmas.List.{length-take-le}
use Rattle.std.specs.Str.{chars, IsCharBoundary}
use Rattle.rope_text.specs.Conversions.{byte_to_char, char_to_line}
use Rattle.rope_text.specs.Cuts.{is_cut}
use Rattle.rope_text.specs.Text.{byte_len, surrogate_count}
use Rattle.rope_text.specs.TextInfo.{info_of}
use Rattle.rope_text.proofs.ConversionLaws.{byte_to_char-char_to_byte, byte_to_line-byte_to_char}
use Rattle.rope_text.proofs.CutOff.{apart_before}
use Rattle.rope_text.proofs.InfoLaws.{same_info}
use Rattle.rope_text.proofs.SliceLaws.{breaks_apart}
use Rattle.rope_text.proofs.TextParts.{chars_front, byte_len_boundary}
use Rattle.rope_text.proofs.text_info.TextInfo.of_front.Goals as goal

pub is_break-requires : goal.is_break-requires
is_break-requires c =
    let bs = c.args.text.now in
    omega (
      arith,
      c.requires.place,
      (byte_len_boundary bs c.args.char_idx c.utf8.text).0,
      ap length c.as_bytes.ensures.value,
    )

pub range-requires-clause-end_boundary : goal.range-requires-clause-end_boundary
range-requires-clause-end_boundary c =
    subst (IsCharBoundary c.args.text.now) (sym c.requires.place)
    (byte_len_boundary c.args.text.now c.args.char_idx c.utf8.text)

pub returns-then-not-is_break : goal.returns-then-not-is_break
returns-then-not-is_break c =
    let bs = c.args.text.now in
    c.from_str.ensures ∙ ap (info_of c.args.breaks)
    (chars_front bs c.range.result.now (chars bs) c.args.char_idx c.args.byte_idx c.utf8.text refl
    c.requires.place c.range.ensures.value)

pub returns : goal.returns
returns c =
    let bs = c.args.text.now in
    let text : List ℕ = chars bs in
    let k : ℕ = c.args.char_idx in
    let here : byte_to_char text c.args.byte_idx ≡ k = ap (byte_to_char text) c.requires.place
    ∙ byte_to_char-char_to_byte text k c.requires.within in
    let cut : is_cut bs (byte_len (take k text)) ≡ true =
    ap (is_cut bs) (sym c.requires.place)
    ∙ ap (λ xs. is_cut xs c.args.byte_idx) (sym c.as_bytes.ensures.value)
    ∙ sym c.is_break.ensures.value ∙ c.if-not-is_break.false in
    same_info _ (info_of c.args.breaks (take k text)) c.requires.place
    (sym (length-take-le k text c.requires.within))
    (c.byte_to_surrogates_of.ensures ∙ ap (λ n. surrogate_count (take n text)) here)
    (c.byte_to_line_of.ensures ∙ byte_to_line-byte_to_char c.args.breaks text c.args.byte_idx
    ∙ ap (char_to_line c.args.breaks text) here
    ∙ breaks_apart c.args.breaks text k c.requires.within (apart_before bs k c.utf8.text cut))
