use Rattle.std.proofs.Common.{◌≡◌, ◌∙◌, ap, sym, length, arith}
use Rattle.std.specs.Str.{chars}
use Rattle.rope_text.specs.Text.{surrogate_count}
use Rattle.rope_text.specs.Breaks.{break_count}
use Rattle.rope_text.proofs.ByteLaws.{length-chars, surrogate_count-chars}
use Rattle.rope_text.proofs.ByteBreakLaws.{break_count-chars, byte_break_count-past}
use Rattle.rope_text.specs.TextInfo.{info_of}
use Rattle.rope_text.proofs.InfoLaws.{same_info}
use Rattle.rope_text.proofs.Walks.{byte_len-chars}
use Rattle.rope_text.proofs.text_info.TextInfo.of_short.Goals as goal

pub returns : goal.returns
returns c =
    let breaks = c.args.breaks in
    let text = c.args.text.now in
    let bs = c.as_bytes.result.now in
    let value = c.as_bytes.ensures.value in
    let utf8 = c.as_bytes.ensures.utf8 in
    let counted = c.count_all in
    let bytes = byte_len-chars text c.utf8.text in
    let all_chars = counted.ensures.chars ∙ sym (length-chars bs utf8)
    ∙ ap (λ xs. length (chars xs)) value in
    let all_pairs = counted.ensures.pairs ∙ sym (surrogate_count-chars bs utf8)
    ∙ ap (λ xs. surrogate_count (chars xs)) value in
    let none = byte_break_count-past breaks bs (length bs) (omega arith) in
    let whole = break_count-chars breaks bs utf8 in
    let same = ap (λ xs. break_count breaks (chars xs)) value in
    let all_breaks : counted.result.break_count ≡ break_count breaks (chars text) =
    omega (arith, counted.ensures.break_count) in
    same_info counted.result (info_of breaks (chars text))
    (omega (arith, counted.ensures.bytes_are, bytes, ap length value)) all_chars all_pairs
    all_breaks
