use Rattle.std.proofs.Common.{◌≡◌, take, ap, sym, ◌∙◌}
use Rattle.std.specs.Str.{chars}
use Rattle.rope_text.specs.Text.{byte_len}
use Rattle.rope_text.proofs.TextParts.{chars_front, chars_back}
use Rattle.rope_leaf.proofs.short_text.ShortText.split_at_char.Goals.{After-range_from}
use Rattle.rope_leaf.proofs.short_text.ShortText.split_at_char.Goals as goal

index_is : (c : After-range_from) → c.char_to_byte_idx-byte_idx.result
    ≡ byte_len (take c.args.char_idx (chars c.as_str-text.result.now))
index_is c = c.char_to_byte_idx-byte_idx.ensures.value
    ∙ ap (λ s. byte_len (take c.args.char_idx s)) (sym c.as_str-text.ensures.chars)

pub returns-clause-front : goal.returns-clause-front
returns-clause-front c =
    let e = (goal.at.returns-clause-front c).After-range_from in
    chars_front c.as_str-text.result.now _ _ c.args.char_idx _ c.as_str-text.utf8
    c.as_str-text.ensures.chars (index_is e) c.range.ensures.value

pub returns-clause-back : goal.returns-clause-back
returns-clause-back c =
    let e = (goal.at.returns-clause-back c).After-range_from in
    chars_back c.as_str-text.result.now _ _ c.args.char_idx _ c.as_str-text.utf8
    c.as_str-text.ensures.chars (index_is e) c.range_from.ensures.value
