use Rattle.std.proofs.Common.{◌≡◌, ◌-◌, ◌++◌, length, take, drop, ap, sym, ◌∙◌, arith}
use Rattle.std.specs.Str.{chars}
use Rattle.std.proofs.lemmas.List.{take-append-drop, length-take}
use Rattle.rope_text.proofs.TextParts.{chars-take, chars-drop}
use Rattle.rope_changes.proofs.cut.split_chars.Goals.{After-range}
use Rattle.rope_changes.proofs.cut.split_chars.Goals as goal

front_is : (c : After-range) → chars c.range.result.now ≡ take c.args.count (chars c.args.text.now)
front_is c =
    let text = c.args.text.now in
    let end = c.char_to_byte_idx-end.result in
    let all : end - 0 ≡ end = omega arith in
    ap chars c.range.ensures.value
    ∙ ap (λ n. chars (take n text)) (all ∙ c.char_to_byte_idx-end.ensures.value)
    ∙ chars-take text c.args.count c.utf8.text

pub returns-clause-parts : goal.returns-clause-parts
returns-clause-parts c =
    let text = c.args.text.now in
    let back : chars c.range_from.result.now ≡ drop c.args.count (chars text) =
    ap chars c.range_from.ensures.value
    ∙ ap (λ n. chars (drop n text)) c.char_to_byte_idx-end.ensures.value
    ∙ chars-drop text c.args.count c.utf8.text in
    sym (take-append-drop c.args.count (chars text))
    ∙ ap (λ t. t ++ drop c.args.count (chars text))
    (sym (front_is (goal.at.returns-clause-parts c).After-range))
    ∙ ap (λ t. chars c.range.result.now ++ t) (sym back)

pub returns-clause-front : goal.returns-clause-front
returns-clause-front c =
    omega (
      arith,
      ap length (front_is (goal.at.returns-clause-front c).After-range),
      length-take c.args.count (chars c.args.text.now),
    )
