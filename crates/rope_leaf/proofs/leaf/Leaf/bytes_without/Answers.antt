use Rattle.std.proofs.Common.{◌≡◌, ◌+◌, length, take, drop, sym, ap, ◌∙◌, arith}
use Rattle.std.specs.Str.{chars}
use Rattle.rope_text.specs.Text.{byte_len}
use Rattle.rope_text.specs.Edit.{removed}
use Rattle.rope_text.proofs.Measures.{IsMeasure-byte_len}
use Rattle.rope_text.proofs.TextParts.{chars_front, chars_back}
use Rattle.rope_text.proofs.Walks.{byte_len-chars}
use Rattle.rope_leaf.specs.Tree.{text}
use Rattle.rope_leaf.proofs.NodeLaws.{leaf_text}
use Rattle.rope_leaf.proofs.leaf.Leaf.bytes_without.Goals.{After-as_str-text, After-range_from-back}
use Rattle.rope_leaf.proofs.leaf.Leaf.bytes_without.Goals as goal

text_is : (c : After-as_str-text) → c.self.inside.text ≡ text c.args.self.now
text_is c = sym (leaf_text c.self.inside.text) ∙ ap text c.self.view_is

front_is : (c : After-range_from-back)
    → chars c.range-front.result.now ≡ take c.args.start (text c.args.self.now)
front_is c =
    let bs = c.as_str-text.result.now in
    let from = c.byte_range-from.result.0 in
    let same = c.as_str-text.ensures.chars in
    let at = c.byte_range-from.ensures.from ∙ ap (λ l. byte_len (take c.args.start l)) (sym same) in
    chars_front bs c.range-front.result.now c.self.inside.text c.args.start from c.as_str-text.utf8
    same at c.range-front.ensures.value
    ∙ ap (take c.args.start) (text_is (goal.at.After-range_from-back c).After-as_str-text)

back_is : (c : After-range_from-back)
    → chars c.range_from-back.result.now ≡ drop c.args.end (text c.args.self.now)
back_is c =
    let bs = c.as_str-text.result.now in
    let to = c.byte_range-from.result.1 in
    let same = c.as_str-text.ensures.chars in
    let at = c.byte_range-from.ensures.to ∙ ap (λ l. byte_len (take c.args.end l)) (sym same) in
    chars_back bs c.range_from-back.result.now c.self.inside.text c.args.end to c.as_str-text.utf8
    same at c.range_from-back.ensures.value
    ∙ ap (drop c.args.end) (text_is (goal.at.After-range_from-back c).After-as_str-text)

kept_bytes : (c : After-range_from-back)
    → length c.range-front.result.now + length c.range_from-back.result.now
    ≡ byte_len (removed (text c.args.self.now) c.args.start c.args.end)
kept_bytes c =
    let t = text c.args.self.now in
    let front = byte_len-chars c.range-front.result.now c.range-front.utf8 in
    let back = byte_len-chars c.range_from-back.result.now c.range_from-back.utf8 in
    omega (
      arith,
      front,
      back,
      ap byte_len (front_is c),
      ap byte_len (back_is c),
      IsMeasure-byte_len.joined (take c.args.start t) (drop c.args.end t),
    )

pub returns-clause-bytes : goal.returns-clause-bytes
returns-clause-bytes c = kept_bytes (goal.at.returns-clause-bytes c).After-range_from-back

pub returns-clause-spares : goal.returns-clause-spares
returns-clause-spares c =
    let e = (goal.at.returns-clause-spares c).After-range_from-back in
    let yes = c.if-not-keeps_ends.false in
    record {
      some = omega (arith, kept_bytes e, c.if-kept-eq0.false);
      enough = omega (arith, kept_bytes e);
      first = rw (← front_is e, ← back_is e) (c.keeps_ends.ensures.first yes);
      last = rw (← front_is e, ← back_is e) (c.keeps_ends.ensures.last yes);
    }
