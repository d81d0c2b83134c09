use Rattle.std.proofs.Common.{◌≡◌, ◌∙◌, ◌++◌, ap, codes, length, lit<, append_assoc}
use Rattle.std.specs.Fmt.{decimal}
use Rattle.std.specs.Str.{chars}
use Rattle.std.specs.String.{string_bytes}
use Rattle.rope_protocol.specs.ReplyLine.{quoted}
use Rattle.rope_protocol.proofs.Written.{written_next}
use Rattle.rope_protocol.proofs.replies.write_texts.Goals as goal

pub loop-text-preserved : goal.loop-text-preserved
loop-text-preserved c =
    let text = string_bytes c.text-item.result in
    let spaced : string_bytes c.push.new.self ≡ string_bytes c.loop-text.out ++ codes " " =
    c.in_ok-push.ensures.bytes
    ∙ ap (λ xs. string_bytes c.loop-text.out ++ xs) (c.in_ok-push.ensures.ascii (lit< tt)) in
    let quoted_is : string_bytes c.quote.new.out ≡ string_bytes c.push.new.self
    ++ quoted (chars text) = rw c.as_str.ensures.value at c.in_ok-quote.ensures in
    quoted_is ∙ ap (λ xs. xs ++ quoted (chars text)) spaced
    ∙ append_assoc (string_bytes c.loop-text.out) (codes " ") (quoted (chars text))
    ∙ ap (λ xs. xs ++ (codes " " ++ quoted (chars text))) c.loop-text.invariant
    ∙ written_next (λ s. codes " " ++ quoted (chars (string_bytes s))) (string_bytes c.args.out.now)
    (decimal (length c.args.texts.now)) c.args.texts.now c.loop-text.text-index c.text-item.result
    c.loop-text-test.true c.text-item.is
