use Rattle.std.proofs.Common.{◌≡◌, ◌∙◌, ◌++◌, ap, codes, length, lit<, append_assoc}
use Rattle.std.specs.Fmt.{decimal}
use Rattle.std.specs.String.{string_bytes}
use Rattle.rope_protocol.specs.ReplyLine.{item_words}
use Rattle.rope_protocol.proofs.Written.{written_next}
use Rattle.rope_protocol.proofs.replies.write_items.Goals as goal

pub loop-item-preserved : goal.loop-item-preserved
loop-item-preserved c =
    let item = c.item-item.result in
    let spaced : string_bytes c.push.new.self ≡ string_bytes c.loop-item.out ++ codes " " =
    c.in_ok-push.ensures.bytes
    ∙ ap (λ xs. string_bytes c.loop-item.out ++ xs) (c.in_ok-push.ensures.ascii (lit< tt)) in
    c.in_ok-write_item.ensures ∙ ap (λ xs. xs ++ item_words item) spaced
    ∙ append_assoc (string_bytes c.loop-item.out) (codes " ") (item_words item)
    ∙ ap (λ xs. xs ++ (codes " " ++ item_words item)) c.loop-item.invariant
    ∙ written_next (λ found. codes " " ++ item_words found) (string_bytes c.args.out.now)
    (decimal (length c.args.items.now)) c.args.items.now c.loop-item.item-index item
    c.loop-item-test.true c.item-item.is
