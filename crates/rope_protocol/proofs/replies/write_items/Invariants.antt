use Rattle.std.proofs.Common.{◌≡◌, ◌++◌, codes, length, take}
use Rattle.std.specs.Fmt.{decimal}
use Rattle.std.specs.List.{flat_map}
use Rattle.std.specs.String.{string_bytes}
use Rattle.rope_protocol.specs.ReplyLine.{item_words}
use Rattle.rope_protocol.proofs.replies.write_items.Given as goal

abbrev pub invariant-loop-item : goal.invariant-loop-item
invariant-loop-item l = string_bytes l.out ≡ string_bytes l.fn.out
    ++ (decimal (length l.items) ++ flat_map (λ item. codes " " ++ item_words item)
    (take l.item-index l.items))
