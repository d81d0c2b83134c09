use Rattle.std.proofs.Common.{◌≡◌, ◌++◌, codes, length, take}
use Rattle.std.specs.Fmt.{decimal}
use Rattle.std.specs.List.{flat_map}
use Rattle.std.specs.Str.{chars}
use Rattle.std.specs.String.{string_bytes}
use Rattle.rope_protocol.specs.ReplyLine.{quoted}
use Rattle.rope_protocol.proofs.replies.write_texts.Given as goal

abbrev pub invariant-loop-text : goal.invariant-loop-text
invariant-loop-text l = string_bytes l.out ≡ string_bytes l.fn.out
    ++ (decimal (length l.texts) ++ flat_map (λ s. codes " " ++ quoted (chars (string_bytes s)))
    (take l.text-index l.texts))
