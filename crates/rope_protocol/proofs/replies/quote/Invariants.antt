use Rattle.std.proofs.Common.{◌≡◌, ◌++◌, codes}
use Rattle.std.specs.List.{flat_map}
use Rattle.std.specs.String.{string_bytes}
use Rattle.rope_protocol.specs.ReplyLine.{quoted_char}
use Rattle.rope_protocol.proofs.replies.quote.Given as goal

abbrev pub invariant-loop-c : goal.invariant-loop-c
invariant-loop-c l = string_bytes l.out ≡ string_bytes l.fn.out
    ++ (codes "\"" ++ flat_map quoted_char l.yielded)
