use Rattle.std.proofs.Common.{ℕ, ◌+◌, ◌-◌, get_or, arith}
use Rattle.std.specs.List.{range_with_len}
use Rattle.std.proofs.lemmas.List.FromFn.{length-range_with_len}
use Rattle.rope_text.specs.Utf8.{fault_at}
use Rattle.rope_text.proofs.Marks.{loaded}
use Rattle.rope_text.proofs.Utf8Laws.{at_none, block_more, loaded_at}
use Rattle.rope_text.proofs.utf8.block_has_fault.Goals as goal

pub returns : goal.returns
returns c = λ n fine over before.
    let s = c.args.bytes.now in
    let at = c.args.at in
    let i : ℕ = at - 3 in
    let none =
    c.has_fault.ensures (range_with_len i 64) (λ k. get_or s k 0) (λ k. get_or s (k + 1) 0)
    (λ k. get_or s (k + 2) 0) (λ k. get_or s (k + 3) 0) (length-range_with_len i 64)
    (λ k. (c.type_inv.bytes (k + 2)).fits) (λ k. (c.type_inv.bytes (k + 3)).fits)
    (loaded s i 64 (omega arith)) (loaded_at s i 1 (at - 2) 64 (omega arith) (omega arith))
    (loaded_at s i 2 (at - 1) 64 (omega arith) (omega arith))
    (loaded_at s i 3 at 64 (omega arith) (omega arith)) fine in
    block_more s at n 64 c.requires.from over before
    (λ k from to. at_none (fault_at s) i 64 none k (omega arith) (omega arith))
