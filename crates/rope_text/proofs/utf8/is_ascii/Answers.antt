use Rattle.std.proofs.Common.{ℕ, ◌-◌, leb, arith, eqb-true}
use Rattle.std.proofs.lemmas.List.FromFn.{length-range_with_len}
use Rattle.rope_text.proofs.Marks.{compared_left, none_set, loaded}
use Rattle.rope_text.proofs.Utf8Laws.{ascii_block, block_more}
use Rattle.rope_text.proofs.utf8.is_ascii.Goals as goal

pub returns : goal.returns
returns c = λ n ascii over before.
    let s = c.args.bytes.now in
    let i : ℕ = c.args.at - 3 in
    let long = length-range_with_len i 64 in
    let high = compared_left leb 128 64 long (loaded s i 64 (omega arith)) in
    block_more s c.args.at n 61 c.requires.from over before
    (λ k from to. ascii_block s i (none_set (omega (arith, long)) high (eqb-true _ _ ascii)) k
    (omega arith) (omega arith))
