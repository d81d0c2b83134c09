use Rattle.std.proofs.Common.{◌+◌, get_or, arith}
use Rattle.std.specs.List.{range_with_len}
use Rattle.std.proofs.lemmas.List.FromFn.{length-range_with_len}
use Rattle.rope_text.specs.Runs.{ascii_mark_at}
use Rattle.rope_text.proofs.LaneSums.{ones_of}
use Rattle.rope_text.proofs.Marks.{loaded, loaded_from}
use Rattle.rope_text.proofs.lanes.ones_from.Goals as goal

pub returns : goal.returns
returns c =
    let s = c.args.bytes.now in
    let i = c.args.at in
    ones_of (ascii_mark_at c.args.mark s) i
    (c.ones.ensures (range_with_len i 16) (λ k. get_or s k 0) (λ k. get_or s (k + 1) 0)
    (length-range_with_len i 16) (λ k. (c.type_inv.bytes k).fits)
    (loaded s i 16 (omega arith)) (loaded_from s i 1 16 (omega arith)))
