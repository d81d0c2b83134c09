use Rattle.std.proofs.Common.{◌-◌, ℕ, arith}
use Rattle.rope_text.proofs.BitLaws.{ones_more}
use Rattle.rope_text.proofs.bits.ones_between.Goals as goal

pub returns : goal.returns
returns c =
    let from = c.args.from in
    let size : ℕ = c.args.to - from in
    omega (
      arith,
      ones_more c.args.mask from size c.args.to (omega (arith, c.requires.from)),
      c.ones_before.ensures,
    )
