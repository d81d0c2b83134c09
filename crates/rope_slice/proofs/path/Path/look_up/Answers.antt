use Rattle.std.proofs.Common.{arith}
use Rattle.std.specs.List.{concat}
use Rattle.rope_text.proofs.Measures.{IsMeasure-byte_len}
use Rattle.rope_slice.proofs.path.Path.look_up.Goals as goal

pub returns-then-matches-clause-ends : goal.returns-then-matches-clause-ends
returns-then-matches-clause-ends c =
    omega (
      arith,
      c.at-path.ensures.holds.past,
      IsMeasure-byte_len.joined (concat c.at-path.result.0.before) c.at-path.result.0.here,
    )

pub returns-clause-ends : goal.returns-clause-ends
returns-clause-ends c =
    omega (
      arith,
      c.at.ensures.holds.past,
      IsMeasure-byte_len.joined (concat c.at.result.0.before)
          c.at.result.0.here,
    )
