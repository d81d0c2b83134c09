use Rattle.std.proofs.Common.{arith}
use Rattle.std.proofs.lemmas.Bool.{eqb-true, eq-eqb}
use Rattle.rope_slice.proofs.Lanes.{first_same, second_same, same_blocks}
use Rattle.rope_slice.proofs.order.are_same_blocks.Goals as goal

pub returns-clause-first : goal.returns-clause-first
returns-clause-first c =
    λ h. first_same c.args.left.now c.args.right.now c.args.at c.args.next 64 (omega arith)
    c.requires.size c.requires.first c.requires.second (eqb-true _ 0 h)

pub returns-clause-second : goal.returns-clause-second
returns-clause-second c =
    λ h. second_same c.args.left.now c.args.right.now c.args.at c.args.next 64 (omega arith)
    c.requires.size c.requires.first c.requires.second (eqb-true _ 0 h)

pub returns-clause-other : goal.returns-clause-other
returns-clause-other c =
    λ e. eq-eqb _ 0 (same_blocks c.args.left.now c.args.right.now c.args.at c.args.next 64
    (omega arith) e)
