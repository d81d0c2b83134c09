use Rattle.std.proofs.lemmas.Result.{IfOk-weaker}
use Rattle.rope_join.specs.Cut.{IsSides}
use Rattle.rope_join.proofs.Gaps.{sides_joined}
use Rattle.rope_join.proofs.gap.join_sides.Goals as goal

pub returns-clause-sides : goal.returns-clause-sides
returns-clause-sides c =
    IfOk-weaker c.join.result _ (IsSides c.args.left.now c.args.end c.args.right.now c.args.start)
    (λ node joined.
    sides_joined c.args.left.now c.args.right.now c.in_ok-first.first c.in_ok-second.second node
    c.args.end c.args.start c.requires.end c.in_ok-first.ensures.front c.in_ok-second.ensures.back
    joined) c.join.ensures.join
