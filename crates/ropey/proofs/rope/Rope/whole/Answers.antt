-- Each chunk has a byte.
use Rattle.std.proofs.Common.{◌<◌, ◌^◌, length, subst}
use Rattle.ropey.specs.View.{RopeView}
use Rattle.ropey.proofs.Ropes.{few_leaves}
use Rattle.ropey.proofs.rope.Rope.whole.Goals as goal

pub returns-clause-few : goal.returns-clause-few
returns-clause-few c =
    subst (λ (r : RopeView). length r.chunks < 2 ^ 63) c.self.view_is
    (few_leaves c.self.inside.root c.self.invariant)
