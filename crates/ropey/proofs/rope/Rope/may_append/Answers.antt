use Rattle.std.proofs.Common.{sym}
use Rattle.ropey.proofs.Refusals.{append_error-fits}
use Rattle.ropey.proofs.rope.Rope.may_append.Goals as goal

pub returns-in-None-clause-same : goal.returns-in-None-clause-same
returns-in-None-clause-same c =
    (append_error-fits _ _ c.args.self.now.text c.args.other.now.text
    (sym c.in-None.ensures.error)).0
