-- Each tree is a rope.
use Rattle.std.proofs.Common.{rules}
use Rattle.ropey.proofs.Ropes.{rope_of}
use Rattle.ropey.proofs.rope.Rope.remove_by.Goals as goal

pub returns-in_err-removed-clause-kept : goal.returns-in_err-removed-clause-kept
returns-in_err-removed-clause-kept g c =
    (search rules, search rules, rope_of c.remove-removed.new.root c.remove-removed.ensures.tree)

pub returns-clause-kept : goal.returns-clause-kept
returns-clause-kept g c =
    (search rules, search rules, rope_of c.remove-removed.new.root c.remove-removed.ensures.tree)
