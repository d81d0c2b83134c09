-- The tree that was built is a rope.
use Rattle.std.proofs.Common.{rules}
use Rattle.ropey.proofs.Ropes.{rope_of}
use Rattle.ropey.proofs.rope_builder.RopeBuilder.finish.Goals as goal

pub returns-clause-kept : goal.returns-clause-kept
returns-clause-kept c =
    (search rules, rope_of c.in_ok-root.root c.in_ok-root.ensures.tree, search rules)
