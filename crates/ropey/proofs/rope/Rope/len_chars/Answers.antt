-- The tree is a rope.
use Rattle.std.proofs.Common.{subst}
use Rattle.ropey.specs.View.{IsRope}
use Rattle.ropey.proofs.Ropes.{rope_of}
use Rattle.ropey.proofs.rope.Rope.len_chars.Goals as goal

pub returns-clause-kept : goal.returns-clause-kept
returns-clause-kept c = subst IsRope c.self.view_is (rope_of c.self.inside.root c.self.invariant)
