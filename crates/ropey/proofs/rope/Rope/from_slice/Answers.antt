-- The tree of a slice is a rope.
use Rattle.ropey.proofs.Ropes.{rope_of}
use Rattle.ropey.proofs.rope.Rope.from_slice.Goals as goal

pub returns-in_ok-root-in-InTree-clause-kept : goal.returns-in_ok-root-in-InTree-clause-kept
returns-in_ok-root-in-InTree-clause-kept c =
    rope_of c.in_ok-root-in-InTree.root c.in_ok-root-in-InTree.ensures.tree
