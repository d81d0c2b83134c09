use Rattle.ropey.proofs.rope.Rope.line.Goals as goal

pub returns : goal.returns
returns c = rw c.whole.ensures.content at c.line.ensures
