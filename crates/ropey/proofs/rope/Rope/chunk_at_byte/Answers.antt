use Rattle.ropey.proofs.rope.Rope.chunk_at_byte.Goals as goal

pub returns : goal.returns
returns c = rw c.whole.ensures.content at c.chunk_at_byte.ensures
