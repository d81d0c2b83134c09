use Rattle.rope_slice.proofs.bytes.Bytes.reversed.Goals as goal

pub returns : goal.returns
returns c = c.reverse.ensures
