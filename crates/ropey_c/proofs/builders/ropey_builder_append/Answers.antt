use Rattle.ropey_c.proofs.builders.ropey_builder_append.Goals as goal

pub returns : goal.returns
returns c =
    rw (c.in-Some.ensures.taken, c.put.ensures, ← c.deref_mut.ensures.value) c.append-status.ensures
