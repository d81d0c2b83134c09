use Rattle.rope_slice.proofs.chunks.ChunksIterator.TheImpl.Goals as goal

pub next-tells : goal.next-tells
next-tells g x c = record {
  steps = c.ensures.steps;
  goes = record {
    on = c.ensures.goes.on;
    keeps = c.ensures.goes.keeps;
    rests = c.ensures.goes.rests;
  };
}
