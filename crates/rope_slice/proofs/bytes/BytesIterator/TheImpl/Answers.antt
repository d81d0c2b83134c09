use Rattle.rope_slice.proofs.bytes.BytesIterator.TheImpl.Goals as goal

pub next-tells : goal.next-tells
next-tells g x c = record {
  steps = c.ensures.steps;
  goes = record {
    on = c.ensures.goes.on;
    keeps = c.ensures.goes.keeps;
    rests = c.ensures.goes.rests;
  };
}

pub size_hint-tells : goal.size_hint-tells
size_hint-tells g x c = record { lower = c.ensures.lower; upper = c.ensures.upper }
