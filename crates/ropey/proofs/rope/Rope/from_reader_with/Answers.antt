-- A watched reader gives the reader's bytes.
use Rattle.ropey.proofs.rope.Rope.from_reader_with.Goals as goal

pub returns-clause-answer : goal.returns-clause-answer
returns-clause-answer g c =
    let answer = rw c.new.ensures.inner at c.from_watched_with.ensures.answer in (_, _, answer)
