use Rattle.ropey_c.proofs.FoundChunks.{none_at, fills_at}
use Rattle.ropey_c.proofs.Showing.{chunks_filled}
use Rattle.ropey_c.proofs.pieces.ropey_chunks_from_line_break_with_before.Goals as goal

pub returns-in-None-found-clause-answer : goal.returns-in-None-found-clause-answer
returns-in-None-found-clause-answer c =
    rw c.in-Some.ensures.found
    (none_at c.in-Some.value.now _ _ _ _ _ _ _ _ _ c.in-None-found.ensures)

pub returns-clause-answer : goal.returns-clause-answer
returns-clause-answer c =
    rw c.in-Some.ensures.found
    (fills_at c.in-Some.value.now _ _ _ _ _ _ _ _ _ _ _ _ c.in-Some-found.ensures
    (chunks_filled _ _ _ _ c.fill.ensures))
