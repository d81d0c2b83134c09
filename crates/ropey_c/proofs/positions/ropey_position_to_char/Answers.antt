use Rattle.ropey_c.proofs.positions.ropey_position_to_char.Goals as goal

pub returns-clause-answer : goal.returns-clause-answer
returns-clause-answer c =
    rw c.in-Some.ensures.found (rw c.try_position_to_char-found.ensures at c.answer.ensures)
