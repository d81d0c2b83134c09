use Rattle.ropey_c.proofs.positions.ropey_char_to_position.Goals as goal

pub returns-clause-answer : goal.returns-clause-answer
returns-clause-answer c =
    rw c.in-Some.ensures.found (rw c.try_char_to_position.ensures at c.answer_place.ensures)
