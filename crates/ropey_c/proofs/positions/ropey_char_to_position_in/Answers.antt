use Rattle.ropey_c.proofs.positions.ropey_char_to_position_in.Goals as goal

pub returns-clause-answer : goal.returns-clause-answer
returns-clause-answer c =
    rw (c.in-Some.ensures.found, ← c.in-Some-given_encoding.ensures)
    (rw c.try_char_to_position_in.ensures at c.answer_place.ensures)
