use Rattle.ropey_c.proofs.conversions.ropey_char_to_line.Goals as goal

pub returns-clause-answer : goal.returns-clause-answer
returns-clause-answer c =
    rw c.in-Some.ensures.found (rw c.try_char_to_line.ensures at c.answer.ensures)
