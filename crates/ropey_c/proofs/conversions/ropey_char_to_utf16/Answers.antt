use Rattle.ropey_c.proofs.conversions.ropey_char_to_utf16.Goals as goal

pub returns-clause-answer : goal.returns-clause-answer
returns-clause-answer c =
    rw c.in-Some.ensures.found (rw c.try_char_to_utf16_cu.ensures at c.answer.ensures)
