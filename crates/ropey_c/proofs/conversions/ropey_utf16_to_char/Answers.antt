use Rattle.ropey_c.proofs.conversions.ropey_utf16_to_char.Goals as goal

pub returns-clause-answer : goal.returns-clause-answer
returns-clause-answer c =
    rw c.in-Some.ensures.found (rw c.try_utf16_cu_to_char.ensures at c.answer.ensures)
