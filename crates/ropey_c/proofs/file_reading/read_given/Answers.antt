use Rattle.ropey_c.proofs.file_reading.read_given.Goals as goal

pub returns-clause-answer : goal.returns-clause-answer
returns-clause-answer c =
    (c.read_any_watched-read.result.1.rest.now, c.read_any_watched-read.ensures.answer)
