use Rattle.rope_text.proofs.StepLaws.{steps_of_cursors, starts_counted, steps_undone}
use Rattle.rope_text.proofs.laws.steps_are_cursors.Goals as goal

pub returns-clause-undo : goal.returns-clause-undo
returns-clause-undo g c = steps_undone _

pub returns-clause-cursors : goal.returns-clause-cursors
returns-clause-cursors g c = λ view. steps_of_cursors view

pub returns-clause-starts : goal.returns-clause-starts
returns-clause-starts g c = starts_counted _
