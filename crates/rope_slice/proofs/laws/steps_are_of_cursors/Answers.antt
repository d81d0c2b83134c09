use Rattle.rope_text.proofs.StepLaws.{steps_undone, steps_of_cursors, starts_counted}
use Rattle.rope_slice.proofs.laws.steps_are_of_cursors.Goals as goal

pub returns-clause-undo : goal.returns-clause-undo
returns-clause-undo c = steps_undone _

pub returns-clause-steps : goal.returns-clause-steps
returns-clause-steps c = steps_of_cursors _

pub returns-clause-starts : goal.returns-clause-starts
returns-clause-starts c = starts_counted _

pub returns-clause-chunks_undo : goal.returns-clause-chunks_undo
returns-clause-chunks_undo c = steps_undone _

pub returns-clause-chunks_step : goal.returns-clause-chunks_step
returns-clause-chunks_step c = steps_of_cursors _

pub returns-clause-chunks_start : goal.returns-clause-chunks_start
returns-clause-chunks_start c = starts_counted _

pub returns-clause-lines_undo : goal.returns-clause-lines_undo
returns-clause-lines_undo c = steps_undone _

pub returns-clause-lines_step : goal.returns-clause-lines_step
returns-clause-lines_step c = steps_of_cursors _

pub returns-clause-lines_start : goal.returns-clause-lines_start
returns-clause-lines_start c = starts_counted _
