use Rattle.rope_files.proofs.Kept.{texts_are_told, written_texts_are_read, never_refused}
use Rattle.rope_files.proofs.laws.files_keep_texts.Goals as goal

pub returns-clause-told : goal.returns-clause-told
returns-clause-told c = texts_are_told

pub returns-clause-read : goal.returns-clause-read
returns-clause-read c = written_texts_are_read

pub returns-clause-texts : goal.returns-clause-texts
returns-clause-texts c = never_refused
