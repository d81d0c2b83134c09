-- Each half of a list is shorter than the list.
use Rattle.std.proofs.Common.{length}
use Rattle.rope_documents.proofs.apply.+apply_all.Given as goal

abbrev pub decreases-apply_all : goal.decreases-apply_all
decreases-apply_all l = length l.changes.now
