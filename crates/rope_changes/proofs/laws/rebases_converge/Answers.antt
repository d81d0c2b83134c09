use Rattle.std.proofs.Common.{sym, ◌∙◌, arith}
use Rattle.rope_changes.specs.Ops.{run}
use Rattle.rope_changes.specs.Combined.{rebase_first, rebase_second}
use Rattle.rope_changes.proofs.NormalLaws.{normal_runs}
use Rattle.rope_changes.proofs.ChangeLaws.{converge}
use Rattle.rope_changes.proofs.laws.rebases_converge.Goals as goal

pub returns : goal.returns
returns c = λ a b text fits fits'.
    normal_runs (rebase_second a b) (run a text)
    ∙ converge a b text (omega arith) (omega arith)
    ∙ sym (normal_runs (rebase_first a b) (run b text))
