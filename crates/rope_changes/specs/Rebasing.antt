-- A change that is rebased over another one, run by run.
use Rattle.std.specs.Prelude.{◌≡◌, ◌+◌, ◌<◌, List, ◌++◌, length}
use Rattle.rope_changes.specs.Ops.{Op, len_before}
use Rattle.rope_changes.specs.Normal.{carried}
use Rattle.rope_changes.specs.Runs.{run_ops, IsRun}
use Rattle.rope_changes.specs.declared.run.Run.{Run}
use Rattle.rope_changes.specs.declared.side.Side.{Side}

-- the first run of the rebased change, and what is left of both
pub record Rebases (side : Side) (own over : List Op) (run : Run)
    (own' over' : List Op) : Type 0 where
  pub splits : carried side own over ≡ run_ops run ++ carried side own' over'
  pub meet : len_before own' ≡ len_before over'
  pub some : IsRun run
  pub shorter : length own' + length over' < length own + length over
