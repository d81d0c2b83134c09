-- Two changes that are made into one, run by run.
use Rattle.std.specs.Prelude.{◌≡◌, ◌+◌, ◌<◌, List, ◌++◌, length}
use Rattle.rope_changes.specs.Ops.{Op, len_before, len_after}
use Rattle.rope_changes.specs.Combined.{compose}
use Rattle.rope_changes.specs.Normal.{normal_form}

-- what is made and the composition of what is left stay the same change, and fewer operations are
-- left
pub record Composes (made first second new first' second' : List Op) : Type 0 where
  pub composed : normal_form (new ++ compose first' second')
      ≡ normal_form (made ++ compose first second)
  pub meet : len_after first' ≡ len_before second'
  pub normal : normal_form made ≡ made → normal_form new ≡ new
  pub shorter : length first' + length second' < length first + length second
