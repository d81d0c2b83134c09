-- The indices that were seen are at most `most`.
use Rattle.std.proofs.Common.{ℕ, ◌<◌, ◌≤◌}
use Rattle.std.specs.Prelude.{slice_index_or}
use Rattle.ropey_c.proofs.change_sets.are_within.Given as goal

abbrev pub invariant-loop-char_idx : goal.invariant-loop-char_idx
invariant-loop-char_idx l = (k d : ℕ) → k < l.char_idx-index →
    slice_index_or l.char_indices k d ≤ l.most
