-- Searches counted by an edit.
use Rattle.std.specs.Prelude.{ℕ, ◌+◌, ◌≤◌}
use Rattle.rope_leaf.specs.declared.editor.Editor.{Editor}

-- searches entered at most n nodes and compared at most m totals; no count fell
pub record HasSearched (n m : ℕ) (old new : Editor) : Type 0 where
  pub rise : old.nodes ≤ new.nodes
  pub nodes : new.nodes ≤ old.nodes + n
  pub compares : new.compares ≤ old.compares + m
