-- Bounds on the steps of a lookup in a tree.
use Rattle.std.specs.Prelude.{◌≡◌, ℕ, ◌+◌, ◌*◌, ◌^◌, ◌≤◌, ◌<◌}
use Rattle.rope_text.specs.declared.steps.Steps.{Steps}

-- the counts have room for a lookup in a tree of this height
pub record HaveRoom (height : ℕ) (steps : Steps) : Type 0 where
  pub nodes : steps.nodes + height + 1 < 2 ^ 64
  pub compares : steps.compares + 5 * height < 2 ^ 64

-- at most one node on each level was entered, at most five totals were compared in each inner node,
-- and no node was made
pub record LooksUp (height : ℕ) (old new : Steps) : Type 0 where
  pub nodes : new.nodes ≤ old.nodes + height + 1
  pub compares : new.compares ≤ old.compares + 5 * height
  pub made : new.made ≡ old.made

-- one node on each level was entered, and at least one total was compared in each inner node
pub record WentDown (height : ℕ) (old new : Steps) : Type 0 where
  pub nodes : new.nodes ≡ old.nodes + height + 1
  pub compares : old.compares + height ≤ new.compares
