-- The counts that lookups and edits leave.
use Rattle.std.specs.Prelude.{◌≡◌, ℕ, ◌+◌, ◌*◌, ◌/◌, ◌<◌, ◌≤◌}
use Rattle.rope_text.specs.declared.steps.Steps.{Steps}

-- at most one node a level was entered, at most five totals were compared in each inner one, and no
-- node was made
pub record IsLookUp (depth : ℕ) (steps : Steps) : Type 0 where
  pub nodes : steps.nodes ≤ depth + 1
  pub compares : steps.compares ≤ 5 * depth
  pub made : steps.made ≡ 0

-- one node a level was entered, and at least one total was compared in each inner one
pub record WentDown (depth : ℕ) (steps : Steps) : Type 0 where
  pub nodes : steps.nodes ≡ depth + 1
  pub compares : depth ≤ steps.compares

-- no node was entered, and no total was compared
pub record StayedOut (steps : Steps) : Type 0 where
  pub nodes : steps.nodes ≡ 0
  pub compares : steps.compares ≡ 0

-- a lookup at an index of a text that ends at `end`: it descends inside the text, and stays out at
-- the end
pub record IsLookUpAt (idx end depth : ℕ) (steps : Steps) : Type 0 where
  pub bounds : IsLookUp depth steps
  pub inside : idx < end → WentDown depth steps
  pub at_end : idx ≡ end → StayedOut steps

-- a lookup at a line's number: the first line starts where the text does
pub record IsLineLookUp (line lines depth : ℕ) (steps : Steps) : Type 0 where
  pub bounds : IsLookUp depth steps
  pub inside : 0 < line → line < lines → WentDown depth steps
  pub at_start : line ≡ 0 → StayedOut steps
  pub at_end : line ≡ lines → StayedOut steps

-- the maximum number of nodes that an edit makes, in a rope of this depth; for an append, the
-- greater depth of the two
abbrev pub insert_nodes : ℕ → ℕ
insert_nodes depth = 3 * depth + 5

-- for a text of any length: two for each 981 of its bytes, and those of the path
abbrev pub long_insert_nodes : ℕ → ℕ → ℕ
long_insert_nodes bytes depth = 2 * (bytes / 981) + 298 * depth + 603

abbrev pub removal_nodes : ℕ → ℕ
removal_nodes depth = 17 * depth + 12

abbrev pub split_nodes : ℕ → ℕ
split_nodes depth = 12 * depth + 2

abbrev pub append_nodes : ℕ → ℕ
append_nodes depth = 16 * depth + 11

-- the counts of a call that enters no node
abbrev pub no_steps : Steps
no_steps = record { nodes = 0; compares = 0; made = 0 }

-- the counts of an edit of a rope of this depth, also when it fails: it made at most `most` nodes,
-- and its searches entered at most 7 nodes a level and 5 more, and compared at most 37 totals a
-- level
pub record IsEditCount (most depth : ℕ) (steps : Steps) : Type 0 where
  pub made : steps.made ≤ most
  pub nodes : steps.nodes ≤ 7 * depth + 5
  pub compares : steps.compares ≤ 37 * depth

-- the counts of an insert of a text of any length, whose new tree has a depth of its own
pub record IsLongInsertCount (bytes depth : ℕ) (steps : Steps) : Type 0 where
  pub made : steps.made ≤ long_insert_nodes bytes depth
  pub nodes : steps.nodes ≤ 37 * depth + 149
  pub compares : steps.compares ≤ 185 * depth + 720
