-- The replacements of a change that lie before an index.
use Rattle.std.specs.Prelude.{◌≡◌, ℕ, zero, suc, ◌+◌, ◌-◌, ◌<◌, ◌≤◌, List, [], ◌∷◌, length, drop}
use Rattle.rope_changes.specs.Ops.{Op, len_before, len_after}
use Rattle.rope_changes.specs.Change.{Change, keeping, inserting, deleting, ops_of, ops, before, after}
use Rattle.rope_changes.specs.Moved.{moved}
use Rattle.rope_changes.specs.declared.map.Passed.{Passed}
use Rattle.rope_changes.specs.declared.replacements.Lengths.{Lengths}
use Rattle.rope_changes.specs.declared.side.Side.{Side}

-- the operations of a replacement that has these lengths and this text, and then others
abbrev pub step_of : Lengths → List ℕ → List Op → List Op
step_of l text rest = keeping l.kept (inserting text (deleting l.deleted rest))

-- the index lies after what is passed
pub record Reaches (p : Passed) (i : ℕ) : Type 0 where
  pub le : p.end ≤ i
  pub more : 1 ≤ p.count → p.end < i

-- an index after what is passed moves through the replacements that are left
pub record IsPassed (c : Change) (p : Passed) : Type 0 where
  pub within : p.count ≤ length c.edits
  pub moves : (side : Side) (i : ℕ) → Reaches p i
      → moved side (ops c) i ≡ p.new_end + moved side (ops_of (drop p.count c.edits) c.rest)
      (i - p.end)
  pub before_is : p.end + len_before (ops_of (drop p.count c.edits) c.rest) ≡ before c
  pub after_is : p.new_end + len_after (ops_of (drop p.count c.edits) c.rest) ≡ after c

-- an index between what is passed and the next replacement moves as far as what is passed does
pub record IsBetween (c : Change) (p : Passed) : Type 0 where
  pub within : p.start ≤ before c + 1
  pub moves : (side : Side) (i : ℕ) → p.end < i → i < p.start
      → moved side (ops c) i ≡ p.new_end + (i - p.end)

-- a list whose first elements are mapped
abbrev pub mapped : (ℕ → ℕ) → ℕ → List ℕ → List ℕ
mapped f zero xs = xs
mapped f (suc i) [] = []
mapped f (suc i) (x ∷ xs) = f x ∷ mapped f i xs
