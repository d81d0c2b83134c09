-- One replacement passed: what that does to an index, and how many characters it takes.
use Rattle.std.proofs.Common.{◌≡◌, ℕ, ◌+◌, ◌-◌, ◌≤◌, List, length, arith}
use Rattle.rope_changes.specs.Ops.{Op, len_before, len_after}
use Rattle.rope_changes.specs.Moved.{moved}
use Rattle.rope_changes.specs.Change.{keeping, deleting, inserting}
use Rattle.rope_changes.specs.declared.side.Side.{Side}
use Rattle.rope_changes.proofs.Prefixes.{keeping_before, deleting_before, inserting_before, keeping_after, deleting_after, inserting_after, kept_passed, deleted_passed}

module _ (kept : ℕ) (text : List ℕ) (deleted : ℕ) (ops : List Op) where
  abbrev pub step : List Op
  step = keeping kept (inserting text (deleting deleted ops))

  pub step_before : len_before step ≡ kept + deleted + len_before ops
  step_before =
      omega (
        arith,
        keeping_before kept (inserting text (deleting deleted ops)),
        inserting_before text (deleting deleted ops),
        deleting_before deleted ops,
      )

  pub step_after : len_after step ≡ kept + length text + len_after ops
  step_after =
      omega (
        arith,
        keeping_after kept (inserting text (deleting deleted ops)),
        inserting_after text (deleting deleted ops),
        deleting_after deleted ops,
      )

  -- past the text, and past what is deleted
  pub step_moved : (side : Side) (i : ℕ) → kept ≤ i
      → moved side (inserting text (deleting deleted ops)) (i - kept)
      ≡ length text + moved side (deleting deleted ops) (i - kept)
      → moved side step i ≡ kept + length text + moved side ops (i - kept - deleted)
  step_moved side i le passes =
      omega (
        arith,
        kept_passed side kept i (inserting text (deleting deleted ops)) le,
        passes,
        deleted_passed side deleted (i - kept) ops,
      )
