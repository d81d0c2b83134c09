-- Marks in the order of a list of their indices.
use Rattle.std.specs.Prelude.{ℕ, ◌-◌, List, map, slice_index_or, if◌then◌else◌, nat_lt}
use Rattle.rope_changes.specs.declared.side.Side.TheVariants.{Before}
use Rattle.rope_history.specs.declared.marks.Mark.{Mark}

-- a mark by its index; outside, a mark of nothing
abbrev pub mark_at : List Mark → ℕ → Mark
mark_at marks i =
    slice_index_or marks i
    (record { id = 0; start = 0; end = 0; start_side = Before; end_side = Before })

-- the marks at these indices
abbrev pub marks_in : List Mark → List ℕ → List Mark
marks_in marks order = map (mark_at marks) order

-- an index after the element at `gap` is removed
abbrev pub closed : ℕ → ℕ → ℕ
closed gap i = if nat_lt gap i then i - 1 else i
