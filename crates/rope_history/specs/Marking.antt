-- Marks of a text, and how they move with its changes.
use Rattle.std.specs.Prelude.{◌&&◌, Bool, ℕ, ◌<◌, ◌≤◌, List, map, max, nat_eq, nat_le}
use Rattle.std.specs.List.{All, IsDistinct}
use Rattle.std.specs.List.Sorted.{IsNonDecreasingBy}
use Rattle.rope_changes.specs.Ops.{Op}
use Rattle.rope_changes.specs.Moved.{moved}
use Rattle.rope_history.specs.declared.marks.Mark.{Mark}

-- marks, the length of their text, and the number of the next mark that is added
pub record Marking : Type 0 where
  pub marks : List Mark
  pub len : ℕ
  pub next_id : ℕ

abbrev pub start_of : Mark → ℕ
start_of m = m.start

abbrev pub id_of : Mark → ℕ
id_of m = m.id

-- a mark after a change: each end where the change moves it, but the end at the start if it would
-- come before it
abbrev pub moved_mark : List Op → Mark → Mark
moved_mark ops m =
    let start = moved m.start_side ops m.start in
    record {
      id = m.id;
      start = start;
      end = max (moved m.end_side ops m.end) start;
      start_side = m.start_side;
      end_side = m.end_side;
    }

-- a mark starts at or before the end of a range, and ends at or after its start
abbrev pub touches : ℕ → ℕ → Mark → Bool
touches start end m = nat_le m.start end && nat_le start m.end

-- a range of a text of this length
pub record IsWithin (len : ℕ) (m : Mark) : Type 0 where
  pub ordered : m.start ≤ m.end
  pub within : m.end ≤ len

-- the marks lie in the text, in order of their starts; their numbers differ, and are below the next
-- one
pub record IsMarking (m : Marking) : Type 0 where
  pub within : All (IsWithin m.len) m.marks
  pub in_order : IsNonDecreasingBy start_of m.marks
  pub distinct : IsDistinct nat_eq (map id_of m.marks)
  pub numbered : All (λ x. x.id < m.next_id) m.marks
