-- What marks and cursors over them show.
use Rattle.std.specs.Prelude.{ℕ, ◌<◌, ◌≤◌, List, length, drop, filter}
use Rattle.std.specs.List.{All, Contains}
use Rattle.std.specs.List.Sorted.{IsNonDecreasingBy}
use Rattle.rope_history.specs.declared.marks.Mark.{Mark}
use Rattle.rope_history.specs.declared.marks.Marks.TheInside as marks
use Rattle.rope_history.specs.declared.marks.Within.TheInside as within
use Rattle.rope_history.specs.Marking.{Marking, IsMarking, start_of, id_of, touches}
use Rattle.rope_history.specs.MarkLists.{marks_in}

-- the marks in order of their starts
abbrev pub marking_of : marks.Inside → Marking
marking_of a =
    record { marks = marks_in a.marks.items a.order.items; len = a.len; next_id = a.next_id }

-- each index of these marks is in the order
abbrev pub Covers : List Mark → List ℕ → Type 0
Covers marks order = (i : ℕ) → i < length marks → Contains order i

-- the marks are in order of their numbers, and the order has each index of them and no other
pub record IsOrdered (marks : List Mark) (order : List ℕ) (len next_id : ℕ) : Type 0 where
  pub is : IsMarking (record { marks = marks_in marks order; len = len; next_id = next_id })
  pub by_id : IsNonDecreasingBy id_of marks
  pub within : All (λ i. i < length marks) order
  pub covers : Covers marks order

abbrev pub KeepsMarking : marks.Inside → Type 0
KeepsMarking a = IsOrdered a.marks.items a.order.items a.len a.next_id

-- the marks that are left
abbrev pub left_of : within.Inside → List Mark
left_of a = filter (touches a.start a.end) (drop a.index (marks_in a.marks.now a.order.now))

pub record IsCursor (a : within.Inside) : Type 0 where
  pub within : a.index ≤ length a.order.now
  pub in_range : All (λ i. i < length a.marks.now) a.order.now
  pub in_order : IsNonDecreasingBy start_of (marks_in a.marks.now a.order.now)
