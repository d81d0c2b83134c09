-- Properties of the definitions, as statements that the functions of `laws` prove.
use Rattle.std.specs.Prelude.{Option, ◌≡◌, ℕ, ◌+◌, ◌-◌, ◌<◌, ◌≤◌, ◌↔◌, Bool, true, List, ◌++◌, length, take, drop, Some, None}
use Rattle.std.specs.List.{slice_range}
use Rattle.std.specs.Option.{option_map}
use Rattle.rope_text.specs.declared.line_breaks.LineBreaks.{LineBreaks}
use Rattle.rope_text.specs.Text.{byte_len, greatest}
use Rattle.rope_text.specs.Lines.{line_start, line_count}
use Rattle.rope_text.specs.Conversions.{byte_to_char, utf16_to_char, char_to_byte, char_to_utf16, char_to_line}
use Rattle.rope_text.specs.Cutting.{clip}
use Rattle.rope_text.specs.Cursor.{Cursor, next_item, after_next, prev_item, after_prev, reversed, size_left}
use Rattle.rope_text.specs.Sides.{Sides, at_start, at_place, ahead, passed, turned, cursor_of, StepsAhead, StepsBack}
use Rattle.rope_text.specs.Edit.{inserted, removed, byte_range_error}
use Rattle.rope_text.specs.TextInfo.{info_of, info_sum, shared_breaks, less_breaks}
use Rattle.rope_text.specs.Position.{char_to_column, position_to_char}

-- i is the greatest number up to n that passes the test, or 0
pub record IsGreatest (test : ℕ → Bool) (n i : ℕ) : Type 0 where
  pub within : i ≤ n
  pub passes : test i ≡ true
  pub greatest : (j : ℕ) → j ≤ n → test j ≡ true → j ≤ i

abbrev pub GreatestIsGreatest : Type 0
GreatestIsGreatest = (test : ℕ → Bool) (n : ℕ) → test 0 ≡ true → IsGreatest test n (greatest test n)

-- the byte, or the code unit, at which a character begins converts back to that character
abbrev pub CharsRoundTrip : Type 0
CharsRoundTrip = (text : List ℕ) (i : ℕ) → i ≤ length text
    → (byte_to_char text (char_to_byte text i) ≡ i)
    × (utf16_to_char text (char_to_utf16 text i) ≡ i)

-- the counts of joined texts are the sums, less one line break if CR meets LF and CR is a break
abbrev pub CountsJoin : Type 0
CountsJoin = (breaks : LineBreaks) (s t : List ℕ)
    → info_of breaks (s ++ t) ≡ less_breaks (info_sum (info_of breaks s) (info_of breaks t))
    (shared_breaks breaks s t)

-- the first character of a line is on that line
abbrev pub LinesRoundTrip : Type 0
LinesRoundTrip = (breaks : LineBreaks) (text : List ℕ) (l : ℕ) → l < line_count breaks text
    → char_to_line breaks text (line_start breaks text l) ≡ l

-- a character's position converts back to that character
abbrev pub PositionsRoundTrip : Type 0
PositionsRoundTrip = (breaks : LineBreaks) (text : List ℕ) (i : ℕ) → i ≤ length text
    → position_to_char breaks text (char_to_line breaks text i) (char_to_column breaks text i) ≡ i

-- a slice of a slice is the slice at the added offsets, text and chunks
abbrev pub SlicesNest : Type 0
SlicesNest = (text : List ℕ) (chunks : List (List ℕ)) (a b c d : ℕ) → d ≤ b - a
    → (slice_range (slice_range text a b) c d ≡ slice_range text (a + c) (a + d))
    × (clip (clip chunks a b) c d ≡ clip chunks (a + c) (a + d))

-- the characters of the bytes from a up to b
abbrev pub part_of_bytes : List ℕ → ℕ → ℕ → List ℕ
part_of_bytes text a b = slice_range text (byte_to_char text a) (byte_to_char text b)

abbrev pub chunks_of_bytes : List ℕ → List (List ℕ) → ℕ → ℕ → List (List ℕ)
chunks_of_bytes text chunks a b = clip chunks (byte_to_char text a) (byte_to_char text b)

-- a byte slice of a byte slice has the length of its range, is the slice at the added offsets, text
-- and chunks, and is refused exactly where that one is
abbrev pub ByteSlicesNest : Type 0
ByteSlicesNest = (text : List ℕ) (chunks : List (List ℕ)) (a b : ℕ)
    → byte_range_error text (Some a) (Some b) ≡ None
    → (byte_len (part_of_bytes text a b) ≡ b - a)
    × ((c d : ℕ) → d ≤ b - a
    → ((byte_range_error (part_of_bytes text a b) (Some c) (Some d) ≡ None) ↔
    (byte_range_error text (Some (a + c)) (Some (a + d)) ≡ None))
    × (c ≤ d → (part_of_bytes (part_of_bytes text a b) c d ≡ part_of_bytes text (a + c) (a + d))
    × (chunks_of_bytes (part_of_bytes text a b) (chunks_of_bytes text chunks a b) c d
    ≡ chunks_of_bytes text chunks (a + c) (a + d))))

-- an insert followed by its removal, and a split followed by an append, give back the text
abbrev pub EditsUndo : Type 0
EditsUndo = (text : List ℕ) (i : ℕ) (new : List ℕ) → i ≤ length text
    → (removed (inserted text i new) i (i + length new) ≡ text)
    × (take i text ++ drop i text ≡ text)

-- a step back undoes a step that gave an item, and each step leaves one item fewer, until none is
-- left
abbrev pub StepsUndo : Type 0 → Type 0
StepsUndo X = (c : Cursor X) → c.place ≤ length c.items
    → ((x : X) → next_item c ≡ Some x → (prev_item (after_next c) ≡ Some x)
    × (after_prev (after_next c) ≡ c) × (size_left (after_next c) + 1 ≡ size_left c))
    × (next_item c ≡ None → (size_left c ≡ 0) × (after_next c ≡ c))

module _ {A X : Type 0} (view : A → X) where
  -- a step of code from the sides s to the sides t, whose view is the item r or none, is the
  -- cursor's step, and so is a step back; turned sides are the reversed cursor; and a step back
  -- after a step that gave an item gives an item of the same view, and restores the sides
  abbrev pub StepsAreCursors : Type 0
  StepsAreCursors = (s t : Sides X) (r : Option A)
      → (StepsAhead view s r t → (option_map view r ≡ next_item (cursor_of s))
      × (cursor_of t ≡ after_next (cursor_of s)))
      × (StepsBack view s r t → (option_map view r ≡ prev_item (cursor_of s))
      × (cursor_of t ≡ after_prev (cursor_of s)))
      × (cursor_of (turned s) ≡ reversed (cursor_of s))
      × ((u : Sides X) (x : A) → StepsAhead view s (Some x) t → StepsBack view t r u
      → (option_map view r ≡ Some (view x)) × (u ≡ s))

-- the number of items ahead is the number that the cursor has left: all after a start, and after a
-- start at an index those from it on
abbrev pub StartsCount : Type 0 → Type 0
StartsCount X = ((s : Sides X) → length (ahead s) ≡ size_left (cursor_of s))
    × ((items : List X) → length (ahead (at_start items)) ≡ length items)
    × ((items : List X) (p : ℕ) → p ≤ length items
    → (length (ahead (at_place items p)) ≡ length items - p)
    × (length (passed (at_place items p)) ≡ p))
