-- Positions where the bytes of a text may be cut.
use Rattle.std.specs.Prelude.{ℕ, ◌+◌, ◌-◌, Bool, not, ◌&&◌, ◌||◌, ◌==◌, List, length, slice_index}
use Rattle.rope_text.specs.Bytes.{begins_char}

-- whether a text may be cut between the bytes x and y: y begins a character, and they are not CR
-- and LF
abbrev pub is_cut_between : ℕ → ℕ → Bool
is_cut_between x y = begins_char y && not (x == 13 && y == 10)

-- whether the bytes may be cut before the byte i; at either end they may
abbrev pub is_cut : List ℕ → ℕ → Bool
is_cut bs i =
    (i == 0 || i == length bs) || is_cut_between (slice_index bs (i - 1)) (slice_index bs i)

abbrev pub distance : ℕ → ℕ → ℕ
distance a b = (a - b) + (b - a)
