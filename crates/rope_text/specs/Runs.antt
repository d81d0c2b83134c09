-- Counts of blocks of bytes that are added up in lanes. Private working definitions: only clauses
-- of private functions cite them.
use Rattle.std.specs.Prelude.{◌≡◌, ℕ, ◌+◌, ◌≤◌, Bool, false, ◌&&◌, ◌||◌, ◌==◌, List, length, get_or, count_by, bit_and}
use Rattle.std.specs.List.{range_with_len}
use lib.Lanes.{Each1, sum_l}
use lib.Dec.{leb}
use Rattle.rope_text.specs.declared.line_breaks.LineBreaks.{LineBreaks}
use Rattle.rope_text.specs.declared.line_breaks.LineBreaks.TheVariants.{Lf, CrLf, Unicode}
use Rattle.rope_text.specs.declared.lanes.Mark.{Mark}
use Rattle.rope_text.specs.Bytes.{begins_char, begins_pair}
use Rattle.rope_text.specs.Marks.{ascii_at, ascii_mark}

-- 16 lanes, each at most `most`, that add up to the total
pub record IsSum (most total : ℕ) (lanes : List ℕ) : Type 0 where
  pub long : length lanes ≡ 16
  pub few : Each1 (λ x. x ≤ most) lanes
  pub sum : sum_l lanes ≡ total

-- whether a break begins with the byte x, which is above 127
abbrev pub multibyte_at : LineBreaks → ℕ → ℕ → ℕ → Bool
multibyte_at Lf x y z = false
multibyte_at CrLf x y z = false
multibyte_at Unicode x y z =
    (x == 0xC2 && y == 0x85) || (x == 0xE2 && (y == 0x80 && (z == 0xA8 || z == 0xA9)))

-- the tests at the byte k
abbrev pub ascii_here : LineBreaks → List ℕ → ℕ → Bool
ascii_here breaks xs k = ascii_at breaks (get_or xs k 0) (get_or xs (k + 1) 0)

abbrev pub multibyte_here : LineBreaks → List ℕ → ℕ → Bool
multibyte_here breaks xs k =
    multibyte_at breaks (get_or xs k 0) (get_or xs (k + 1) 0) (get_or xs (k + 2) 0)

abbrev pub multibyte_begin : List ℕ → ℕ → Bool
multibyte_begin xs k = bit_and (get_or xs k 0) 223 == 194

-- the n indices from i on
unfoldable pub places : ℕ → ℕ → List ℕ
places i n = range_with_len i n

-- of the n bytes from i on: those that begin a character, a pair of code units, a break, and those
-- above 127
abbrev pub chars_of : List ℕ → ℕ → ℕ → ℕ
chars_of xs i n = count_by (λ k. begins_char (get_or xs k 0)) (places i n)

abbrev pub pairs_of : List ℕ → ℕ → ℕ → ℕ
pairs_of xs i n = count_by (λ k. begins_pair (get_or xs k 0)) (places i n)

abbrev pub ascii_of : LineBreaks → List ℕ → ℕ → ℕ → ℕ
ascii_of breaks xs i n = count_by (ascii_here breaks xs) (places i n)

abbrev pub multibyte_of : LineBreaks → List ℕ → ℕ → ℕ → ℕ
multibyte_of breaks xs i n = count_by (multibyte_here breaks xs) (places i n)

abbrev pub high_of : List ℕ → ℕ → ℕ → ℕ
high_of xs i n = count_by (λ k. leb 128 (get_or xs k 0)) (places i n)

-- whether a mark begins with the byte k, and the number of marks in the n bytes from i on; a break
-- only if its byte is below 128
abbrev pub ascii_mark_at : Mark → List ℕ → ℕ → Bool
ascii_mark_at mark xs k = ascii_mark mark (get_or xs k 0) (get_or xs (k + 1) 0)

abbrev pub count_of : Mark → List ℕ → ℕ → ℕ → ℕ
count_of mark xs i n = count_by (ascii_mark_at mark xs) (places i n)

-- the counts of the n bytes from i on: in lanes the characters, the pairs and the breaks below 128,
-- and the other breaks
pub record IsRun (breaks : LineBreaks) (bytes : List ℕ) (i n most : ℕ)
    (in_chars in_pairs in_ascii : List ℕ) (in_multibyte : ℕ) : Type 0 where
  pub chars : IsSum most (chars_of bytes i n) in_chars
  pub pairs : IsSum most (pairs_of bytes i n) in_pairs
  pub ascii : IsSum most (ascii_of breaks bytes i n) in_ascii
  pub multibyte : in_multibyte ≡ multibyte_of breaks bytes i n
