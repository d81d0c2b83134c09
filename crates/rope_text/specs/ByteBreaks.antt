-- Line breaks, code units and widths over the bytes of a text. Private working definitions: only
-- clauses of private functions cite them.
use Rattle.std.specs.Prelude.{◌≡◌, ℕ, ◌+◌, ◌<◌, ◌≤◌, Bool, IsTrue, slice_index, cond, not, count_by, nat_lt, if◌then◌else◌, ◌&&◌, ◌||◌, ◌==◌, List, [], ◌∷◌, length, drop, get_or}
use Rattle.std.specs.Int.{is_in_range}
use Rattle.rope_text.specs.Bytes.{begins_char, begins_pair}
use Rattle.rope_text.specs.declared.line_breaks.LineBreaks.{LineBreaks}
use Rattle.rope_text.specs.declared.text_info.TextInfo.{TextInfo}
use Rattle.rope_text.specs.declared.line_breaks.LineBreaks.TheVariants.{Lf, CrLf, Unicode}

-- whether the byte x is CR and the next byte y isn't LF
abbrev pub lone_cr : ℕ → ℕ → Bool
lone_cr x y = x == 13 && not (y == 10)

-- whether a character that ends a line break begins with the byte x, before the bytes y and z; CR
-- LF counts at its LF
abbrev pub break_at : LineBreaks → ℕ → ℕ → ℕ → Bool
break_at Lf x y z = x == 10
break_at CrLf x y z = x == 10 || lone_cr x y
break_at Unicode x y z =
    (is_in_range 10 12 x || lone_cr x y) ||
    ((x == 0xC2 && y == 0x85) || (x == 0xE2 && (y == 0x80 && (z == 0xA8 || z == 0xA9))))

-- whether a character that ends a line break begins with the byte k
abbrev pub breaks_at : LineBreaks → List ℕ → ℕ → Bool
breaks_at breaks bytes k =
    break_at breaks (get_or bytes k 0) (get_or bytes (k + 1) 0) (get_or bytes (k + 2) 0)

-- the number of such characters
abbrev pub byte_break_count : LineBreaks → List ℕ → ℕ
byte_break_count breaks [] = 0
byte_break_count breaks (x ∷ xs) =
    cond (break_at breaks x (get_or xs 0 0) (get_or xs 1 0)) 1 0 + byte_break_count breaks xs

-- the counts of the bytes, by one pass: of line breaks those that begin before the end
pub record AreCounts (breaks : LineBreaks) (bytes : List ℕ) (counts : TextInfo) : Type 0 where
  pub bytes_are : counts.bytes ≡ length bytes
  pub chars : counts.chars ≡ count_by begins_char bytes
  pub pairs : counts.utf16_surrogates ≡ count_by begins_pair bytes
  pub break_count : byte_break_count breaks bytes
      ≡ counts.break_count + byte_break_count breaks (drop (length bytes) bytes)

-- the number of UTF-16 code units of the bytes
abbrev pub unit_count : List ℕ → ℕ
unit_count bytes = count_by begins_char bytes + count_by begins_pair bytes

-- the byte at which the character that contains the code unit n begins, counted from the byte
-- `from` on; the end if there are at most n code units
pub record IsUnitPlaceOf (bytes : List ℕ) (from n place : ℕ) : Type 0 where
  pub not_before : from ≤ place
  pub bound : place ≤ length bytes
  pub begins : place < length bytes → IsTrue (begins_char (slice_index bytes place))
  pub before : unit_count (drop from bytes) ≤ n + unit_count (drop place bytes)
  pub after : place < length bytes
      → n + unit_count (drop (place + 1) bytes) < unit_count (drop from bytes)

-- the number of bytes of the character that begins with the byte
abbrev pub char_width : ℕ → ℕ
char_width b =
    if nat_lt b 0x80 then 1 else if nat_lt b 0xE0 then 2 else if nat_lt b 0xF0 then 3 else 4
