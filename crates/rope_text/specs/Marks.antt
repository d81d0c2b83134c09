-- Marks: the bytes that begin a character, a character of two code units, or a line break, and that
-- searches count. Private working definitions: only clauses of private functions cite them.
use Rattle.std.specs.Prelude.{◌≡◌, ℕ, ◌+◌, ◌<◌, ◌≤◌, Bool, cond, if◌then◌else◌, List, length, map, drop, get_or, count_by, bit_and, IsTrue, ◌==◌, ◌||◌}
use Rattle.rope_text.specs.declared.line_breaks.LineBreaks.{LineBreaks}
use Rattle.rope_text.specs.declared.line_breaks.LineBreaks.TheVariants.{Lf, CrLf, Unicode}
use Rattle.rope_text.specs.declared.lanes.Mark.{Mark}
use Rattle.rope_text.specs.declared.lanes.Mark.TheVariants.{Char, Pair, Break}
use Rattle.std.specs.Int.{is_in_range}
use Rattle.std.specs.List.{range_with_len}
use Rattle.rope_text.specs.Bits.{ones_below}
use Rattle.rope_text.specs.Bytes.{begins_char, begins_pair}
use Rattle.rope_text.specs.ByteBreaks.{lone_cr, breaks_at, byte_break_count}

-- whether a mark begins with the byte k
abbrev pub mark_at : Mark → List ℕ → ℕ → Bool
mark_at Char bytes k = begins_char (get_or bytes k 0)
mark_at Pair bytes k = begins_pair (get_or bytes k 0)
mark_at (Break breaks) bytes k = breaks_at breaks bytes k

-- the number of marks that begin in the bytes
abbrev pub marks : Mark → List ℕ → ℕ
marks Char bytes = count_by begins_char bytes
marks Pair bytes = count_by begins_pair bytes
marks (Break breaks) bytes = byte_break_count breaks bytes

-- the mark n begins with the byte `at`, counted from the byte `from` on
abbrev pub IsMark : Mark → List ℕ → ℕ → ℕ → ℕ → Type 0
IsMark mark bytes from n at = (marks mark (drop from bytes) ≡ n + marks mark (drop at bytes))
    × IsTrue (mark_at mark bytes at)

-- the byte with which the mark n begins, counted from the byte `from` on; the end if there are at
-- most n marks
pub record IsPlaceOf (mark : Mark) (bytes : List ℕ) (from n place : ℕ) : Type 0 where
  pub not_before : from ≤ place
  pub bound : place ≤ length bytes
  pub inside : place < length bytes → IsMark mark bytes from n place
  pub end : place ≡ length bytes → marks mark (drop from bytes) ≤ n

-- the bytes before the byte `at` precede the mark n, which is the mark `left` counted from there
pub record IsPassed (mark : Mark) (bytes : List ℕ) (n at left : ℕ) : Type 0 where
  pub bound : at ≤ length bytes
  pub counted : marks mark bytes + left ≡ n + marks mark (drop at bytes)

-- the bits of the mask are the marks that begin in the 32 bytes from the byte `at` on
abbrev pub IsBlockMask : Mark → List ℕ → ℕ → ℕ → Type 0
IsBlockMask mark bytes at mask = (n : ℕ) → n ≤ 32
    → marks mark (drop at bytes) ≡ ones_below mask n + marks mark (drop (at + n) bytes)

-- LF alone, or with CR
abbrev pub lf_or_cr_lf : Bool → LineBreaks
lf_or_cr_lf has_cr = if has_cr then CrLf else Lf

-- the number of bytes after a block that decide which marks begin in it
abbrev pub ahead : Mark → ℕ
ahead Char = 0
ahead Pair = 0
ahead (Break Lf) = 0
ahead (Break CrLf) = 1
ahead (Break Unicode) = 2

-- whether a break begins with the byte x, which is below 128, before the byte y
abbrev pub ascii_at : LineBreaks → ℕ → ℕ → Bool
ascii_at Lf x y = x == 10
ascii_at CrLf x y = x == 10 || lone_cr x y
ascii_at Unicode x y = is_in_range 10 12 x || lone_cr x y

-- whether a mark begins with the byte x before the byte y, a break only where x is below 128
abbrev pub ascii_mark : Mark → ℕ → ℕ → Bool
ascii_mark Char x y = begins_char x
ascii_mark Pair x y = begins_pair x
ascii_mark (Break breaks) x y = ascii_at breaks x y

-- lanes that are g of each index, and lanes that are set where p holds of the index
pub record IsLanes (ks : List ℕ) (g : ℕ → ℕ) (v : List ℕ) : Type 0 where
  pub same : v ≡ map g ks

pub record IsMask (ks : List ℕ) (p : ℕ → Bool) (a : List ℕ) : Type 0 where
  pub same : a ≡ map (λ k. cond (p k) 255 0) ks

-- none of the n bytes from the byte `at` on is C2 or E2, which begin breaks above 127, if a mark
-- may be such a break
abbrev pub HasNoMultibyte : Mark → List ℕ → ℕ → ℕ → Type 0
HasNoMultibyte mark bytes at n = ahead mark ≡ 2
    → count_by (λ k. bit_and (get_or bytes k 0) 223 == 194) (range_with_len at n) ≡ 0
