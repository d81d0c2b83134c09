-- The counts of the bytes before a position, before which no line break ends.
use Rattle.std.specs.Prelude.{◌≡◌, ℕ, ◌+◌, ◌<◌, ◌≤◌, ◌^◌, Bool, true, cond, List, length, drop, count_by, IsTrue}
use Rattle.rope_text.specs.declared.back.Back.{Back}
use Rattle.rope_text.specs.declared.line_breaks.LineBreaks.{LineBreaks}
use Rattle.rope_text.specs.declared.seek.Passed.{Passed}
use Rattle.rope_text.specs.Bytes.{begins_char, begins_pair}
use Rattle.rope_text.specs.ByteBreaks.{breaks_at, byte_break_count}

-- no break begins before the byte `at`, and `in_chars` characters and `in_pairs` pairs of code
-- units do
pub record IsFront (breaks : LineBreaks) (bytes : List ℕ) (in_chars at in_pairs : ℕ) : Type 0 where
  pub within : at ≤ length bytes
  pub none : byte_break_count breaks bytes ≡ byte_break_count breaks (drop at bytes)
  pub chars : count_by begins_char bytes ≡ in_chars + count_by begins_char (drop at bytes)
  pub pairs : count_by begins_pair bytes ≡ in_pairs + count_by begins_pair (drop at bytes)

-- `passed.chars` characters and `passed.pairs` pairs of code units begin before the position
pub record HasPassed (bytes : List ℕ) (passed : Passed) : Type 0 where
  pub within : passed.at ≤ length bytes
  pub chars : count_by begins_char bytes ≡ passed.chars + count_by begins_char
      (drop passed.at bytes)
  pub pairs : count_by begins_pair bytes ≡ passed.pairs + count_by begins_pair
      (drop passed.at bytes)

-- the start of a backward scan, at the byte `end`, with `skip` breaks to pass
abbrev pub back_from : ℕ → ℕ → Back
back_from end skip = record { at = end; chars = 0; pairs = 0; left = skip }

-- the last character of the break searched for begins at the byte `to`, before the byte `from`
pub record IsBreakBack (breaks : LineBreaks) (bytes : List ℕ) (from to : Back) : Type 0 where
  pub before : to.at < from.at
  pub begins : IsTrue (breaks_at breaks bytes to.at)
  pub all : to.left ≡ 0

-- a scan back from one byte to another, at which the break searched for begins if it was found,
-- with the counts of the bytes between
pub record GoesBack (breaks : LineBreaks) (bytes : List ℕ) (from to : Back) (is_found : Bool) : Type
    0 where
  pub back : to.at ≤ from.at
  pub few_chars : to.chars + to.at ≤ from.chars + from.at
  pub few_pairs : to.pairs + to.at ≤ from.pairs + from.at
  pub chars : count_by begins_char (drop to.at bytes) + from.chars
      ≡ to.chars + count_by begins_char (drop from.at bytes)
  pub pairs : count_by begins_pair (drop to.at bytes) + from.pairs
      ≡ to.pairs + count_by begins_pair (drop from.at bytes)
  pub passed : byte_break_count breaks (drop to.at bytes) + to.left
      ≡ from.left + (cond is_found 1 0 + byte_break_count breaks (drop from.at bytes))
  pub found : is_found ≡ true → IsBreakBack breaks bytes from to

-- the counts fit, since each byte counts at most one character and one pair
pub record HasRoom (from : Back) : Type 0 where
  pub chars : from.chars + from.at < 2 ^ 64
  pub pairs : from.pairs + from.at < 2 ^ 64
