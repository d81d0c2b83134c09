-- A position between two characters of a slice, seen as the text before it, the text after it, and
-- the chunks of both.
use Rattle.std.specs.Prelude.{◌≡◌, ℕ, ◌^◌, ◌<◌, List, ◌++◌, length, take, drop}
use Rattle.std.specs.List.{concat}
use Rattle.rope_text.specs.declared.line_breaks.LineBreaks.{LineBreaks}
use Rattle.rope_text.specs.declared.text_info.TextInfo.{TextInfo}
use Rattle.rope_text.specs.Text.{byte_len}
use Rattle.rope_text.specs.TextInfo.{info_of, info_sum}
use Rattle.rope_text.specs.Cutting.{KeepsCrlf}
use Rattle.rope_text.specs.LineParts.{before_byte, after_byte, IsBetween, first_line, last_start}
use Rattle.rope_slice.specs.InChunk.{IsInChunk}
use Rattle.rope_slice.specs.Path.{Place, leaves}

pub record Halves : Type 0 where
  pub front : List ℕ
  pub back : List ℕ
  pub chunks : List (List ℕ)

-- before the byte b of the chunk here, and from it on
abbrev pub halves_at : Place → ℕ → Halves
halves_at p b = record {
  front = concat p.before ++ before_byte p.here b;
  back = after_byte p.here b ++ concat p.after;
  chunks = leaves p;
}

-- some chunk contains these characters from the position on
abbrev pub HoldsAhead : Halves → List ℕ → Type 0
HoldsAhead h held = IsInChunk (h.front ++ h.back) h.chunks (length h.front) held

-- the chunks split no CR LF, and their text is not too long
pub record AreChunks (p : Place) : Type 0 where
  pub kept : KeepsCrlf (leaves p)
  pub fits : byte_len (concat (leaves p)) < 2 ^ 63

pub record IsCaret (p : Place) (b : ℕ) : Type 0 where
  pub between : IsBetween p.here b
  pub chunks : AreChunks p

-- a line was passed: the text before and after it, up to a break and the rest, and the counts of
-- the text passed
pub record PassesLine (breaks : LineBreaks) (front back : List ℕ) (p : Place) (b : ℕ)
    (info : TextInfo) : Type 0 where
  pub caret : IsCaret p b
  pub front_is : (halves_at p b).front ≡ front ++ first_line breaks back
  pub back_is : back ≡ first_line breaks back ++ (halves_at p b).back
  pub counts : info ≡ info_of breaks (first_line breaks back)

-- line breaks were passed backward: up to the start of a line, `skip` breaks before the last
pub record PassesBack (breaks : LineBreaks) (skip : ℕ) (front back : List ℕ) (p : Place) (b : ℕ)
    (info : TextInfo) : Type 0 where
  pub caret : IsCaret p b
  pub front_is : (halves_at p b).front ≡ take (last_start breaks front skip) front
  pub back_is : (halves_at p b).back ≡ drop (last_start breaks front skip) front ++ back
  pub counts : info ≡ info_of breaks (drop (last_start breaks front skip) front)

-- between two positions a line was passed, up to its break, with the counts of the text before both
pub record IsPassed (breaks : LineBreaks) (old : Halves) (before : TextInfo) (new : Halves)
    (after : TextInfo) : Type 0 where
  pub front : new.front ≡ old.front ++ first_line breaks old.back
  pub back : old.back ≡ first_line breaks old.back ++ new.back
  pub chunks : new.chunks ≡ old.chunks
  pub counts : after ≡ info_sum before (info_of breaks (first_line breaks old.back))

-- between two positions `skip` line breaks were passed backward, and the text up to the break
-- before them
pub record IsPassedBack (breaks : LineBreaks) (skip : ℕ) (old : Halves) (before : TextInfo)
    (new : Halves) (after : TextInfo) : Type 0 where
  pub front : new.front ≡ take (last_start breaks old.front skip) old.front
  pub back : new.back ≡ drop (last_start breaks old.front skip) old.front ++ old.back
  pub chunks : new.chunks ≡ old.chunks
  pub counts : info_sum (info_of breaks (drop (last_start breaks old.front skip) old.front)) after
      ≡ before
