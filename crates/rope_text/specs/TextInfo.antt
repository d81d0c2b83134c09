-- The counts of a text, and those of joined texts.
use Rattle.std.specs.Prelude.{ℕ, ◌+◌, ◌-◌, ◌<◌, ◌≤◌, ◌^◌, ◌&&◌, cond, List, length}
use Rattle.rope_text.specs.declared.line_breaks.LineBreaks.{LineBreaks}
use Rattle.rope_text.specs.declared.text_info.TextInfo.{TextInfo}
use Rattle.rope_text.specs.Text.{byte_len, surrogate_count}
use Rattle.rope_text.specs.Breaks.{is_break_char, break_count}
use Rattle.rope_text.specs.Cutting.{parts_crlf}

-- the counts of a text, with its breaks by the set
abbrev pub info_of : LineBreaks → List ℕ → TextInfo
info_of breaks text = record {
  bytes = byte_len text;
  chars = length text;
  utf16_surrogates = surrogate_count text;
  break_count = break_count breaks text;
}

-- the sums, count by count
abbrev pub info_sum : TextInfo → TextInfo → TextInfo
info_sum s t = record {
  bytes = s.bytes + t.bytes;
  chars = s.chars + t.chars;
  utf16_surrogates = s.utf16_surrogates + t.utf16_surrogates;
  break_count = s.break_count + t.break_count;
}

-- the sums fit 64 bits, count by count
pub record HasSum (s t : TextInfo) : Type 0 where
  pub bytes : s.bytes + t.bytes < 2 ^ 64
  pub chars : s.chars + t.chars < 2 ^ 64
  pub pairs : s.utf16_surrogates + t.utf16_surrogates < 2 ^ 64
  pub breaks : s.break_count + t.break_count < 2 ^ 64

-- each count of the part is at most that of the total
pub record HasPart (total part : TextInfo) : Type 0 where
  pub bytes : part.bytes ≤ total.bytes
  pub chars : part.chars ≤ total.chars
  pub pairs : part.utf16_surrogates ≤ total.utf16_surrogates
  pub breaks : part.break_count ≤ total.break_count

-- one break, if CR meets LF and CR is a break: the two are one break of the joined text
abbrev pub shared_breaks : LineBreaks → List ℕ → List ℕ → ℕ
shared_breaks breaks s t = cond (parts_crlf s t && is_break_char breaks 13) 1 0

-- the counts with n line breaks fewer
abbrev pub less_breaks : TextInfo → ℕ → TextInfo
less_breaks info n = record {
  bytes = info.bytes;
  chars = info.chars;
  utf16_surrogates = info.utf16_surrogates;
  break_count = info.break_count - n;
}
