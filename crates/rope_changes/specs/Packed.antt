-- Replacements whose texts follow each other in one text.
use Rattle.std.specs.Prelude.{◌≡◌, ℕ, ◌+◌, ◌<◌, ◌≤◌, ◌^◌, List, [], ◌∷◌, ◌++◌, length, slice_index_or, take, drop}
use Rattle.std.specs.Str.{chars, IsUtf8}
use Rattle.std.specs.String.{string_bytes}
use Rattle.rope_changes.specs.Change.{Edit}
use Rattle.rope_changes.specs.declared.replacements.Lengths.{Lengths}
use Rattle.rope_changes.specs.declared.replacements.Replacement.{Replacement}
use Rattle.rope_changes.specs.declared.replacements.Replacements.TheInside.{Inside}
use Rattle.rope_changes.specs.declared.replacements.Reader.TheInside as reader

abbrev pub edit_of : Replacement → Edit
edit_of r = record { kept = r.kept; text = chars r.text.now; deleted = r.deleted }

-- the number of characters of its text is the one that it holds
abbrev pub IsCounted : Replacement → Type 0
IsCounted r = r.inserted ≡ length (chars r.text.now)

-- the replacements of given lengths, whose texts are the parts of one text, in order
abbrev pub edits_of : List Lengths → List ℕ → List Edit
edits_of [] bytes = []
edits_of (l ∷ lengths) bytes =
    record { kept = l.kept; text = chars (take l.bytes bytes); deleted = l.deleted }
    ∷ edits_of lengths (drop l.bytes bytes)

-- a text begins with one of these numbers of bytes and of characters
pub record Begins (bytes : List ℕ) (count chars_count : ℕ) : Type 0 where
  pub within : count ≤ length bytes
  pub utf8 : IsUtf8 (take count bytes)
  pub counted : chars_count ≡ length (chars (take count bytes))

-- the texts are the whole text, and are counted
abbrev pub AreCounted : List Lengths → List ℕ → Type 0
AreCounted [] bytes = bytes ≡ []
AreCounted (l ∷ lengths) bytes =
    Begins bytes l.bytes l.inserted × AreCounted lengths (drop l.bytes bytes)

abbrev pub edits_in : Inside → List Edit
edits_in a = edits_of a.lengths.items (string_bytes a.text)

abbrev pub ArePacked : Inside → Type 0
ArePacked a = AreCounted a.lengths.items (string_bytes a.text)

abbrev pub edits_left : reader.Inside → List Edit
edits_left a = edits_of a.lengths.now a.text.now

abbrev pub AreLeftPacked : reader.Inside → Type 0
AreLeftPacked a = AreCounted a.lengths.now a.text.now

-- both counts of the last replacement stay below 2^64 with `inserted` and `deleted` added
abbrev pub LastFits : List Edit → ℕ → ℕ → Type 0
LastFits edits inserted deleted = (front : List Edit) (last : Edit) → edits ≡ front ++ last ∷ []
    → (length last.text + inserted < 2 ^ 64) × (last.deleted + deleted < 2 ^ 64)

-- the lengths are those of a replacement
pub record AreLengthsOf (e : Edit) (l : Lengths) : Type 0 where
  pub kept : l.kept ≡ e.kept
  pub inserted : l.inserted ≡ length e.text
  pub deleted : l.deleted ≡ e.deleted

-- the lengths are those of the replacements, in order
pub record AreLengths (edits : List Edit) (lengths : List Lengths) : Type 0 where
  pub count : length lengths ≡ length edits
  pub each : (k : ℕ) (e : Edit) (l : Lengths) → k < length lengths
      → AreLengthsOf (slice_index_or edits k e) (slice_index_or lengths k l)
