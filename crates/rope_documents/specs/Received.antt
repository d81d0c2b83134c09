-- Changes of a document in the order in which they were sent, each one of the text that the one
-- before it left.
use Rattle.std.specs.Prelude.{ℕ, ◌+◌, ◌^◌, List, [], ◌∷◌, length, nat_lt, Option, Some, None, if◌then◌else◌}
use Rattle.std.specs.Cow.{cow_str_bytes}
use Rattle.std.specs.List.{replace_range}
use Rattle.std.specs.Str.{chars}
use Rattle.rope_text.specs.declared.line_breaks.LineBreaks.{LineBreaks}
use Rattle.rope_text.specs.Text.{byte_len}
use Rattle.rope_position.specs.declared.encoding.Encoding.{Encoding}
use Rattle.rope_position.specs.Encodings.{clamped_char}
use Rattle.rope_changes.specs.Ops.{Op}
use Rattle.rope_changes.specs.Change.{Change, ops, replaced}
use Rattle.rope_changes.specs.Built.{unchanged}
use Rattle.rope_changes.specs.Normal.{composed}
use Rattle.rope_documents.specs.declared.content_change.Range.{Range}
use Rattle.rope_documents.specs.declared.content_change.ContentChange.{ContentChange}
use Rattle.rope_documents.specs.declared.error.DocumentError.{DocumentError}
use Rattle.rope_documents.specs.declared.error.DocumentError.TheVariants.{RangeInvalid, TooLong}

-- a change of a document: the range that is replaced, or none for the whole text, and the text that
-- replaces it
pub record TextChange : Type 0 where
  pub range : Option Range
  pub text : List ℕ

abbrev pub text_change : ContentChange → TextChange
text_change c = record { range = c.range; text = chars (cow_str_bytes c.text) }

-- the characters that a change replaces: the first of them, and the one after the last
abbrev pub first_char : Encoding → LineBreaks → List ℕ → Option Range → ℕ
first_char encoding breaks text None = 0
first_char encoding breaks text (Some range) = clamped_char encoding breaks text range.start

abbrev pub end_char : Encoding → LineBreaks → List ℕ → Option Range → ℕ
end_char encoding breaks text None = length text
end_char encoding breaks text (Some range) = clamped_char encoding breaks text range.end

-- the text after a change
abbrev pub changed : Encoding → LineBreaks → List ℕ → TextChange → List ℕ
changed encoding breaks text c =
    replace_range text (first_char encoding breaks text c.range)
    (end_char encoding breaks text c.range) c.text

-- the text after changes, one after the other
abbrev pub all_changed : Encoding → LineBreaks → List ℕ → List TextChange → List ℕ
all_changed encoding breaks text [] = text
all_changed encoding breaks text (c ∷ changes) =
    all_changed encoding breaks (changed encoding breaks text c) changes

-- a change of a document as a change of characters
abbrev pub one_change : Encoding → LineBreaks → List ℕ → TextChange → Change
one_change encoding breaks text c =
    replaced (unchanged (length text)) (first_char encoding breaks text c.range)
    (end_char encoding breaks text c.range) c.text

-- changes, one after the other, as one change of characters in normal form
abbrev pub all_composed : Encoding → LineBreaks → List ℕ → List TextChange → List Op
all_composed encoding breaks text [] = ops (unchanged (length text))
all_composed encoding breaks text (c ∷ []) = ops (one_change encoding breaks text c)
all_composed encoding breaks text (c ∷ d ∷ changes) =
    composed (ops (one_change encoding breaks text c))
    (all_composed encoding breaks (changed encoding breaks text c) (d ∷ changes))

-- the first error, if there is one
abbrev pub or_next : Option DocumentError → Option DocumentError → Option DocumentError
or_next (Some error) next = Some error
or_next None next = next

-- a range whose end lies before its start
abbrev pub range_error : Encoding → LineBreaks → List ℕ → Option Range → Option DocumentError
range_error encoding breaks text None = None
range_error encoding breaks text (Some range) =
    if nat_lt (clamped_char encoding breaks text range.end)
    (clamped_char encoding breaks text range.start)
    then Some (RangeInvalid range.start range.end) else None

-- more bytes than a text may have
abbrev pub size_error : ℕ → Option DocumentError
size_error bytes = if nat_lt bytes (2 ^ 63) then None else Some TooLong

-- why a change is refused, where there is memory: its range comes before its size
abbrev pub change_error : Encoding → LineBreaks → List ℕ → TextChange → Option DocumentError
change_error encoding breaks text c =
    or_next (range_error encoding breaks text c.range)
    (size_error (byte_len text + byte_len c.text))

-- the error of the first change that is refused
abbrev pub first_error : Encoding → LineBreaks → List ℕ → List TextChange → Option DocumentError
first_error encoding breaks text [] = None
first_error encoding breaks text (c ∷ changes) =
    or_next (change_error encoding breaks text c)
    (first_error encoding breaks (changed encoding breaks text c) changes)
