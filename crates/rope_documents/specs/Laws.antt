-- What positions lead back to.
use Rattle.std.specs.Prelude.{◌≡◌, ℕ, ◌≤◌, false, List, length}
use Rattle.rope_text.specs.declared.line_breaks.LineBreaks.{LineBreaks}
use Rattle.rope_position.specs.declared.encoding.Encoding.{Encoding}
use Rattle.rope_position.specs.Encodings.{position_in, clamped_char}
use Rattle.rope_documents.specs.Sent.{is_inside_crlf}

-- the position of a character that isn't between CR and LF is read as that character
abbrev pub PositionsAreReadBack : Type 0
PositionsAreReadBack =
    (encoding : Encoding) (breaks : LineBreaks) (text : List ℕ) (i : ℕ) → i ≤ length text
    → is_inside_crlf text i ≡ false
    → clamped_char encoding breaks text (position_in encoding breaks text i) ≡ i
