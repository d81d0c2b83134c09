-- Positions of characters.
use Rattle.std.specs.Prelude.{◌≡◌, ℕ, ◌≤◌, List, length, None}
use Rattle.rope_text.specs.declared.line_breaks.LineBreaks.{LineBreaks}
use Rattle.rope_text.specs.Conversions.{char_to_line}
use Rattle.rope_text.specs.Position.{char_to_column, position_to_char, position_error}
use Rattle.rope_position.specs.declared.position.Position.{Position}

-- the line of a character, and its column
abbrev pub position_at : LineBreaks → List ℕ → ℕ → Position
position_at breaks text i = record {
  line = char_to_line breaks text i;
  column = char_to_column breaks text i;
}

-- the position of a character is valid, and converts back to that character
abbrev pub PositionsReturn : Type 0
PositionsReturn = (breaks : LineBreaks) (text : List ℕ) (i : ℕ) → i ≤ length text
    → (position_error breaks text (position_at breaks text i).line
    (position_at breaks text i).column ≡ None)
    × (position_to_char breaks text (position_at breaks text i).line
    (position_at breaks text i).column ≡ i)
