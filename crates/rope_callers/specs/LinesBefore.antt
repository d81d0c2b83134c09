-- The lines that precede a line.
use Rattle.std.specs.Prelude.{ℕ, List, take, reverse}
use Rattle.rope_text.specs.Content.{Content}
use Rattle.rope_text.specs.LineParts.{lines_of}
use Rattle.ropey.specs.View.{RopeView, content}

-- the lines before line l, the nearest first
abbrev pub lines_before : RopeView → ℕ → List Content
lines_before rope l = reverse (take l (lines_of (content rope)))
