-- Slices of ropes.
use Rattle.std.specs.Prelude.{ℕ, ◌&&◌, length, nat_le, Option, Some, None, if◌then◌else◌}
use Rattle.rope_text.specs.Content.{Content}
use Rattle.rope_text.specs.LineParts.{part_between}

-- the slice from character a up to b, if that is a range of the text; without a range the whole
-- rope
abbrev pub part_of : Content → Option (ℕ × ℕ) → Option Content
part_of rope None = Some rope
part_of rope (Some (a, b)) =
    if nat_le a b && nat_le b (length rope.text) then Some (part_between rope a b) else None
