-- A tree that is no higher than a leaf.
use Rattle.std.specs.Prelude.{◌≡◌}
use Rattle.rope_leaf.specs.Tree.{Tree}

abbrev pub IsFlat : Tree → Type 0
IsFlat t = t.height ≡ 0
