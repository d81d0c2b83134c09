-- A position in a leaf of a tree.
use Rattle.std.specs.Prelude.{◌≡◌, ℕ, ◌+◌, List}
use Rattle.rope_text.specs.declared.text_info.TextInfo.{TextInfo}
use Rattle.rope_text.specs.Conversions.{char_to_byte}
use Rattle.rope_leaf.specs.declared.search.Unit.TheVariants.{Char}
use Rattle.rope_leaf.specs.Found.{IsFound}
use Rattle.rope_leaf.specs.Tree.{Tree}

-- the leaf contains the character i of the text, after `bytes` bytes and `chars` characters of the
-- leaf
pub record IsLeafPlace (t : Tree) (i : ℕ) (leaf : List ℕ) (before : TextInfo)
    (bytes chars : ℕ) : Type 0 where
  pub found : IsFound Char i t leaf before
  pub place : i ≡ before.chars + chars
  pub bytes_are : bytes ≡ char_to_byte leaf chars
