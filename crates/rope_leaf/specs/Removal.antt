-- Results of removals of characters from leaves.
use Rattle.std.specs.Prelude.{◌≡◌, ℕ, ◌+◌, ◌-◌, ◌≤◌, false, List, length, take, drop}
use Rattle.rope_text.specs.declared.TheConstants.{MIN_TWO_LEAVES_BYTES}
use Rattle.rope_text.specs.Text.{byte_len}
use Rattle.rope_text.specs.Breaks.{begins_with_lf, ends_in_cr}
use Rattle.rope_text.specs.Edit.{removed}
use Rattle.rope_leaf.specs.Leaves.{AreLeaves, IsSeam, StandFor}
use Rattle.rope_leaf.specs.Tree.{Tree, text, joined, leaves_of, height_of, breaks_of, AreChildren}

-- any text that may precede the old text without a CR LF between them may precede the new one, and
-- any text that may follow the old one may follow the new one
pub record KeepsEnds (old new : List ℕ) : Type 0 where
  pub before : (p : List ℕ) → IsSeam p old → IsSeam p new
  pub after : (n : List ℕ) → IsSeam old n → IsSeam new n

-- a leaf of this text may lose the characters from a up to b: the rest is not empty and has at
-- least `least` bytes, and neither begins with LF nor ends in CR unless the leaf does
pub record Spares (least a b : ℕ) (t : List ℕ) : Type 0 where
  pub some : 1 ≤ byte_len (removed t a b)
  pub enough : least ≤ byte_len (removed t a b)
  pub first : length (take a t) ≡ 0 → begins_with_lf (drop b t) ≡ false
  pub last : length (drop b t) ≡ 0 → ends_in_cr (take a t) ≡ false

-- the tree without the characters from a up to b: with as many leaves as before, none of them
-- empty, and with leaves that may replace the old ones where `first` and `last` bytes are wanted at
-- the two ends
pub record IsRemoved (first last : ℕ) (old new : Tree) (a b : ℕ) : Type 0 where
  pub text_is : text new ≡ removed (text old) a b
  pub ends : KeepsEnds (text old) (text new)
  pub same_breaks : new.breaks ≡ old.breaks
  pub same_height : new.height ≡ old.height
  pub same_width : new.width ≡ old.width
  pub as_many : length new.leaves ≡ length old.leaves
  pub leaves : AreLeaves new.leaves
  pub stand : StandFor first last old.leaves new.leaves

-- children without the characters from a up to b, as many as before, over as many leaves
pub record AreRemoved (first last : ℕ) (old new : List Tree) (a b : ℕ) : Type 0 where
  pub text_is : joined new ≡ removed (joined old) a b
  pub ends : KeepsEnds (joined old) (joined new)
  pub as_many : length new ≡ length old
  pub as_many_leaves : length (leaves_of new) ≡ length (leaves_of old)
  pub children : AreChildren (breaks_of old) (height_of old) new
  pub stand : StandFor first last (leaves_of old) (leaves_of new)

-- two adjacent leaves: the first lost its characters from a on, the second its first b; `first` and
-- `last` are the bytes wanted beside their neighbours, and the two have enough together
pub record AreShortened (first last a b : ℕ) (left now right after : Tree) : Type 0 where
  pub end : IsRemoved first (MIN_TWO_LEAVES_BYTES - byte_len (text after)) left now a
      (length (text left))
  pub start : IsRemoved (MIN_TWO_LEAVES_BYTES - byte_len (text now)) last right after 0 b
  pub meet : MIN_TWO_LEAVES_BYTES ≤ byte_len (text now) + byte_len (text after)
