-- The leaves into which a medium text is split.
use Rattle.std.specs.Prelude.{◌≡◌, ℕ, ◌+◌, ◌≤◌, ◌⊎◌, false, List, ◌++◌, length}
use Rattle.std.specs.List.{All}
use Rattle.std.specs.Str.{chars, IsUtf8}
use Rattle.rope_text.specs.declared.TheConstants.{MAX_BYTES, MIN_CUT_BYTES, MIN_HALF_BYTES}
use Rattle.rope_text.specs.declared.line_breaks.LineBreaks.{LineBreaks}
use Rattle.rope_text.specs.Text.{byte_len}
use Rattle.rope_text.specs.Cutting.{parts_crlf}
use Rattle.rope_leaf.specs.Leaves.{AreLeaves}
use Rattle.rope_leaf.specs.Tree.{Tree, joined, leaves_of, IsChild}

-- leaves of this text, each with at least half a leaf's bytes less one
pub record ArePieces (breaks : LineBreaks) (new : List ℕ) (ts : List Tree) : Type 0 where
  pub text_is : joined ts ≡ new
  pub leaves : AreLeaves (leaves_of ts)
  pub some : 1 ≤ length ts
  pub each : All (IsChild breaks 0) ts
  pub long : All (λ leaf. MIN_HALF_BYTES ≤ byte_len leaf) (leaves_of ts)

-- the bytes of a leaf split off a text, and the rest: both have at least half a leaf's bytes less
-- one; and either the leaf is as full as a split leaves it, or the rest fits in a leaf
pub record IsFirstSplit (text front back : List ℕ) : Type 0 where
  pub front_utf8 : IsUtf8 front
  pub back_utf8 : IsUtf8 back
  pub joined : chars front ++ chars back ≡ chars text
  pub bytes : length front + length back ≡ length text
  pub apart : parts_crlf (chars front) (chars back) ≡ false
  pub front_least : MIN_HALF_BYTES ≤ length front
  pub back_least : MIN_HALF_BYTES ≤ length back
  pub front_fits : length front ≤ MAX_BYTES
  pub few : (MIN_CUT_BYTES ≤ length front) ⊎ (length back ≤ MAX_BYTES)
