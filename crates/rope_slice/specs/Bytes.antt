-- The meaning of a cursor over bytes.
use Rattle.std.specs.Prelude.{◌≡◌, ℕ, ◌+◌, ◌≤◌, Bool, List, ◌++◌, length, take, drop}
use Rattle.std.specs.List.{concat}
use Rattle.std.specs.Str.{encode_utf8_all}
use Rattle.rope_text.specs.Text.{byte_len}
use Rattle.rope_text.specs.Sides.{Sides}
use Rattle.rope_slice.specs.Path.{Place}
use Rattle.rope_slice.specs.Point.{IsChunkAt, AreSolid}

-- before the byte `at` of a chunk
abbrev pub at_byte : Place → List ℕ → ℕ → Bool → Sides ℕ
at_byte p chunk at is_backward = record {
  left = encode_utf8_all (concat p.before) ++ take at chunk;
  right = drop at chunk ++ encode_utf8_all (concat p.after);
  is_backward = is_backward;
}

-- the chunk is the one here, and the counts are right
pub record IsByteCursor (p : Place) (chunk : List ℕ) (at before total : ℕ) : Type 0 where
  pub chunk_is : IsChunkAt p chunk
  pub within : at ≤ length chunk
  pub before_is : before ≡ byte_len (concat p.before)
  pub total_is : total ≡ before + length chunk + byte_len (concat p.after)
  pub solid : AreSolid p total
