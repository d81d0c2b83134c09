-- Chunks such that any two adjacent ones have more than half the maximum bytes of one.
use Rattle.std.specs.Prelude.{ℕ, ◌+◌, ◌≤◌, List, [], ◌∷◌, ⊤}
use Rattle.rope_text.specs.declared.TheConstants.{MIN_TWO_LEAVES_BYTES}
use Rattle.rope_text.specs.Text.{byte_len}

-- each chunk has 492 bytes or more together with the one before it, and the first together with
-- `before` bytes
abbrev pub IsDenseAfter : ℕ → List (List ℕ) → Type 0
IsDenseAfter before [] = ⊤
IsDenseAfter before (chunk ∷ chunks) = (MIN_TWO_LEAVES_BYTES ≤ before + byte_len chunk)
    × IsDenseAfter (byte_len chunk) chunks

-- any two adjacent chunks have 492 bytes or more together
abbrev pub AreDense : List (List ℕ) → Type 0
AreDense chunks = IsDenseAfter MIN_TWO_LEAVES_BYTES chunks

-- the number of bytes of the last chunk, or `before` if there is no chunk
abbrev pub last_bytes : ℕ → List (List ℕ) → ℕ
last_bytes before [] = before
last_bytes before (chunk ∷ chunks) = last_bytes (byte_len chunk) chunks
