-- The state that a hasher of the tests keeps of its writes.
use Rattle.std.specs.Prelude.{ℕ, List, [], ◌∷◌}

-- the first byte, or the kept one if there is none
abbrev pub first_or : ℕ → List ℕ → ℕ
first_or kept [] = kept
first_or kept (byte ∷ bytes) = byte
