-- Marks of a block of bytes: the set bits of a mask whose bit k belongs to the byte k of the block.
-- Private working definitions: only clauses of private functions cite them.
use Rattle.std.specs.Prelude.{ℕ, ◌+◌, ◌%◌, ◌^◌, count_ones}

-- the number of marks among the first n bytes
abbrev pub ones_below : ℕ → ℕ → ℕ
ones_below mask n = count_ones (mask % 2 ^ n)

-- the number of marks of two masks among the first n bytes
abbrev pub marks_below : ℕ → ℕ → ℕ → ℕ
marks_below first second n = ones_below first n + ones_below second n
