-- The end of an index range.
use Rattle.std.specs.Prelude.{ℕ, ◌+◌, ◌-◌, ◌^◌, if◌then◌else◌, nat_lt}

-- the excluded end of a range whose last index is n, at most the greatest index
abbrev pub excluded_end : ℕ → ℕ
excluded_end n = if nat_lt n (2 ^ 64 - 1) then n + 1 else 2 ^ 64 - 1
