-- The bytes of UTF-8 that begin a character.
use Rattle.std.specs.Prelude.{ℕ, Bool, ◌||◌, nat_lt, nat_le}

-- whether a character begins with the byte
abbrev pub begins_char : ℕ → Bool
begins_char b = nat_lt b 128 || nat_le 192 b

-- whether a character of four bytes, which takes two code units in UTF-16, begins with the byte
abbrev pub begins_pair : ℕ → Bool
begins_pair b = nat_le 240 b
