-- The bytes that may follow each other in UTF-8. Private working definitions: only clauses of
-- private functions cite them.
use Rattle.std.specs.Prelude.{◌≡◌, ℕ, ◌+◌, ◌*◌, ◌/◌, ◌<◌, Bool, false, cond, List, ◌∷◌, get_or, not, nat_lt, nat_le, ◌==◌, ◌&&◌, ◌||◌}

-- exactly one of the two holds
abbrev pub differ : Bool → Bool → Bool
differ s t = cond s (not t) t

-- the byte b can't follow z, where z may be the second or a later byte of a long character
abbrev pub pair_fault : Bool → ℕ → ℕ → Bool
pair_fault in_long z b =
    let continues = nat_le 0x80 b && nat_lt b 0xC0 in
    let in_char = nat_le 0xC0 z || in_long in
    let after_none = z == 0xC0 || z == 0xC1 in
    let misplaced = differ continues in_char || (after_none || nat_le 0xF5 z) in
    let overlong = (z == 0xE0 && nat_lt b 0xA0) || (z == 0xF0 && nat_lt b 0x90) in
    misplaced || (overlong || ((z == 0xED && nat_le 0xA0 b) || (z == 0xF4 && nat_le 0x90 b)))

-- the byte b can't follow x, y and z, the three bytes before it
abbrev pub is_fault : ℕ → ℕ → ℕ → ℕ → Bool
is_fault x y z b = pair_fault (nat_le 0xE0 y || nat_le 0xF0 x) z b

-- the byte at k + 3 can't follow the three bytes before it
abbrev pub fault_at : List ℕ → ℕ → Bool
fault_at bytes k =
    is_fault (get_or bytes k 0) (get_or bytes (k + 1) 0) (get_or bytes (k + 2) 0)
    (get_or bytes (k + 3) 0)

-- each of the first n bytes may follow those before it, with three zeros before the first
pub record HasNoFault (bytes : List ℕ) (n : ℕ) : Type 0 where
  pub none : (k : ℕ) → k < n → fault_at (0 ∷ 0 ∷ 0 ∷ bytes) k ≡ false

-- each 16 of 64 lanes are the table
pub record IsRepeated (table lanes : List ℕ) : Type 0 where
  pub same : (i j : ℕ) → i < 64 → j < 16
      → get_or lanes (16 * (i / 16) + j) 0 ≡ get_or table j 0
