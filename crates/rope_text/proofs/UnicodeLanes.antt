-- The tests of a block for Unicode's line breaks, each as the definition of a break has it.
use Rattle.std.proofs.Common.{◌≡◌, ℕ, ◌+◌, ◌%◌, ◌<◌, ◌&&◌, ◌||◌, Bool, true, false, cond, not, eqb, leb, bit_and, refl, arith}
use Rattle.std.proofs.lemmas.Bool.{both_ways, eqb-true}
use Rattle.std.proofs.lemmas.Bool.Decides.{nat_tests}

-- one comparison for LF, VT, FF and a CR that no LF follows
pub low_break : (x y : ℕ) → x < 256 → leb ((x + 246) % 256) (cond (eqb y 10) 2 3)
    ≡ ((leb 10 x && leb x 12) || (eqb x 13 && not (eqb y 10)))
low_break x y small = go (eqb y 10)
  where
    go : (lf : Bool) → leb ((x + 246) % 256) (cond lf 2 3)
        ≡ ((leb 10 x && leb x 12) || (eqb x 13 && not lf))
    go true = grind (arith, nat_tests)
    go false = grind (arith, nat_tests)

-- one comparison for the bytes with which NEL, LS and PS begin
pub no_multibyte_begin : (x : ℕ) → eqb (bit_and x 223) 194 ≡ false
    → (eqb x 194 || eqb x 226) ≡ false
no_multibyte_begin x off = go (eqb x 194) (eqb x 226) refl refl
  where
    go : (s t : Bool) → eqb x 194 ≡ s → eqb x 226 ≡ t → (eqb x 194 || eqb x 226) ≡ false
    go true t e f = let same = eqb-true x 194 e in absurd (both_ways true (rw same at off) refl)
    go false true e f = let same = eqb-true x 226 f in absurd (both_ways true (rw same at off) refl)
    go false false e f = rw (e, f) refl
