-- The first byte of a text, and the scalar values of its slices.
use Rattle.std.proofs.Common.{◌≡◌, ℕ, true, eqb, List, [], ◌∷◌, ◌++◌, get_or, refl, arith}
use Rattle.std.proofs.lemmas.Bool.Decides.{nat_tests}
use Rattle.std.proofs.lemmas.Bool.{and_parts}
use Rattle.std.specs.Char.{IsScalar, encode_utf8}
use Rattle.std.specs.Str.{all_scalars, encode_utf8_all}
use lib.Utf8.{scalar}
use Rattle.rope_text.specs.Breaks.{begins_with_lf}
use Rattle.rope_text.proofs.Encoded.{Encoded, Encoded-encode}
use Rattle.rope_text.proofs.Encoded.Encoded.{one, two, three, four}

first_byte : (c : ℕ) (bs rest : List ℕ) → Encoded c bs → eqb (get_or (bs ++ rest) 0 0) 10 ≡ eqb c 10
first_byte c bs rest (one h) = refl
first_byte c bs rest (two h i p q) = grind (arith, nat_tests)
first_byte c bs rest (three h i p q r) = grind (arith, nat_tests)
first_byte c bs rest (four h i p q r s) = grind (arith, nat_tests)

pub first_scalar : (c : ℕ) (cs : List ℕ) → all_scalars (c ∷ cs) ≡ true → IsScalar c
first_scalar c cs e = (and_parts (scalar c) (all_scalars cs) e).0

pub rest_scalars : (c : ℕ) (cs : List ℕ) → all_scalars (c ∷ cs) ≡ true → all_scalars cs ≡ true
rest_scalars c cs e = (and_parts (scalar c) (all_scalars cs) e).1

-- a text begins with LF where its bytes do
pub starts_same : (cs : List ℕ) → all_scalars cs ≡ true
    → eqb (get_or (encode_utf8_all cs) 0 0) 10 ≡ begins_with_lf cs
starts_same [] s = refl
starts_same (c ∷ cs) s =
    first_byte c (encode_utf8 c) (encode_utf8_all cs) (Encoded-encode c (first_scalar c cs s))
