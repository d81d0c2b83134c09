-- The characters of a text after a CR, before an LF, or both.
use Rattle.std.proofs.Common.{◌≡◌, ℕ, Bool, true, false, cond, List, [], ◌∷◌, ◌++◌, refl, ap, ap₂, ◌∙◌, append_assoc, arith}
use Rattle.std.specs.Str.{chars, IsUtf8}
use Rattle.std.proofs.lemmas.Str.{chars-append, chars-nil, encode_ascii, IsUtf8-append, IsUtf8-nil}

one_char : chars (13 ∷ []) ≡ 13 ∷ []
unfolding chars
one_char = refl

one_lf : chars (10 ∷ []) ≡ 10 ∷ []
unfolding chars
one_lf = refl

cr_utf8 : IsUtf8 (13 ∷ [])
cr_utf8 = (13 ∷ [], (refl, ap (λ b. b ++ []) (encode_ascii 13 (omega arith))))

front_utf8 : (b : Bool) → IsUtf8 (cond {A = List ℕ} b (13 ∷ []) [])
front_utf8 true = cr_utf8
front_utf8 false = IsUtf8-nil

front_chars : (b : Bool)
    → chars (cond {A = List ℕ} b (13 ∷ []) []) ≡ cond {A = List ℕ} b (13 ∷ []) []
front_chars true = one_char
front_chars false = chars-nil

back_chars : (b : Bool)
    → chars (cond {A = List ℕ} b (10 ∷ []) []) ≡ cond {A = List ℕ} b (10 ∷ []) []
back_chars true = one_lf
back_chars false = chars-nil

pub ended_chars : (has_cr has_lf : Bool) (text whole : List ℕ) → IsUtf8 text
    → whole ≡ (cond {A = List ℕ} has_cr (13 ∷ []) [] ++ text)
    ++ cond {A = List ℕ} has_lf (10 ∷ []) []
    → chars whole ≡ cond {A = List ℕ} has_cr (13 ∷ []) []
    ++ (chars text ++ cond {A = List ℕ} has_lf (10 ∷ []) [])
ended_chars has_cr has_lf text whole utf8 is =
    let cr : List ℕ = cond {A = List ℕ} has_cr (13 ∷ []) [] in
    let lf : List ℕ = cond {A = List ℕ} has_lf (10 ∷ []) [] in
    ap chars is
    ∙ chars-append (cr ++ text) lf (IsUtf8-append cr text (front_utf8 has_cr) utf8)
    ∙ ap₂ (λ a b. a ++ b) (chars-append cr text (front_utf8 has_cr)
    ∙ ap (λ a. a ++ chars text) (front_chars has_cr)) (back_chars has_lf)
    ∙ append_assoc cr (chars text) lf
