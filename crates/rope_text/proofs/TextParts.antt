-- The characters of a part of a text, and the bytes that they take.
use Rattle.std.proofs.Common.{◌≡◌, ℕ, zero, suc, ◌-◌, ◌<◌, true, List, [], ◌∷◌, ◌++◌, length, take, drop, refl, sym, ap, ◌∙◌, arith, take-append-drop}
use Rattle.std.proofs.lemmas.Bool.{and_from}
use Rattle.std.proofs.lemmas.List.{take_at, drop_at, append-nil}
use Rattle.std.proofs.lemmas.Str.{encodes-append, encodes-chars, scalars-chars, chars-encodes, IsCharBoundary-at_seam, chars-nil}
use Rattle.std.specs.Str.{chars, IsUtf8, IsCharBoundary, all_scalars, encode_utf8_all}
use Rattle.rope_text.specs.Text.{byte_len}
use Rattle.rope_text.specs.Breaks.{begins_with_lf, ends_in_cr}
use Rattle.std.proofs.lemmas.Bool.Decides.{nat_tests}
use Rattle.rope_text.proofs.FirstBytes.{first_scalar, rest_scalars}
use lib.Utf8.{scalar}

pub all_scalars-take : (i : ℕ) (cs : List ℕ) → all_scalars cs ≡ true
    → all_scalars (take i cs) ≡ true
all_scalars-take zero cs s = refl
all_scalars-take (suc i) [] s = refl
all_scalars-take (suc i) (c ∷ cs) s =
    and_from (scalar c) (all_scalars (take i cs)) (first_scalar c cs s)
    (all_scalars-take i cs (rest_scalars c cs s))

pub all_scalars-drop : (i : ℕ) (cs : List ℕ) → all_scalars cs ≡ true
    → all_scalars (drop i cs) ≡ true
all_scalars-drop zero cs s = s
all_scalars-drop (suc i) [] s = refl
all_scalars-drop (suc i) (c ∷ cs) s = all_scalars-drop i cs (rest_scalars c cs s)

-- the bytes of the first i characters, and those of the rest
cut_bytes : (i : ℕ) (cs : List ℕ) → encode_utf8_all cs ≡ encode_utf8_all (take i cs)
    ++ encode_utf8_all (drop i cs)
cut_bytes i cs = ap encode_utf8_all (sym (take-append-drop i cs))
    ∙ encodes-append (take i cs) (drop i cs)

pub take-bytes : (bs : List ℕ) (i : ℕ) → IsUtf8 bs
    → take (byte_len (take i (chars bs))) bs ≡ encode_utf8_all (take i (chars bs))
take-bytes bs i u =
    let cs = chars bs in
    ap (take (byte_len (take i cs))) (sym (encodes-chars bs u) ∙ cut_bytes i cs)
    ∙ take_at (encode_utf8_all (take i cs)) (encode_utf8_all (drop i cs)) _ refl

pub drop-bytes : (bs : List ℕ) (i : ℕ) → IsUtf8 bs
    → drop (byte_len (take i (chars bs))) bs ≡ encode_utf8_all (drop i (chars bs))
drop-bytes bs i u =
    let cs = chars bs in
    ap (drop (byte_len (take i cs))) (sym (encodes-chars bs u) ∙ cut_bytes i cs)
    ∙ drop_at (encode_utf8_all (take i cs)) (encode_utf8_all (drop i cs)) _ refl

pub chars-take : (bs : List ℕ) (i : ℕ) → IsUtf8 bs
    → chars (take (byte_len (take i (chars bs))) bs) ≡ take i (chars bs)
chars-take bs i u = ap chars (take-bytes bs i u)
    ∙ chars-encodes (take i (chars bs)) (all_scalars-take i (chars bs) (scalars-chars bs u))

pub chars-drop : (bs : List ℕ) (i : ℕ) → IsUtf8 bs
    → chars (drop (byte_len (take i (chars bs))) bs) ≡ drop i (chars bs)
chars-drop bs i u = ap chars (drop-bytes bs i u)
    ∙ chars-encodes (drop i (chars bs)) (all_scalars-drop i (chars bs) (scalars-chars bs u))

pub byte_len_boundary : (bs : List ℕ) (i : ℕ) → IsUtf8 bs
    → IsCharBoundary bs (byte_len (take i (chars bs)))
byte_len_boundary bs i u =
    let cs = chars bs in
    IsCharBoundary-at_seam bs (encode_utf8_all (take i cs)) (encode_utf8_all (drop i cs))
    (sym (encodes-chars bs u) ∙ cut_bytes i cs)
    (drop i cs, (all_scalars-drop i cs (scalars-chars bs u), refl))

-- the characters of a prefix or suffix cut at a boundary
pub chars_front : (bs r cs : List ℕ) (i b : ℕ) → IsUtf8 bs → chars bs ≡ cs
    → b ≡ byte_len (take i (chars bs)) → r ≡ take (b - 0) bs → chars r ≡ take i cs
chars_front bs r cs i b u same place cut =
    ap chars (cut ∙ ap (λ k. take k bs) (omega (arith, place))) ∙ chars-take bs i u
    ∙ ap (take i) same

pub chars_back : (bs r cs : List ℕ) (i b : ℕ) → IsUtf8 bs → chars bs ≡ cs
    → b ≡ byte_len (take i (chars bs)) → r ≡ drop b bs → chars r ≡ drop i cs
chars_back bs r cs i b u same place cut = ap chars (cut ∙ ap (λ k. drop k bs) place)
    ∙ chars-drop bs i u ∙ ap (drop i) same

pub no_chars : (cs : List ℕ) → cs ++ (chars [] ++ chars []) ≡ cs
no_chars cs = ap (λ r. cs ++ (r ++ r)) chars-nil ∙ append-nil cs

pub lf_first : (cs : List ℕ) → begins_with_lf cs ≡ true → cs ≡ 10 ∷ drop 1 cs
lf_first [] e = absurd (grind (arith, nat_tests))
lf_first (c ∷ cs) e = let lf : c ≡ 10 = grind (arith, nat_tests) in ap (λ d. d ∷ cs) lf

front_and_cr : (c : ℕ) (cs : List ℕ) → ends_in_cr (c ∷ cs) ≡ true
    → c ∷ cs ≡ take (length cs) (c ∷ cs) ++ 13 ∷ []
front_and_cr c [] e = let cr : c ≡ 13 = grind (arith, nat_tests) in ap (λ d. d ∷ []) cr
front_and_cr c (d ∷ cs) e = ap (λ r. c ∷ r) (front_and_cr d cs e)

pub cr_last : (cs : List ℕ) → ends_in_cr cs ≡ true → cs ≡ take (length cs - 1) cs ++ 13 ∷ []
cr_last [] e = absurd (grind (arith, nat_tests))
cr_last (c ∷ cs) e = front_and_cr c cs e ∙ ap (λ n. take n (c ∷ cs) ++ 13 ∷ []) (omega arith)

pub some_cr : (cs : List ℕ) → ends_in_cr cs ≡ true → 0 < length cs
some_cr [] e = absurd (grind (arith, nat_tests))
some_cr (c ∷ cs) e = omega arith
