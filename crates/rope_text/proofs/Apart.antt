-- A cut of the bytes is never between a CR and LF of the characters.
use Rattle.std.proofs.Common.{◌≡◌, ℕ, ◌+◌, ◌-◌, ◌<◌, Bool, true, false, ◌&&◌, eqb, List, [], ◌∷◌, ◌++◌, length, take, drop, get_or, refl, sym, ap, ap₂, subst, ◌∙◌, arith}
use Rattle.std.proofs.lemmas.Bool.Decides.{nat_tests}
use Rattle.std.proofs.lemmas.List.{length-append, append-nil, get_or-take, get_or-drop, get_or-append_right, length-take-le, take_at, drop_at}
use Rattle.std.proofs.lemmas.Str.{encode_ascii, encodes-chars, scalars-chars, length-le-encodes}
use Rattle.std.specs.Char.{encode_utf8}
use Rattle.std.specs.Str.{chars, IsUtf8, all_scalars, encode_utf8_all}
use Rattle.rope_text.specs.Breaks.{begins_with_lf, ends_in_cr}
use Rattle.rope_text.specs.Cutting.{parts_crlf}
use Rattle.rope_text.specs.Cuts.{is_cut}
use Rattle.rope_text.specs.Text.{byte_len}
use Rattle.rope_text.proofs.FirstBytes.{rest_scalars, starts_same}
use Rattle.rope_text.proofs.Walks.{byte_len-chars}

pub last_of_more : (xs ys : List ℕ) → 0 < length ys
    → get_or (xs ++ ys) (length (xs ++ ys) - 1) 0 ≡ get_or ys (length ys - 1) 0
last_of_more xs ys h =
    let long = length-append xs ys in
    get_or-append_right xs ys (length xs) _ 0 refl (omega (arith, long))
    ∙ ap (λ j. get_or ys j 0) (omega (arith, long))

-- the last byte of a text that ends with CR
ends_same : (cs : List ℕ) → all_scalars cs ≡ true → ends_in_cr cs ≡ true
    → get_or (encode_utf8_all cs) (length (encode_utf8_all cs) - 1) 0 ≡ 13
ends_same [] s e = absurd (grind (arith, nat_tests))
ends_same (c ∷ []) s e =
    let cr : c ≡ 13 = grind (arith, nat_tests) in
    let bytes = append-nil (encode_utf8 c) ∙ ap encode_utf8 cr ∙ encode_ascii 13 (omega arith) in
    ap (λ bs. get_or bs (length bs - 1) 0) bytes
ends_same (c ∷ d ∷ cs) s e =
    last_of_more (encode_utf8 c) (encode_utf8_all (d ∷ cs))
    (omega (arith, length-le-encodes (d ∷ cs))) ∙ ends_same (d ∷ cs) (rest_scalars c (d ∷ cs) s) e

ends_with : (bs : List ℕ) → IsUtf8 bs → ends_in_cr (chars bs) ≡ true
    → get_or bs (length bs - 1) 0 ≡ 13
ends_with bs u e = ap (λ ds. get_or ds (length ds - 1) 0) (sym (encodes-chars bs u))
    ∙ ends_same (chars bs) (scalars-chars bs u) e

starts_with : (bs : List ℕ) → IsUtf8 bs → begins_with_lf (chars bs) ≡ true → get_or bs 0 0 ≡ 10
starts_with bs u e =
    let test : eqb (get_or bs 0 0) 10 ≡ true =
    ap (λ ds. eqb (get_or ds 0 0) 10) (sym (encodes-chars bs u))
    ∙ starts_same (chars bs) (scalars-chars bs u) ∙ e in
    grind (arith, nat_tests)

not_both : (x y : Bool) → (x ≡ true → y ≡ true → ⊥) → (x && y) ≡ false
not_both true true h = absurd (h refl refl)
not_both true false h = refl
not_both false true h = refl
not_both false false h = refl

no_cut_in_pair : (bs : List ℕ) (r : ℕ) → 0 < r → r < length bs → get_or bs (r - 1) 0 ≡ 13
    → get_or bs r 0 ≡ 10 → is_cut bs r ≡ true → ⊥
no_cut_in_pair bs r pos inside cr lf cut = grind (arith, nat_tests)

pub apart_at_cut : (bs : List ℕ) (r : ℕ) → IsUtf8 (take r bs) → IsUtf8 (drop r bs) → 0 < r
    → r < length bs → is_cut bs r ≡ true →
    parts_crlf (chars (take r bs)) (chars (drop r bs)) ≡ false
apart_at_cut bs r u v pos inside cut =
    not_both _ _ (λ e f.
    let long : length (take r bs) ≡ r = length-take-le r bs (omega arith) in
    let cr : get_or bs (r - 1) 0 ≡ 13 =
    sym (get_or-take r bs (r - 1) 0 (omega arith))
    ∙ ap (λ n. get_or (take r bs) (n - 1) 0) (sym long) ∙ ends_with (take r bs) u e in
    let lf : get_or bs r 0 ≡ 10 =
    ap (λ j. get_or bs j 0) (let z : r ≡ r + 0 = omega arith in z) ∙ sym (get_or-drop r bs 0 0)
    ∙ starts_with (drop r bs) v f in
    no_cut_in_pair bs r pos inside cr lf cut)

-- two texts between which their bytes may be cut split no CR LF
pub apart_at_seam : (xs ys : List ℕ) → IsUtf8 xs → IsUtf8 ys → 0 < length xs → 0 < length ys
    → is_cut (xs ++ ys) (length xs) ≡ true → parts_crlf (chars xs) (chars ys) ≡ false
apart_at_seam xs ys u v some_x some_y cut =
    let front = take_at xs ys (length xs) refl in
    let back = drop_at xs ys (length xs) refl in
    sym (ap₂ (λ x y. parts_crlf (chars x) (chars y)) front back)
    ∙ apart_at_cut (xs ++ ys) (length xs) (subst IsUtf8 (sym front) u) (subst IsUtf8 (sym back) v)
    some_x (omega (arith, length-append xs ys)) cut

-- a text with a byte has a character
pub some_char : (cs : List ℕ) → 0 < byte_len cs → 0 < length cs
some_char [] h = h
some_char (c ∷ cs) h = omega arith

pub has_chars : (bs : List ℕ) → IsUtf8 bs → 0 < length bs → 0 < length (chars bs)
has_chars bs u h = some_char (chars bs) (omega (arith, byte_len-chars bs u))
