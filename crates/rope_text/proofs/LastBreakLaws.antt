-- The line break at the end of a text, found in its bytes.
use Rattle.std.proofs.Common.{◌≡◌, ℕ, zero, suc, ◌+◌, ◌-◌, ◌<◌, ◌≤◌, true, false, ◌&&◌, eqb, List, [], ◌∷◌, length, take, drop, get_or, refl, sym, ap, ap₂, ◌∙◌, arith, inl, inr}
use Rattle.std.proofs.lemmas.Bool.{and_parts, cases_lt}
use Rattle.std.proofs.lemmas.Bool.Decides.{nat_tests}
use Rattle.std.proofs.lemmas.List.{append-nil, get_or-take, get_or-drop, length-take-le, take_all, drop_more, get_or_default}
use Rattle.std.proofs.lemmas.Str.{length-le-encodes, scalars-chars}
use Rattle.std.specs.Char.{encode_utf8}
use Rattle.std.specs.Str.{chars, IsUtf8, IsCharBoundary, encode_utf8_all, all_scalars}
use Rattle.rope_text.specs.declared.line_breaks.LineBreaks.{LineBreaks}
use Rattle.rope_text.specs.Text.{byte_len}
use Rattle.rope_text.specs.ByteBreaks.{break_at}
use Rattle.rope_text.specs.Breaks.{is_break_char, begins_with_lf, ends_in_cr, is_break_end}
use Rattle.rope_text.specs.LastBreak.{ends_in_break, ends_in_crlf, without_break}
use Rattle.rope_text.proofs.Apart.{last_of_more}
use Rattle.rope_text.proofs.ConversionLaws.{byte_len_more}
use Rattle.rope_text.proofs.Encoded.{Encoded, Encoded-encode}
use Rattle.rope_text.proofs.Encoded.Encoded.{one, two, three, four}
use Rattle.rope_text.proofs.FirstBytes.{first_scalar, rest_scalars, starts_same}
use Rattle.rope_text.proofs.Fronts.{front_at, first_after}
use Rattle.rope_text.proofs.Measures.{size_lt, IsMeasure-byte_len}
use Rattle.rope_text.proofs.TextParts.{take-bytes, drop-bytes, all_scalars-take, all_scalars-drop, byte_len_boundary, some_cr}
use Rattle.rope_text.proofs.Walks.{byte_len-chars}

-- the last boundary before the end has all characters but one before it
pub last_place : (bs : List ℕ) (p : ℕ) → IsUtf8 bs → 0 < length bs → IsCharBoundary bs p
    → p ≤ length bs - 1
    → ((k : ℕ) → p < k → k ≤ length bs - 1 → IsCharBoundary bs k → ⊥) → (k : ℕ)
    × (length (chars bs) ≡ suc k) × (byte_len (take k (chars bs)) ≡ p)
last_place bs p u some at before last =
    let cs : List ℕ = chars bs in
    let f = front_at bs p u at in
    let whole = byte_len-chars bs u in
    let inside : f.0 < length cs =
    elim (cases_lt f.0 (length cs)) [
      | inl less ↦ less
      | inr past ↦
          absurd (omega (arith, f.2, ap byte_len (take_all f.0 cs past)))
    ] in
    let end : length cs ≤ suc f.0 = elim (cases_lt (suc f.0) (length cs)) [
      | inr past ↦ past
      | inl less ↦
          let next = byte_len (take (suc f.0) cs) in
          let more = size_lt byte_len IsMeasure-byte_len cs f.0 (suc f.0) (omega arith) inside in
          let most =
          size_lt byte_len IsMeasure-byte_len cs (suc f.0) (length cs) less (omega arith) in
          let all = ap byte_len (take_all (length cs) cs (omega arith)) in
          absurd (last next (omega (arith, f.2)) (omega arith) (byte_len_boundary bs (suc f.0) u))
    ] in
    (f.0, omega arith, f.2)

-- whether a break ends at the end, by the bytes from there on
pub last_ends : (breaks : LineBreaks) (bs : List ℕ) (p k : ℕ) → IsUtf8 bs
    → length (chars bs) ≡ suc k → byte_len (take k (chars bs)) ≡ p
    → break_at breaks (get_or bs p 0) (get_or bs (p + 1) 0) (get_or bs (p + 2) 0)
    ≡ ends_in_break breaks (chars bs)
last_ends breaks bs p k u long place = (first_after breaks bs p k u place (omega (arith, long))).0
    ∙ ap (is_break_end breaks (chars bs)) (sym long)

last_byte : (c : ℕ) (bs : List ℕ) → Encoded c bs → eqb (get_or bs (length bs - 1) 0) 13 ≡ eqb c 13
last_byte c bs (one h) = refl
last_byte c bs (two h i p q) = grind (arith, nat_tests)
last_byte c bs (three h i p q r) = grind (arith, nat_tests)
last_byte c bs (four h i p q r s) = grind (arith, nat_tests)

-- a text ends in CR where its bytes do
ends_same : (cs : List ℕ) → all_scalars cs ≡ true
    → eqb (get_or (encode_utf8_all cs) (byte_len cs - 1) 0) 13 ≡ ends_in_cr cs
ends_same [] s = refl
ends_same (c ∷ []) s =
    ap (λ bs. eqb (get_or bs (length bs - 1) 0) 13) (append-nil (encode_utf8 c))
    ∙ last_byte c (encode_utf8 c) (Encoded-encode c (first_scalar c [] s))
ends_same (c ∷ d ∷ cs) s =
    ap (λ b. eqb b 13) (last_of_more (encode_utf8 c) (encode_utf8_all (d ∷ cs))
    (omega (arith, length-le-encodes (d ∷ cs)))) ∙ ends_same (d ∷ cs) (rest_scalars c (d ∷ cs) s)

first_lf : (bs : List ℕ) (p k : ℕ) → IsUtf8 bs → byte_len (take k (chars bs)) ≡ p
    → k < length (chars bs) → eqb (get_or bs p 0) 10 ≡ eqb (get_or (chars bs) k 0) 10
first_lf bs p k u place less =
    let cs : List ℕ = chars bs in
    let bytes : drop p bs ≡ encode_utf8_all (drop k cs) = ap (λ q. drop q bs) (sym place)
    ∙ drop-bytes bs k u in
    let first : get_or bs p 0 ≡ get_or (encode_utf8_all (drop k cs)) 0 0 =
    ap (λ q. get_or bs q 0) (let e : p ≡ p + 0 = omega arith in e) ∙ sym (get_or-drop p bs 0 0)
    ∙ ap (λ ds. get_or ds 0 0) bytes in
    ap (λ b. eqb b 10) first ∙ starts_same (drop k cs) (all_scalars-drop k cs (scalars-chars bs u))
    ∙ ap begins_with_lf (drop_more cs k 0 less)

pub last_cr : (bs : List ℕ) (p k : ℕ) → IsUtf8 bs → byte_len (take k (chars bs)) ≡ p → 0 < p
    → p ≤ length bs → eqb (get_or bs (p - 1) 0) 13 ≡ ends_in_cr (take k (chars bs))
last_cr bs p k u place some within =
    let cs : List ℕ = chars bs in
    let bytes : take p bs ≡ encode_utf8_all (take k cs) = ap (λ q. take q bs) (sym place)
    ∙ take-bytes bs k u in
    let last : get_or bs (p - 1) 0 ≡ get_or (encode_utf8_all (take k cs)) (byte_len (take k cs) - 1)
    0 =
    sym (get_or-take p bs (p - 1) 0 (omega arith))
    ∙ ap₂ (λ ds j. get_or ds (j - 1) 0) bytes (sym place) in
    ap (λ b. eqb b 13) last ∙ ends_same (take k cs) (all_scalars-take k cs (scalars-chars bs u))

never_both : (x : ℕ) → (eqb x 13 && eqb x 10) ≡ false
never_both x = grind (arith, nat_tests)

-- whether the text ends with CR LF, by the bytes at its last character
pub last_crlf : (bs : List ℕ) (p k : ℕ) → IsUtf8 bs → p ≤ length bs → length (chars bs) ≡ suc k
    → byte_len (take k (chars bs)) ≡ p
    → (eqb (get_or bs (p - 1) 0) 13 && eqb (get_or bs p 0) 10) ≡ ends_in_crlf (chars bs)
last_crlf bs p k u within long place =
    let cs : List ℕ = chars bs in
    let back : k ≡ length cs - 1 = omega (arith, long) in
    let lf = first_lf bs p k u place (omega (arith, long)) in
    elim (cases_lt 0 p) [
      | inl some ↦ ap₂ (λ x y. x && y) (last_cr bs p k u place some within) lf
          ∙ ap (λ j. ends_in_cr (take j cs) && eqb (get_or cs j 0) 10) back
      | inr none ↦
          let start : p ≡ 0 = omega arith in
          let first : k ≡ 0 =
          omega (
            arith,
            length-le-encodes (take k cs),
            length-take-le k cs (omega (arith, long)),
            place,
          ) in
          let zero_back : 0 ≡ length cs - 1 = omega (arith, back) in
          rw start (never_both (get_or bs 0 0))
          ∙ ap (λ j. ends_in_cr (take j cs) && eqb (get_or cs j 0) 10) zero_back
    ]

-- the bytes before the break at the end
pub no_break : (breaks : LineBreaks) (bs : List ℕ) → IsUtf8 bs
    → ends_in_break breaks (chars bs) ≡ false
    → length bs ≡ byte_len (without_break breaks (chars bs))
no_break breaks bs u none =
    let cs : List ℕ = chars bs in
    rw none (sym (byte_len-chars bs u)
    ∙ ap byte_len (sym (take_all (length cs - 0) cs (omega arith))))

pub one_break : (breaks : LineBreaks) (bs : List ℕ) (p k : ℕ) → length (chars bs) ≡ suc k
    → byte_len (take k (chars bs)) ≡ p
    → ends_in_break breaks (chars bs) ≡ true
    → (is_break_char breaks 13 && ends_in_crlf (chars bs)) ≡ false
    → p ≡ byte_len (without_break breaks (chars bs))
one_break breaks bs p k long place ends lone =
    let same : k ≡ length (chars bs) - 1 = omega (arith, long) in
    rw (ends, lone) (sym place ∙ ap (λ j. byte_len (take j (chars bs))) same)

front_and_cr : (cs : List ℕ) (j : ℕ) → length cs ≡ suc j → ends_in_cr cs ≡ true → get_or cs j 0 ≡ 13
front_and_cr [] j long e = absurd (omega arith)
front_and_cr (c ∷ []) zero long e = grind (arith, nat_tests)
front_and_cr (c ∷ []) (suc j) long e = absurd (omega arith)
front_and_cr (c ∷ d ∷ cs) zero long e = absurd (omega arith)
front_and_cr (c ∷ d ∷ cs) (suc j) long e = front_and_cr (d ∷ cs) j (omega arith) e

pub crlf_break : (breaks : LineBreaks) (bs : List ℕ) (p k : ℕ) → IsUtf8 bs
    → length (chars bs) ≡ suc k → byte_len (take k (chars bs)) ≡ p
    → ends_in_break breaks (chars bs) ≡ true
    → (is_break_char breaks 13 && ends_in_crlf (chars bs)) ≡ true
    → p - 1 ≡ byte_len (without_break breaks (chars bs))
crlf_break breaks bs p k u long place ends pair =
    let cs : List ℕ = chars bs in
    let crlf = (and_parts (is_break_char breaks 13) (ends_in_crlf cs) pair).1 in
    let same : length cs - 1 ≡ k = omega (arith, long) in
    let cr : ends_in_cr (take k cs) ≡ true = ap (λ j. ends_in_cr (take j cs)) (sym same)
    ∙ (and_parts (ends_in_cr (take (length cs - 1) cs)) (eqb (get_or cs (length cs - 1) 0) 10)
    crlf).0 in
    let size = length-take-le k cs (omega (arith, long)) in
    let some = some_cr (take k cs) cr in
    let step : suc (k - 1) ≡ k = omega arith in
    let last : get_or cs (k - 1) 0 ≡ 13 = sym (get_or-take k cs (k - 1) 0 (omega arith))
    ∙ front_and_cr (take k cs) (k - 1) (omega arith) cr in
    let here : k - 1 < length cs = omega (arith, long) in
    let more =
    byte_len_more cs (k - 1) 13 (
      here,
      sym (ap (λ c. c) last)
          ∙ get_or_default cs (k - 1) 0 13 here,
    ) in
    let front : byte_len (take k cs) ≡ byte_len (take (k - 1) cs) + 1 =
    ap (λ j. byte_len (take j cs)) (sym step) ∙ more in
    let end : k - 1 ≡ length cs - 2 = omega (arith, long) in
    let place_back : p - 1 ≡ byte_len (take (k - 1) cs) = omega (arith, front, place) in
    rw (ends, pair) (place_back ∙ ap (λ j. byte_len (take j cs)) end)

-- an empty text has no break
pub no_bytes : (breaks : LineBreaks) (bs : List ℕ) → IsUtf8 bs → length bs ≡ 0
    → ends_in_break breaks (chars bs) ≡ false
no_bytes breaks bs u none =
    let long = length-le-encodes (chars bs) in
    let empty : length (chars bs) ≡ 0 = omega (arith, byte_len-chars bs u) in
    ap (is_break_end breaks (chars bs)) empty

pub some_bytes : (breaks : LineBreaks) (bs : List ℕ) → IsUtf8 bs
    → ends_in_break breaks (chars bs) ≡ true → 0 < length bs
some_bytes breaks bs u ends =
    elim (cases_lt 0 (length bs)) [
      | inl some ↦ some
      | inr none ↦
          absurd (let off = no_bytes breaks bs u (omega arith) in grind (arith, nat_tests))
    ]
