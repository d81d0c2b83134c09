-- The cuts of a text: a cut is a character boundary, and each four consecutive positions have one.
use Rattle.std.proofs.Common.{◌≡◌, ℕ, ◌+◌, ◌-◌, ◌<◌, ◌≤◌, true, List, [], ◌∷◌, ◌++◌, length, get_or, refl, ap, ◌∙◌, arith, ⊎_elim, IsTrue, subst}
use Rattle.std.proofs.lemmas.Bool.{cases_lt, cases_eq}
use Rattle.std.proofs.lemmas.Bool.Decides.{nat_tests}
use Rattle.std.proofs.lemmas.List.{length-append, get_or-append_right}
use Rattle.std.proofs.lemmas.Str.{IsCharBoundary-start, lead_after_ascii, length-encode, len_utf8_bounds}
use Rattle.std.specs.Char.{encode_utf8}
use Rattle.std.specs.Str.{IsUtf8, IsCharBoundary, all_scalars, encode_utf8_all}
use Rattle.rope_text.specs.Bytes.{begins_char}
use Rattle.rope_text.specs.Cuts.{is_cut}
use Rattle.rope_text.proofs.Encoded.{Encoded, Encoded-encode}
use Rattle.rope_text.proofs.Encoded.Encoded.{one, two, three, four}
use Rattle.rope_text.proofs.FirstBytes.{first_scalar, rest_scalars}

pub boundary_of_cut : (bs : List ℕ) (i : ℕ) → IsUtf8 bs → i ≤ length bs → IsTrue (is_cut bs i)
    → IsCharBoundary bs i
boundary_of_cut bs i u h cut =
    ⊎_elim
    (λ (e : i ≡ 0). rw e (IsCharBoundary-start bs u))
    (λ n. (h, λ l big. grind (arith, nat_tests)))
    (cases_eq i 0)

first_lead : (c : ℕ) (bs rest : List ℕ) → Encoded c bs
    → begins_char (get_or (bs ++ rest) 0 0) ≡ true
first_lead c bs rest (one h) = grind (arith, nat_tests)
first_lead c bs rest (two h i p q) = grind (arith, nat_tests)
first_lead c bs rest (three h i p q r) = grind (arith, nat_tests)
first_lead c bs rest (four h i p q r s) = grind (arith, nat_tests)

first_of_text : (cs : List ℕ) → all_scalars cs ≡ true → 0 < length (encode_utf8_all cs)
    → begins_char (get_or (encode_utf8_all cs) 0 0) ≡ true
first_of_text [] s h = absurd (omega arith)
first_of_text (c ∷ cs) s h =
    first_lead c (encode_utf8 c) (encode_utf8_all cs) (Encoded-encode c (first_scalar c cs s))

lead_from : (y : ℕ) → (128 ≤ y → 192 ≤ y) → begins_char y ≡ true
lead_from y h = grind (arith, nat_tests)

end_is_cut : (bs : List ℕ) → IsTrue (is_cut bs (length bs))
end_is_cut bs = grind (arith, nat_tests)

-- one of four bytes in a row begins a character
abbrev LeadNear : List ℕ → ℕ → Type 0
LeadNear bs i = (k : ℕ) × (i ≤ k) × (k ≤ i + 3) × (begins_char (get_or bs k 0) ≡ true)

lead_near : (cs : List ℕ) → all_scalars cs ≡ true → (i : ℕ) → i + 3 < length (encode_utf8_all cs)
    → LeadNear (encode_utf8_all cs) i
lead_near [] s i h = absurd (omega arith)
lead_near (c ∷ cs) s i h =
    let n = length (encode_utf8 c) in
    let rest = encode_utf8_all cs in
    let whole : length (encode_utf8 c ++ rest) ≡ n + length rest =
    length-append (encode_utf8 c) rest in
    let small : n ≤ 4 = omega (arith, length-encode c, (len_utf8_bounds c).1) in
    ⊎_elim
    (λ (e : i ≡ 0). (
      0,
      omega arith,
      omega arith,
      first_lead c (encode_utf8 c) rest (Encoded-encode c (first_scalar c cs s)),
    ))
    (λ ne. ⊎_elim
    (λ (l : i < n). (
      n,
      omega arith,
      omega arith,
      ap begins_char (get_or-append_right (encode_utf8 c) rest n n 0 refl (omega arith)
          ∙ ap (λ j. get_or rest j 0) (let z : n - n ≡ 0 = omega arith in z))
          ∙ first_of_text cs (rest_scalars c cs s) (omega arith),
    ))
    (λ (g : n ≤ i).
    let r = lead_near cs (rest_scalars c cs s) (i - n) (omega arith) in (
      n + r.0,
      omega arith,
      omega arith,
      ap begins_char
          (get_or-append_right (encode_utf8 c) rest n (n + r.0) 0 refl (omega arith)
          ∙ ap (λ j. get_or rest j 0) (let z : (n + r.0) - n ≡ r.0 = omega arith in z)) ∙ r.3,
    ))
    (cases_lt i n))
    (cases_eq i 0)

abbrev pub CutNear : List ℕ → ℕ → Type 0
CutNear bs i = (k : ℕ) × (i ≤ k) × (k ≤ i + 3) × IsTrue (is_cut bs k)

cut_from_seam : (bs : List ℕ) (k x y : ℕ) → get_or bs (k - 1) 0 ≡ x → get_or bs k 0 ≡ y
    → begins_char y ≡ true → (x ≡ 13 → y ≡ 10 → ⊥) → IsTrue (is_cut bs k)
cut_from_seam bs k x y e f lead apart = grind (arith, nat_tests)

cut_from_lead : (bs : List ℕ) (i : ℕ) → IsUtf8 bs → i + 3 < length bs → 0 < i → LeadNear bs i
    → CutNear bs i
cut_from_lead bs i u h pos (k, low, high, lead) =
    ⊎_elim
    (λ (lf : get_or bs k 0 ≡ 10). ⊎_elim
    (λ (cr : get_or bs (k - 1) 0 ≡ 13). ⊎_elim
    (λ (past : i < k). (
      k - 1,
      omega arith,
      omega arith,
      cut_from_seam bs (k - 1) _ 13 refl cr refl (λ _ e. absurd (omega arith)),
    ))
    (λ (same : k ≤ i).
    let here : get_or bs i 0 ≡ 10 = ap (λ j. get_or bs j 0) (let e : i ≡ k = omega arith in e)
    ∙ lf in
    let next : 128 ≤ get_or bs (i + 1) 0 → 192 ≤ get_or bs (i + 1) 0 =
    lead_after_ascii bs i u (omega arith) (omega arith) in
    let is_next : begins_char (get_or bs (i + 1) 0) ≡ true =
    lead_from (get_or bs (i + 1) 0) next in (
      i + 1,
      omega arith,
      omega arith,
      cut_from_seam bs (i + 1) 10 _
          (ap (λ j. get_or bs j 0) (let e : (i + 1) - 1 ≡ i = omega arith in e) ∙ here) refl is_next
          (λ e _. absurd (omega arith)),
    ))
    (cases_lt i k))
    (λ no. (k, low, high, cut_from_seam bs k _ _ refl refl lead (λ e _. no e)))
    (cases_eq (get_or bs (k - 1) 0) 13))
    (λ no. (k, low, high, cut_from_seam bs k _ _ refl refl lead (λ _ e. no e)))
    (cases_eq (get_or bs k 0) 10)

near_in_text : (bs : List ℕ) (i : ℕ) → IsUtf8 bs → i + 3 < length bs → LeadNear bs i
near_in_text bs i (cs, (s, e)) h =
    subst (λ ds. LeadNear ds i) e (lead_near cs s i (omega (arith, ap length e)))

pub cut_near : (bs : List ℕ) (i : ℕ) → IsUtf8 bs → 0 < i → i + 3 ≤ length bs → CutNear bs i
cut_near bs i u pos h =
    ⊎_elim
    (λ (inside : i + 3 < length bs). cut_from_lead bs i u inside pos (near_in_text bs i u inside))
    (λ (end : length bs ≤ i + 3). (length bs, omega arith, omega arith, end_is_cut bs))
    (cases_lt (i + 3) (length bs))
