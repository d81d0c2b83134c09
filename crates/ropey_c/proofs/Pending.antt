-- Bytes that wait for more, and what the next bytes make of them.
use Rattle.std.proofs.Common.{◌≡◌, ℕ, ◌+◌, ◌-◌, ◌<◌, ◌≤◌, min, true, List, [], ◌∷◌, ◌++◌, length, take, drop, refl, ap, sym, ◌∙◌, subst, arith, length-append, append_assoc, inl, inr}
use lib.Utf8.{scalars, scalar}
use Rattle.std.specs.Char.{encode_utf8}
use Rattle.std.specs.Str.{IsUtf8, chars, encode_utf8_all, all_scalars}
use Rattle.std.specs.Str.Lossy.{utf8_valid_len}
use Rattle.std.proofs.Math.Seq.{take-append-add, take-append_seam}
use Rattle.std.proofs.lemmas.Bool.{and_parts, cases_lt}
use Rattle.std.proofs.lemmas.List.{length-take, length-drop, take_at, take-take, take-append-le, take-append-drop, length-take-le, take_all, take_min}
use Rattle.std.proofs.lemmas.Str.{IsUtf8-encode, length-encode, len_utf8_bounds, chars-append, utf8_valid_len_le}
use Rattle.rope_text.specs.Read.{text_front, text_rest}
use Rattle.rope_text.proofs.ReadLaws.{IsUtf8-text_front, longest, utf8_valid_len-append, text_rest-append, length-text_front, rest_stays}

-- what is left following the longest front that is text
pub left_is : (bytes front : List ℕ) → front ≡ text_front bytes
    → take (length bytes - length front) (drop (length front) bytes) ≡ text_rest bytes
left_is bytes front e =
    take_all _ _ (omega (arith, length-drop (length front) bytes))
    ∙ ap (λ n. drop n bytes) (ap length e ∙ length-text_front bytes)

-- it begins with no text, where it is copied to the front of an array
pub none_waits : (bytes front new after : List ℕ) → front ≡ text_front bytes
    → new ≡ take (length bytes - length front) (drop (length front) bytes)
    → utf8_valid_len (take (length (take (length bytes - length front) (drop (length front) bytes)))
    (new ++ after)) ≡ 0
none_waits bytes front new after e copied =
    ap utf8_valid_len (take_at new after _ (ap length copied) ∙ copied ∙ left_is bytes front e)
    ∙ rest_stays bytes

-- where four bytes begin no character, they don't with more bytes following them
no_character : (h t cs : List ℕ) (n : ℕ) → 4 ≤ length h → utf8_valid_len h ≡ 0 → n ≤ length (h ++ t)
    → scalars cs ≡ true
    → encode_utf8_all cs ≡ take n (h ++ t) → n ≡ 0
no_character h t [] n four none within s e =
    omega (arith, ap length e, length-take-le n (h ++ t) within)
no_character h t (c ∷ cs) n four none within s e =
    let d = encode_utf8 c in
    let m = length d in
    let bounds = len_utf8_bounds c in
    let size = length-encode c in
    let parts : d ++ encode_utf8_all cs ≡ take n (h ++ t) = e in
    let fits : m ≤ n =
    omega (
      arith,
      ap length parts,
      length-append d (encode_utf8_all cs),
      length-take-le n (h ++ t) within,
    ) in
    let begins : take m h ≡ d =
    sym (take-append-le m h t (omega arith)) ∙ sym (take-take m n (h ++ t) fits)
    ∙ ap (take m) (sym parts) ∙ take_at d (encode_utf8_all cs) m refl in
    let found : m ≤ utf8_valid_len h =
    longest h m (omega arith)
    (subst IsUtf8 (sym begins) (IsUtf8-encode c (and_parts (scalar c) (all_scalars cs) s).0)) in
    absurd (omega arith)

pub four_tell : (h t : List ℕ) → 4 ≤ length h → utf8_valid_len h ≡ 0 → utf8_valid_len (h ++ t) ≡ 0
four_tell h t four none =
    let u = IsUtf8-text_front (h ++ t) in
    no_character h t u.0 (utf8_valid_len (h ++ t)) four none (utf8_valid_len_le (h ++ t)) u.1.0
    u.1.1

module _ (rest bytes : List ℕ) (k : ℕ) (none : utf8_valid_len rest ≡ 0) where
  -- the bytes that wait, and some more
  abbrev pub head : List ℕ
  head = rest ++ take k bytes

  -- a text that they begin with goes beyond those that wait
  pub past : 0 < utf8_valid_len head → length rest < utf8_valid_len head
  past some = elim (cases_lt (length rest) (utf8_valid_len head)) [
    | inl less ↦ less
    | inr more ↦
        let n = utf8_valid_len head in
        let same : take n head ≡ take n rest = take-append-le n rest (take k bytes) more in
        let l : n ≤ utf8_valid_len rest =
        longest rest n more (subst IsUtf8 same (IsUtf8-text_front head)) in
        absurd (omega arith)
  ]

  module _ (some : 0 < utf8_valid_len head) where
    abbrev gone : ℕ
    gone = utf8_valid_len head - length rest

    abbrev pub following : List ℕ
    following = drop gone bytes

    size : utf8_valid_len head ≡ length rest + gone
    size = omega (arith, past some)

    within : gone ≤ k
    within = omega (
      arith,
      utf8_valid_len_le head,
      length-append rest (take k bytes),
      length-take k bytes,
    )

    front_is : text_front head ≡ rest ++ take gone bytes
    front_is = ap (λ n. take n head) size ∙ take-append-add rest (take k bytes) gone
        ∙ ap (λ xs. rest ++ xs) (take-take gone k bytes within)

    -- the character and the bytes following it are all the bytes
    split : rest ++ bytes ≡ text_front head ++ following
    split = ap (λ xs. rest ++ xs) (sym (take-append-drop gone bytes))
        ∙ sym (append_assoc rest (take gone bytes) following)
        ∙ ap (λ xs. xs ++ following) (sym front_is)

    u : IsUtf8 (text_front head)
    u = IsUtf8-text_front head

    -- so the rest of all the bytes is that of those following it, and the front begins with it
    pub split_len : utf8_valid_len (rest ++ bytes)
        ≡ length (text_front head) + utf8_valid_len following
    split_len = ap utf8_valid_len split ∙ utf8_valid_len-append (text_front head) following u

    pub split_rest : text_rest (rest ++ bytes) ≡ text_rest following
    split_rest = ap text_rest split ∙ text_rest-append (text_front head) following u

    split_front : text_front (rest ++ bytes) ≡ text_front head ++ text_front following
    split_front = ap (λ n. take n (rest ++ bytes)) split_len
        ∙ ap (take (length (text_front head) + utf8_valid_len following)) split
        ∙ take-append-add (text_front head) following (utf8_valid_len following)

    pub split_front_len : length (text_front (rest ++ bytes))
        ≡ length (text_front head) + length (text_front following)
    split_front_len = ap length split_front ∙ length-append (text_front head) (text_front following)

    pub split_chars : chars (text_front (rest ++ bytes)) ≡ chars (text_front head)
        ++ chars (text_front following)
    split_chars = ap chars split_front ∙ chars-append (text_front head) (text_front following) u

  -- no text begins with them: then none of all the bytes does, and where these are fewer than four
  -- they are all of them
  module _ (nothing : utf8_valid_len head ≡ 0) (few : length rest ≤ 3) (k_is : k ≡ 4 - length rest)
    where
      head_size : length head ≡ length rest + min k (length bytes)
      head_size = omega (arith, length-append rest (take k bytes), length-take k bytes)

      pub whole : length head < 4 → head ≡ rest ++ bytes
      whole l = ap (λ xs. rest ++ xs) (take_all k bytes (omega (arith, head_size)))

      pub none_in_all : utf8_valid_len (rest ++ bytes) ≡ 0
      none_in_all = elim (cases_lt (length head) 4) [
        | inl less ↦ ap utf8_valid_len (sym (whole less)) ∙ nothing
        | inr four ↦
            let parts : rest ++ bytes ≡ head ++ drop k bytes =
            ap (λ xs. rest ++ xs) (sym (take-append-drop k bytes))
            ∙ sym (append_assoc rest (take k bytes) (drop k bytes)) in
            ap utf8_valid_len parts ∙ four_tell head (drop k bytes) four nothing
      ]

      pub rest_of_all : text_rest (rest ++ bytes) ≡ rest ++ bytes
      rest_of_all = ap (λ n. drop n (rest ++ bytes)) none_in_all

      pub front_of_all : text_front (rest ++ bytes) ≡ []
      front_of_all = ap (λ n. take n (rest ++ bytes)) none_in_all

      pub rest_of_head : text_rest head ≡ head
      rest_of_head = ap (λ n. drop n head) nothing

      pub front_of_head : text_front head ≡ []
      front_of_head = ap (λ n. take n head) nothing

      -- either way four are left, or not
      pub as_many : 4 ≤ length head → 4 ≤ length (rest ++ bytes)
      as_many l = omega (arith, head_size, length-append rest bytes)

-- the bytes that wait, and the next ones up to four in all, written one after the other
pub four_bytes : (a m : ℕ) (first more zeros after rest bytes : List ℕ)
    → length first ≡ a → length more ≡ m → first ≡ rest → more ≡ take m bytes
    → m ≡ min (length bytes) (4 - a)
    → take (a + m) (take a (first ++ zeros) ++ (more ++ after))
    ≡ rest ++ take (4 - length rest) bytes
four_bytes a m first more zeros after rest bytes p q e f g =
    let front : take a (first ++ zeros) ≡ first =
    subst (λ n. take n (first ++ zeros) ≡ first) p (take-append_seam first zeros) in
    let back : take m (more ++ after) ≡ more =
    subst (λ n. take n (more ++ after) ≡ more) q (take-append_seam more after) in
    let count : m ≡ min (4 - length rest) (length bytes) = omega (arith, g, p, ap length e) in
    ap (λ xs. take (a + m) (xs ++ (more ++ after))) front
    ∙ ap (λ n. take (n + m) (first ++ (more ++ after))) (sym p)
    ∙ take-append-add first (more ++ after) m ∙ ap (λ xs. first ++ xs) (back ∙ f)
    ∙ ap (λ n. first ++ take n bytes) count
    ∙ ap (λ xs. first ++ xs) (take_min (4 - length rest) bytes)
    ∙ ap (λ xs. xs ++ take (4 - length rest) bytes) e
