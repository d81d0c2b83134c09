-- The counts of a text, read off its bytes.
use Rattle.std.proofs.Common.{◌≡◌, ℕ, ◌+◌, ◌/◌, ◌%◌, ◌≤◌, true, false, cond, nat_lt, nat_le, count_by, List, [], ◌∷◌, length, refl, ap, sym, ◌∙◌, arith}
use Rattle.std.specs.Str.{chars, IsUtf8, encode_utf8_all}
use Rattle.std.specs.Char.{encode_utf8}
use Rattle.std.proofs.lemmas.Str.{encodes-chars}
use Rattle.std.proofs.lemmas.Bool.{cond_both, or_left, or_right, or_from, le-ltb, le-leb, lt-leb, ltb-true, ltb-false}
use Rattle.std.proofs.lemmas.List.Sums.{sum_by-append}
use Rattle.rope_text.specs.Text.{surrogate_count, utf16_len}
use Rattle.rope_text.specs.Bytes.{begins_char, begins_pair}

lead_begins : (b : ℕ) → 192 ≤ b → begins_char b ≡ true
lead_begins b h = or_right (nat_lt b 128) (nat_le 192 b) (le-leb 192 b h)

next_begins : (n : ℕ) → begins_char (128 + n % 64) ≡ false
next_begins n =
    or_from (nat_lt (128 + n % 64) 128) (nat_le 192 (128 + n % 64)) (le-ltb _ _ (omega arith))
    (lt-leb _ _ (omega arith))

-- one byte of each character begins it
count_begins : (c : ℕ) → count_by begins_char (encode_utf8 c) ≡ 1
unfolding encode_utf8
count_begins c =
    let P : List ℕ → Type 0 = λ bs. count_by begins_char bs ≡ 1 in
    cond_both (nat_lt c 128) _ _ P (λ e. rw (or_left (nat_lt c 128) (nat_le 192 c) e) refl)
    (λ _. cond_both (nat_lt c 2048) _ _ P
    (λ _. rw (lead_begins (192 + c / 64) (omega arith), next_begins c) refl)
    (λ _. cond_both (nat_lt c 65536) _ _ P
    (λ _. rw (lead_begins (224 + c / 4096) (omega arith), next_begins (c / 64), next_begins c) refl)
    (λ _. rw (
      lead_begins (240 + c / 262144) (omega arith),
      next_begins (c / 4096),
      next_begins (c / 64),
      next_begins c,
    ) refl)))

-- and a byte of 240 or more begins just those of two code units
count_pairs : (c : ℕ) → count_by begins_pair (encode_utf8 c) ≡ cond (nat_le 65536 c) 1 0
unfolding encode_utf8
count_pairs c =
    let P : List ℕ → Type 0 = λ bs. count_by begins_pair bs ≡ cond (nat_le 65536 c) 1 0 in
    let later : (n : ℕ) → begins_pair (128 + n % 64) ≡ false =
    λ n. lt-leb 240 (128 + n % 64) (omega arith) in
    cond_both (nat_lt c 128) _ _ P (λ e. let h = ltb-true c 128 e in
    rw (lt-leb 65536 c (omega arith), lt-leb 240 c (omega arith)) refl)
    (λ _. cond_both (nat_lt c 2048) _ _ P (λ e. let h = ltb-true c 2048 e in
    rw (lt-leb 65536 c (omega arith), lt-leb 240 (192 + c / 64) (omega arith), later c) refl)
    (λ _. cond_both (nat_lt c 65536) _ _ P (λ e. let h = ltb-true c 65536 e in
    rw (lt-leb 65536 c h, lt-leb 240 (224 + c / 4096) (omega arith), later (c / 64), later c) refl)
    (λ e. let h = ltb-false c 65536 e in
    rw (
      le-leb 65536 c h,
      le-leb 240 (240 + c / 262144) (omega arith),
      later (c / 4096),
      later (c / 64),
      later c,
    ) refl)))

pub length-from_bytes : (cs : List ℕ) → count_by begins_char (encode_utf8_all cs) ≡ length cs
length-from_bytes [] = refl
length-from_bytes (c ∷ cs) =
    omega (
      arith,
      sum_by-append (λ b. cond (begins_char b) 1 0) (encode_utf8 c)
          (encode_utf8_all cs),
      count_begins c,
      length-from_bytes cs,
    )

pub pairs-from_bytes : (cs : List ℕ) → count_by begins_pair (encode_utf8_all cs)
    ≡ count_by (λ c. nat_le 65536 c) cs
pairs-from_bytes [] = refl
pairs-from_bytes (c ∷ cs) =
    omega (
      arith,
      sum_by-append (λ b. cond (begins_pair b) 1 0) (encode_utf8 c)
          (encode_utf8_all cs),
      count_pairs c,
      pairs-from_bytes cs,
      sum_by-append (λ c. cond (nat_le 65536 c) 1 0) (c ∷ []) cs,
    )

-- the characters and the code units of a text, by its bytes
pub length-chars : (bs : List ℕ) → IsUtf8 bs → length (chars bs) ≡ count_by begins_char bs
length-chars bs u = sym (length-from_bytes (chars bs))
    ∙ ap (count_by begins_char) (encodes-chars bs u)

pub surrogate_count-chars : (bs : List ℕ) → IsUtf8 bs
    → surrogate_count (chars bs) ≡ count_by begins_pair bs
surrogate_count-chars bs u = sym (pairs-from_bytes (chars bs))
    ∙ ap (count_by begins_pair) (encodes-chars bs u)

pub utf16_len-chars : (bs : List ℕ) → IsUtf8 bs
    → utf16_len (chars bs) ≡ count_by begins_char bs + count_by begins_pair bs
utf16_len-chars bs u =
    omega (arith, length-chars bs u, surrogate_count-chars bs u)
