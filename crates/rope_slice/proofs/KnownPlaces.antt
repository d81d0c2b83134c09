-- The chunk that contains a position with known numbers of bytes and characters before it.
use Rattle.std.proofs.Common.{◌≡◌, ℕ, ◌+◌, ◌-◌, ◌≤◌, List, ◌++◌, ◌∷◌, length, take, sym, ap, ◌∙◌, arith, inl, inr}
use Rattle.std.specs.List.{concat}
use Rattle.std.proofs.lemmas.Bool.{cases_lt}
use Rattle.std.proofs.lemmas.List.{take-append-le}
use Rattle.std.proofs.Math.Seq.{take-append-add}
use Rattle.rope_text.specs.Text.{byte_len}
use Rattle.rope_text.specs.Conversions.{byte_to_char, char_to_byte}
use Rattle.rope_text.proofs.ConversionLaws.{byte_to_char-le-length, byte_to_char-char_to_byte}
use Rattle.rope_text.proofs.CuttingLaws.{concat-append}
use Rattle.rope_text.proofs.JoinLaws.{byte_to_char-append_left, byte_to_char-append_right}
use Rattle.rope_slice.specs.Path.{Place, leaves}
use Rattle.rope_slice.proofs.Carets.{size_two}

-- the first characters of two texts are in the first of them, if their bytes are
chars_within : (s t : List ℕ) (b : ℕ) → b ≤ byte_len s → byte_to_char (s ++ t) b ≤ length s
chars_within s t b few = elim (cases_lt b (byte_len s)) [
  | inl less ↦ omega (arith, byte_to_char-append_left s t b less, byte_to_char-le-length s b)
  | inr most ↦
      let none : byte_to_char t (b - byte_len s) ≡ 0 =
      ap (byte_to_char t) (omega (arith, few, most))
      ∙ byte_to_char-char_to_byte t 0 (omega arith) in
      omega (arith, byte_to_char-append_right s t b most, none)
]

-- `bytes` bytes and `chars` characters of a text are before a position; `front` bytes are in the
-- chunks before, and the position is not after the end of the chunk here
module _ (p : Place) (t : List ℕ) (chars bytes front : ℕ) (text_is : concat (leaves p) ≡ t)
    (within : chars ≤ length t) (bytes_are : bytes ≡ byte_len (take chars t))
    (front_is : front ≡ byte_len (concat p.before)) (starts : byte_len (concat p.before) ≤ bytes)
    (ends : bytes ≤ byte_len (concat p.before) + byte_len p.here) where
  abbrev rest : List ℕ
  rest = p.here ++ concat p.after

  parts : t ≡ concat p.before ++ rest
  parts = sym text_is ∙ concat-append p.before (p.here ∷ p.after)

  abbrev inside : ℕ
  inside = byte_to_char rest (bytes - byte_len (concat p.before))

  chars_are : chars ≡ length (concat p.before) + inside
  chars_are = sym (ap (byte_to_char t) bytes_are ∙ byte_to_char-char_to_byte t chars within)
      ∙ ap (λ x. byte_to_char x bytes) parts
      ∙ byte_to_char-append_right (concat p.before) rest bytes starts

  few : inside ≤ length p.here
  few = chars_within p.here (concat p.after) (bytes - byte_len (concat p.before))
      (omega (arith, ends))

  pub known_starts : length (concat p.before) ≤ chars
  known_starts = omega (arith, chars_are)

  pub known_within : chars ≤ length (concat p.before) + length p.here
  known_within = omega (arith, chars_are, few)

  pub known_byte : bytes - front ≡ char_to_byte p.here (chars - length (concat p.before))
  known_byte =
      let size : bytes ≡ byte_len (concat p.before) + byte_len (take inside p.here) =
      bytes_are ∙ ap byte_len (ap (λ n. take n t) chars_are
      ∙ ap (take (length (concat p.before) + inside)) parts
      ∙ take-append-add (concat p.before) rest inside)
      ∙ size_two (concat p.before) (take inside rest)
      ∙ ap (λ x. byte_len (concat p.before) + byte_len x)
      (take-append-le inside p.here (concat p.after) few) in
      let at : chars - length (concat p.before) ≡ inside = omega (arith, chars_are) in
      omega (arith, size, front_is) ∙ ap (λ n. byte_len (take n p.here)) (sym at)
