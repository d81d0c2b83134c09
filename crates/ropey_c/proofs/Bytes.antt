-- Bytes and characters of ranges, and what is too long.
use Rattle.std.proofs.Common.{◌≡◌, ℕ, ◌+◌, ◌-◌, ◌<◌, ◌≤◌, ◌^◌, Bool, true, false, nat_lt, List, ◌++◌, take, drop, Some, None, refl, ap, sym, subst, ◌∙◌, arith, inl, inr}
use lib.Dec.{leb}
use Rattle.std.specs.Bool.{MatchBool}
use Rattle.std.proofs.lemmas.Bool.{cases_lt, le-leb, lt-leb}
use Rattle.std.proofs.lemmas.Bool.Decides.{nat_tests}
use Rattle.rope_text.specs.Text.{byte_len}
use Rattle.rope_text.specs.Conversions.{byte_to_char}
use Rattle.rope_text.specs.Edit.{byte_range_error, size_error, removed}
use Rattle.rope_text.specs.declared.error.Error.TheVariants.{TooLong}
use Rattle.rope_text.proofs.Measures.{IsMeasure-byte_len, size_le, size_parts}
use Rattle.rope_text.proofs.ByteSlices.{is_range, byte_to_char-mono}

-- the characters of a range of bytes are in order
pub chars_ordered : (text : List ℕ) (a b : ℕ) → byte_range_error text (Some a) (Some b) ≡ None
    → byte_to_char text a ≤ byte_to_char text b
chars_ordered text a b fine = byte_to_char-mono text a b (is_range text a b fine).ordered

-- what stays without a range
pub removed_bytes : (text : List ℕ) (a b : ℕ) → a ≤ b
    → byte_len text - (byte_len (take b text) - byte_len (take a text))
    ≡ byte_len (removed text a b)
removed_bytes text a b l =
    let stays : byte_len (removed text a b) ≡ byte_len (take a text) + byte_len (drop b text) =
    IsMeasure-byte_len.joined (take a text) (drop b text) in
    omega (
      arith,
      stays,
      size_parts byte_len IsMeasure-byte_len text b,
      size_le byte_len IsMeasure-byte_len text a b l,
    )

pub cut_within : (text : List ℕ) (a b : ℕ)
    → byte_len (take b text) - byte_len (take a text) ≤ byte_len text
cut_within text a b = omega (arith, size_parts byte_len IsMeasure-byte_len text b)

-- a text of so many bytes beside others of `w` is too long, or isn't
pub room_told : (w l a b : ℕ) → w < 2 ^ 63 → w ≡ a → b ≡ l
    → MatchBool (leb l (9223372036854775807 - w)) (size_error (a + b) ≡ None)
    (size_error (a + b) ≡ Some TooLong)
room_told w l a b fits at_a at_b =
    let Told : Bool → Type 0 =
    λ t. MatchBool t (size_error (a + b) ≡ None) (size_error (a + b) ≡ Some TooLong) in
    elim (cases_lt (9223372036854775807 - w) l) [
      | inl more ↦ let long : nat_lt (a + b) (2 ^ 63) ≡ false = grind (arith, nat_tests) in
          subst Told (sym (lt-leb _ _ more)) (rw long refl)
      | inr less ↦ let short : nat_lt (a + b) (2 ^ 63) ≡ true = grind (arith, nat_tests) in
          subst Told (sym (le-leb _ _ less)) (rw short refl)
    ]

-- a text following another, whose bytes are counted
pub byte_len-following : (text new : List ℕ) (bytes : ℕ) → byte_len new ≡ bytes
    → byte_len text + bytes ≡ byte_len (text ++ new)
byte_len-following text new bytes is =
    sym (IsMeasure-byte_len.joined text new ∙ ap (λ n. byte_len text + n) is)
