-- Slices by bytes of slices by bytes.
use Rattle.std.proofs.Common.{◌≡◌, ℕ, ◌+◌, ◌-◌, ◌≤◌, Bool, true, false, not, ◌||◌, List, ◌++◌, length, take, drop, nat_lt, Option, Some, None, refl, ap, sym, ◌∙◌, arith, inl, inr, if◌then◌else◌}
use Rattle.std.specs.List.{slice_range}
use Rattle.std.proofs.lemmas.Bool.{cases_lt}
use Rattle.std.proofs.lemmas.Bool.Decides.{nat_tests}
use Rattle.std.proofs.lemmas.List.{take-append-drop, length-take-le, length-drop, take_all, take-take}
use Rattle.std.proofs.Math.Seq.{take-add}
use Rattle.rope_text.specs.declared.error.Error.{Error}
use Rattle.rope_text.specs.declared.error.Error.TheVariants.{ByteRangeInvalid, ByteRangeOutOfBounds, ByteRangeNotCharBoundary}
use Rattle.rope_text.specs.Text.{byte_len}
use Rattle.rope_text.specs.Conversions.{byte_to_char}
use Rattle.rope_text.specs.Cutting.{clip}
use Rattle.rope_text.specs.Edit.{or_else, is_char_boundary, invalid_range, byte_range_error, range_start, range_end}
use Rattle.rope_text.specs.Laws.{ByteSlicesNest, part_of_bytes, chunks_of_bytes}
use Rattle.rope_text.proofs.Measures.{IsMeasure-byte_len, front_greatest, front_fits, front-le-length}
use Rattle.rope_text.proofs.ConversionLaws.{byte_to_char-byte_len, byte_to_char-char_to_byte, byte_to_char-le-length}
use Rattle.rope_text.proofs.JoinLaws.{byte_to_char-append_left, byte_to_char-append_right}
use Rattle.rope_text.proofs.ClipLaws.{slice_range-slice_range, clip-clip}

none_of : (x y z : Bool) (e f g : Error)
    → or_else (if x then Some e else None)
    (or_else (if y then Some f else None) (if z then Some g else None)) ≡ None
    → (x ≡ false) × (y ≡ false) × (z ≡ false)
none_of true y z e f g h = absurd (cc)
none_of false true z e f g h = absurd (cc)
none_of false false true e f g h = absurd (cc)
none_of false false false e f g h = (refl, refl, refl)

none_from : (x y z : Bool) (e f g : Error) → x ≡ false → y ≡ false → z ≡ false
    → or_else (if x then Some e else None)
    (or_else (if y then Some f else None) (if z then Some g else None)) ≡ None
none_from x y z e f g p q r = rw (p, q, r) refl

neither : (x y : Bool) → (not x || not y) ≡ false → (x ≡ true) × (y ≡ true)
neither true true h = (refl, refl)
neither true false h = absurd (cc)
neither false y h = absurd (cc)

both : (x y : Bool) → x ≡ true → y ≡ true → (not x || not y) ≡ false
both x y p q = rw (p, q) refl

-- when a range of bytes is not refused
pub record IsRange (text : List ℕ) (a b : ℕ) : Type 0 where
  pub ordered : a ≤ b
  pub within : b ≤ byte_len text
  pub starts : is_char_boundary text a ≡ true
  pub ends : is_char_boundary text b ≡ true

pub is_range : (text : List ℕ) (a b : ℕ) → byte_range_error text (Some a) (Some b) ≡ None
    → IsRange text a b
is_range text a b h =
    let tests =
    none_of (nat_lt b a) (nat_lt (byte_len text) a || nat_lt (byte_len text) b)
    (not (is_char_boundary text a) || not (is_char_boundary text b))
    (ByteRangeInvalid a b) (ByteRangeOutOfBounds (Some a) (Some b) (byte_len text))
    (ByteRangeNotCharBoundary (Some a) (Some b)) h in
    let bounds = neither (is_char_boundary text a) (is_char_boundary text b) tests.2 in
    record {
      ordered = grind (arith, nat_tests, tests.0);
      within = grind (arith, nat_tests, tests.1);
      starts = bounds.0;
      ends = bounds.1;
    }

pub range_error-none : (text : List ℕ) (a b : ℕ) → IsRange text a b
    → byte_range_error text (Some a) (Some b) ≡ None
range_error-none text a b r =
    let low : a ≤ b = r.ordered in
    let high : b ≤ byte_len text = r.within in
    none_from (nat_lt b a) (nat_lt (byte_len text) a || nat_lt (byte_len text) b)
    (not (is_char_boundary text a) || not (is_char_boundary text b))
    (ByteRangeInvalid a b) (ByteRangeOutOfBounds (Some a) (Some b) (byte_len text))
    (ByteRangeNotCharBoundary (Some a) (Some b))
    (grind (arith, nat_tests)) (grind (arith, nat_tests))
    (both (is_char_boundary text a) (is_char_boundary text b) r.starts r.ends)

pub boundary_is : (text : List ℕ) (b : ℕ) → is_char_boundary text b ≡ true
    → byte_len (take (byte_to_char text b) text) ≡ b
boundary_is text b h = grind (arith, nat_tests)

pub is_boundary : (text : List ℕ) (b : ℕ) → byte_len (take (byte_to_char text b) text) ≡ b
    → is_char_boundary text b ≡ true
is_boundary text b h = grind (arith, nat_tests)

pub start_is_boundary : (text : List ℕ) → is_char_boundary text 0 ≡ true
start_is_boundary text =
    is_boundary text 0 (ap (λ i. byte_len (take i text))
    (byte_to_char-char_to_byte text 0 (omega arith)))

pub end_is_boundary : (text : List ℕ) → is_char_boundary text (byte_len text) ≡ true
end_is_boundary text =
    is_boundary text (byte_len text) (ap (λ i. byte_len (take i text)) (byte_to_char-byte_len text)
    ∙ ap byte_len (take_all (length text) text (omega arith)))

-- a range whose bounds are ordered and within the text, one of them inside a character
pub split_char : (text : List ℕ) (start end : Option ℕ) → invalid_range start end ≡ None
    → range_start start ≤ byte_len text → range_end end (byte_len text) ≤ byte_len text
    → (not (is_char_boundary text (range_start start)) || not
    (is_char_boundary text (range_end end (byte_len text)))) ≡ true
    → byte_range_error text start end ≡ Some (ByteRangeNotCharBoundary start end)
split_char text None None valid low high inside =
    let start = start_is_boundary text in
    let end = end_is_boundary text in
    absurd (cc)
split_char text None (Some b) valid low high inside =
    let start = start_is_boundary text in
    let within : nat_lt (byte_len text) b ≡ false = grind (arith, nat_tests) in
    cc
split_char text (Some a) None valid low high inside =
    let end = end_is_boundary text in
    let within : nat_lt (byte_len text) a ≡ false = grind (arith, nat_tests) in
    cc
split_char text (Some a) (Some b) valid low high inside =
    let starts : nat_lt (byte_len text) a ≡ false = grind (arith, nat_tests) in
    let ends : nat_lt (byte_len text) b ≡ false = grind (arith, nat_tests) in
    cc

-- a later byte is in a later character, or in the same one
pub byte_to_char-mono : (text : List ℕ) (m n : ℕ) → m ≤ n
    → byte_to_char text m ≤ byte_to_char text n
unfolding byte_to_char
byte_to_char-mono text m n l =
    let fits = front_fits byte_len IsMeasure-byte_len text m in
    front_greatest byte_len IsMeasure-byte_len text n (byte_to_char text m)
    (front-le-length byte_len IsMeasure-byte_len text m) (omega arith)

-- a slice of a text from the byte a on, and the bytes of its characters
module _ (text : List ℕ) (p q a : ℕ) (l : p ≤ q) (within : q ≤ length text)
    (starts : byte_len (take p text) ≡ a) where
  back_of : drop p text ≡ slice_range text p q ++ drop (q - p) (drop p text)
  back_of = sym (take-append-drop (q - p) (drop p text))

  length_of : length (slice_range text p q) ≡ q - p
  length_of = length-take-le (q - p) (drop p text) (omega (arith, length-drop p text))

  pub bytes_to : (j : ℕ) → j ≤ q - p → byte_len (take (p + j) text)
      ≡ a + byte_len (take j (slice_range text p q))
  bytes_to j in_part =
      let split = ap byte_len (take-add p j text)
      ∙ IsMeasure-byte_len.joined (take p text) (take j (drop p text)) in
      let same : take j (slice_range text p q) ≡ take j (drop p text) =
      take-take j (q - p) (drop p text) in_part in
      split ∙ ap (λ n. n + byte_len (take j (drop p text))) starts
      ∙ ap (λ s. a + byte_len s) (sym same)

  char_in : (n : ℕ) → n ≤ byte_len (slice_range text p q)
      → byte_to_char (drop p text) n ≡ byte_to_char (slice_range text p q) n
  char_in n fits =
      let part = slice_range text p q in
      let rest = drop (q - p) (drop p text) in
      ap (λ s. byte_to_char s n) back_of ∙ elim (cases_lt n (byte_len part)) [
        | inl less ↦ byte_to_char-append_left part rest n less
        | inr all ↦
            let whole : n ≡ byte_len part = omega arith in
            let none : n - byte_len part ≡ 0 = omega arith in
            let first : byte_to_char rest 0 ≡ 0 = byte_to_char-char_to_byte rest 0 (omega arith) in
            let last : byte_to_char part (byte_len part) ≡ length part =
            ap (λ s. byte_to_char part (byte_len s))
            (sym (take_all (length part) part (omega arith)))
            ∙ byte_to_char-char_to_byte part (length part) (omega arith) in
            byte_to_char-append_right part rest n (omega arith)
            ∙ ap (λ k. length part + byte_to_char rest k) none ∙ ap (λ k. length part + k) first
            ∙ omega (arith, last, ap (byte_to_char part) whole)
      ]

  pub char_at : (n : ℕ) → n ≤ byte_len (slice_range text p q)
      → byte_to_char text (a + n) ≡ p + byte_to_char (slice_range text p q) n
  char_at n fits =
      let front = length-take-le p text (omega arith) in
      let back : (a + n) - byte_len (take p text) ≡ n = omega arith in
      ap (λ s. byte_to_char s (a + n)) (sym (take-append-drop p text))
      ∙ byte_to_char-append_right (take p text) (drop p text) (a + n) (omega arith)
      ∙ ap (λ k. length (take p text) + byte_to_char (drop p text) k) back
      ∙ ap (λ k. k + byte_to_char (drop p text) n) front ∙ ap (λ k. p + k) (char_in n fits)

  pub inside : (n : ℕ) → byte_to_char (slice_range text p q) n ≤ q - p
  inside n = omega (arith, byte_to_char-le-length (slice_range text p q) n, length_of)

  -- where the character of a byte begins, in the part and in the text
  pub begins_at : (n : ℕ) → n ≤ byte_len (slice_range text p q)
      → byte_len (take (byte_to_char text (a + n)) text)
      ≡ a + byte_len (take (byte_to_char (slice_range text p q) n) (slice_range text p q))
  begins_at n fits = ap (λ k. byte_len (take k text)) (char_at n fits)
      ∙ bytes_to (byte_to_char (slice_range text p q) n) (inside n)

  pub size_of : byte_len (take q text) ≡ a + byte_len (slice_range text p q)
  size_of =
      let end : p + (q - p) ≡ q = omega arith in
      let whole : take (q - p) (slice_range text p q) ≡ slice_range text p q =
      take_all (q - p) (slice_range text p q) (omega (arith, length_of)) in
      ap (λ k. byte_len (take k text)) (sym end) ∙ bytes_to (q - p) (omega arith)
      ∙ ap (λ s. a + byte_len s) whole

  pub boundary_out : (n : ℕ) → n ≤ byte_len (slice_range text p q)
      → is_char_boundary (slice_range text p q) n ≡ true → is_char_boundary text (a + n) ≡ true
  boundary_out n fits h =
      is_boundary text (a + n) (begins_at n fits
      ∙ ap (λ k. a + k) (boundary_is (slice_range text p q) n h))

  pub boundary_in : (n : ℕ) → n ≤ byte_len (slice_range text p q)
      → is_char_boundary text (a + n) ≡ true → is_char_boundary (slice_range text p q) n ≡ true
  boundary_in n fits h =
      is_boundary (slice_range text p q) n
      (omega (arith, begins_at n fits, boundary_is text (a + n) h))

  pub range_out : (c d : ℕ) → a + byte_len (slice_range text p q) ≤ byte_len text
      → IsRange (slice_range text p q) c d → IsRange text (a + c) (a + d)
  range_out c d room r =
      let low : c ≤ d = r.ordered in
      let high : d ≤ byte_len (slice_range text p q) = r.within in
      record {
        ordered = omega arith;
        within = omega arith;
        starts = boundary_out c (omega arith) r.starts;
        ends = boundary_out d high r.ends;
      }

  pub range_in : (c d : ℕ) → d ≤ byte_len (slice_range text p q) → IsRange text (a + c) (a + d)
      → IsRange (slice_range text p q) c d
  range_in c d high r =
      let low : a + c ≤ a + d = r.ordered in
      record {
        ordered = omega arith;
        within = high;
        starts = boundary_in c (omega arith) r.starts;
        ends = boundary_in d high r.ends;
      }

  pub text_of_both : (c d : ℕ) → c ≤ d → d ≤ byte_len (slice_range text p q)
      → part_of_bytes (slice_range text p q) c d ≡ part_of_bytes text (a + c) (a + d)
  text_of_both c d low high =
      let s = byte_to_char (slice_range text p q) c in
      let e = byte_to_char (slice_range text p q) d in
      let from : p + s ≡ byte_to_char text (a + c) = sym (char_at c (omega arith)) in
      let to : p + e ≡ byte_to_char text (a + d) = sym (char_at d high) in
      slice_range-slice_range text p q s e (inside d) ∙ ap (λ k. slice_range text k (p + e)) from
      ∙ ap (slice_range text (byte_to_char text (a + c))) to

  pub chunks_of_both : (chunks : List (List ℕ)) (c d : ℕ) → c ≤ d
      → d ≤ byte_len (slice_range text p q)
      → chunks_of_bytes (slice_range text p q) (clip chunks p q) c d
      ≡ chunks_of_bytes text chunks (a + c) (a + d)
  chunks_of_both chunks c d low high =
      let s = byte_to_char (slice_range text p q) c in
      let e = byte_to_char (slice_range text p q) d in
      let from : p + s ≡ byte_to_char text (a + c) = sym (char_at c (omega arith)) in
      let to : p + e ≡ byte_to_char text (a + d) = sym (char_at d high) in
      clip-clip chunks p q s e (inside d) ∙ ap (λ k. clip chunks k (p + e)) from
      ∙ ap (clip chunks (byte_to_char text (a + c))) to

pub nested : ByteSlicesNest
nested text chunks a b h =
    let r = is_range text a b h in
    let p = byte_to_char text a in
    let q = byte_to_char text b in
    let l : p ≤ q = byte_to_char-mono text a b r.ordered in
    let within : q ≤ length text = byte_to_char-le-length text b in
    let starts : byte_len (take p text) ≡ a = boundary_is text a r.starts in
    let ends : byte_len (take q text) ≡ b = boundary_is text b r.ends in
    let fits : b ≤ byte_len text = r.within in
    let whole = size_of text p q a l within starts in
    let size : byte_len (slice_range text p q) ≡ b - a = omega arith in (
      size,
      λ c d high.
          let room : d ≤ byte_len (slice_range text p q) = omega arith in (
            (
              (λ e. range_error-none text (a + c) (a + d)
                  (range_out text p q a l within starts c d (omega arith)
                  (is_range (slice_range text p q) c d e))),
              (λ e. range_error-none (slice_range text p q) c d
                  (range_in text p q a l within starts c d room (is_range text (a + c) (a + d) e))),
            ),
            (λ low. (
              text_of_both text p q a l within starts c d low room,
              chunks_of_both text p q a l within starts chunks c d low room,
            )),
          ),
    )
