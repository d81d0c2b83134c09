-- Single characters in UTF-16 and Latin-1.
use Rattle.std.proofs.Common.{inl, inr, ◌/◌, ◌%◌, ◌≡◌, ℕ, ◌+◌, ◌-◌, ◌*◌, ◌<◌, ◌≤◌, List, [], ◌∷◌, ◌++◌, length, take, drop, get_or, refl, sym, ap, ◌∙◌, arith}
use Rattle.std.proofs.Math.Seq.{take-add}
use Rattle.std.proofs.lemmas.Bool.{cases_lt, lt-ltb, le-ltb}
use Rattle.std.proofs.lemmas.List.{append-nil, length-append}
use Rattle.std.proofs.lemmas.Str.{length-encode, len_utf8_bounds}
use Rattle.std.proofs.str.Utf16.{one_unit, two_units, pair_units}
use Rattle.std.proofs.Math.Utf8.{low_scalar}
use Rattle.std.specs.Char.{IsScalar, len_utf8, encode_utf8}
use Rattle.std.specs.List.{flat_map}
use Rattle.std.specs.Str.{encode_utf8_all}
use Rattle.rope_files.specs.Encodings.{low_first, high_first}
use Rattle.rope_files.specs.Layouts.{unit_bytes, char_bytes, laid_out, BeginsWith}
use Rattle.rope_files.specs.declared.layout.ByteOrder.{ByteOrder}
use Rattle.rope_files.specs.declared.layout.ByteOrder.TheVariants.{Little, Big}
use Rattle.rope_files.specs.declared.layout.Layout.{Layout}
use Rattle.rope_files.specs.declared.layout.Layout.TheVariants.{Bytes, CodeUnits}

two_bytes : (bs : List ℕ) → 2 ≤ length bs → take 2 bs ≡ get_or bs 0 0 ∷ get_or bs 1 0 ∷ []
two_bytes [] h = absurd (omega arith)
two_bytes (x ∷ []) h = absurd (omega arith)
two_bytes (x ∷ y ∷ xs) h = refl

bytes_of : (a b u v : ℕ) → a ≡ u → b ≡ v → a ∷ b ∷ [] ≡ u ∷ v ∷ []
bytes_of a b u v p q = ap (λ x. x ∷ b ∷ []) p ∙ ap (λ y. u ∷ y ∷ []) q

pub little_bytes : (bs : List ℕ) → 2 ≤ length bs → get_or bs 0 0 < 0x100 → get_or bs 1 0 < 0x100
    → take 2 bs ≡ low_first (get_or bs 0 0 + get_or bs 1 0 * 0x100)
little_bytes bs h a b = two_bytes bs h ∙ bytes_of _ _ _ _ (omega arith) (omega arith)

pub big_bytes : (bs : List ℕ) → 2 ≤ length bs → get_or bs 0 0 < 0x100 → get_or bs 1 0 < 0x100
    → take 2 bs ≡ high_first (get_or bs 0 0 * 0x100 + get_or bs 1 0)
big_bytes bs h a b = two_bytes bs h ∙ bytes_of _ _ _ _ (omega arith) (omega arith)

-- characters below U+0800 take at most two bytes in UTF-8
short_utf8 : (c : ℕ) → c < 0x800 → len_utf8 c ≤ 2
short_utf8 c h = elim (cases_lt c 0x80) [
  | inl below ↦ rw (lt-ltb c 0x80 below) (omega arith)
  | inr from ↦ rw (le-ltb c 0x80 from, lt-ltb c 0x800 h) (omega arith)
]

-- a character of one code unit
pub one_first : (o : ByteOrder) (bs : List ℕ) (u : ℕ) → u < 0x1_0000 → take 2 bs ≡ unit_bytes o u
    → take 2 bs ≡ char_bytes (CodeUnits o) u
one_first o bs u h e = e ∙ sym (append-nil (unit_bytes o u))
    ∙ ap (λ us. flat_map (unit_bytes o) us) (sym (one_unit u h))

-- and of two
pub two_first : (o : ByteOrder) (bs : List ℕ) (u v : ℕ) → 0xD800 ≤ u → 0xDC00 ≤ v → v < 0xE000
    → take 2 bs ≡ unit_bytes o u → take 2 (drop 2 bs) ≡ unit_bytes o v
    → take 4 bs ≡ char_bytes (CodeUnits o) (0x1_0000 + ((u - 0xD800) * 0x400 + (v - 0xDC00)))
two_first o bs u v low from below e f =
    take-add 2 2 bs ∙ ap (λ xs. xs ++ take 2 (drop 2 bs)) e
    ∙ ap (λ ys. unit_bytes o u ++ ys) (f ∙ sym (append-nil (unit_bytes o v)))
    ∙ ap (λ us. flat_map (unit_bytes o) us) (sym (pair_units u v low from below))

-- what the bytes begin with
pub begins_byte : (bs : List ℕ) (c : ℕ) → 1 ≤ length bs → get_or bs 0 0 < 0x100 → c ≡ get_or bs 0 0
    → BeginsWith Bytes bs c 1
begins_byte [] c h low e = absurd (omega arith)
begins_byte (x ∷ xs) c h low e = record {
  scalar = low_scalar c (omega arith);
  first = ap (λ y. y ∷ []) (sym e);
  within = omega arith;
  some = omega arith;
  most = omega (arith, length-encode c, short_utf8 c (omega arith));
}

pub begins_one : (o : ByteOrder) (bs : List ℕ) (u c : ℕ) → 2 ≤ length bs
    → take 2 bs ≡ unit_bytes o u → u < 0x1_0000 → IsScalar c → c ≡ u
    → BeginsWith (CodeUnits o) bs c 2
begins_one o bs u c h first low s e = record {
  scalar = s;
  first = one_first o bs u low first ∙ ap (λ x. char_bytes (CodeUnits o) x) (sym e);
  within = h;
  some = omega arith;
  most = omega (arith, length-encode c, len_utf8_bounds c);
}

pub begins_two : (o : ByteOrder) (bs : List ℕ) (u v c : ℕ) → 4 ≤ length bs
    → take 2 bs ≡ unit_bytes o u → take 2 (drop 2 bs) ≡ unit_bytes o v
    → 0xD800 ≤ u → 0xDC00 ≤ v → v < 0xE000 → IsScalar c
    → c ≡ 0x1_0000 + (u - 0xD800) * 0x400 + (v - 0xDC00) → BeginsWith (CodeUnits o) bs c 4
begins_two o bs u v c h first second low from below s e = record {
  scalar = s;
  first = two_first o bs u v low from below first second
      ∙ ap (λ x. char_bytes (CodeUnits o) x) (omega (arith, e));
  within = h;
  some = omega arith;
  most = omega (arith, length-encode c, len_utf8_bounds c);
}

pub length-unit : (o : ByteOrder) (u : ℕ) → length (unit_bytes o u) ≡ 2
length-unit Little u = refl
length-unit Big u = refl

-- a character takes at most twice as many bytes as in UTF-8
long_utf8 : (c : ℕ) → 0x1_0000 ≤ c → 2 ≤ len_utf8 c
long_utf8 c h = rw (le-ltb c 0x80 (omega arith), le-ltb c 0x800 (omega arith), le-ltb c 0x1_0000 h)
    (omega arith)

pub length-char : (l : Layout) (c : ℕ) → length (char_bytes l c) ≤ 2 * length (encode_utf8 c)
length-char Bytes c = omega (arith, length-encode c, len_utf8_bounds c)
length-char (CodeUnits o) c = elim (cases_lt c 0x1_0000) [
  | inl below ↦ omega (
    arith,
    length-encode c,
    len_utf8_bounds c,
    ap (λ us. length (flat_map (unit_bytes o) us)) (one_unit c below),
    length-append (unit_bytes o c) [],
    length-unit o c,
  )
  | inr from ↦
      let high : ℕ = 0xD800 + (c - 0x1_0000) / 0x400 in
      let low : ℕ = 0xDC00 + (c - 0x1_0000) % 0x400 in
      omega (
        arith,
        length-encode c,
        long_utf8 c from,
        ap (λ us. length (flat_map (unit_bytes o) us)) (two_units c from),
        length-append (unit_bytes o high) (unit_bytes o low ++ []),
        length-append (unit_bytes o low) [],
        length-unit o high,
        length-unit o low,
      )
]

pub length-laid_out : (l : Layout) (text : List ℕ)
    → length (laid_out l text) ≤ 2 * length (encode_utf8_all text)
length-laid_out l [] = omega arith
length-laid_out l (c ∷ cs) = omega (
  arith,
  length-append (char_bytes l c) (laid_out l cs),
  length-append (encode_utf8 c)
      (encode_utf8_all cs),
  length-char l c,
  length-laid_out l cs,
)
