-- The bytes of a text are those of no other text.
use Rattle.std.proofs.Common.{◌≡◌, ℕ, ◌+◌, ◌-◌, ◌/◌, ◌%◌, ◌<◌, ◌≤◌, ◌⊎◌, Bool, true, List, [], ◌∷◌, ◌++◌, length, refl, sym, ap, subst, ◌∙◌, append_assoc, arith, inl, inr, Option, Some, Result, Ok, Err, IfOk, IsTrue, take, drop, length-drop, nat_eq, None}
use Rattle.std.proofs.Math.Utf8.{scalar_cases}
use Rattle.std.proofs.lemmas.Bool.{cases_lt, and_parts, and_from, false≢true, le-leb, leb-true, lt-ltb, ltb-true}
use Rattle.std.proofs.lemmas.Bool.Decides.{Decides-eqb}
use Rattle.std.proofs.lemmas.List.{append_cancel_left, append-nil, length-append, take-append-drop, take-append-le}
use Rattle.std.proofs.lemmas.Slice.Eq.{starts_is}
use Rattle.std.proofs.Math.Seq.{take-append_seam}
use Rattle.std.proofs.lemmas.Str.{encodes_same, length-encode, len_utf8_bounds, utf8_valid_len-IsUtf8, IsUtf8-encode}
use Rattle.std.proofs.str.Utf16.{one_unit, two_units}
use Rattle.std.specs.Char.{IsScalar, encode_utf8}
use Rattle.std.specs.Char.Utf16.{is_high_surrogate, is_low_surrogate}
use Rattle.std.specs.List.{flat_map, starts_with}
use Rattle.std.specs.Str.{all_scalars, encode_utf8_all}
use Rattle.std.specs.Str.Lossy.{utf8_valid_len}
use Rattle.rope_io.specs.Reading.{has_ended}
use Rattle.rope_text.specs.Read.{text_rest, IsRefused}
use Rattle.rope_text.proofs.ReadLaws.{text_rest-append}
use Rattle.rope_files.specs.Encodings.{encode, mark_of, encode_unmarked, layout_of}
use Rattle.rope_files.specs.Laws.{IsNoText}
use Rattle.rope_files.specs.Reading.{ReadsAny, text_read}
use Rattle.rope_files.specs.declared.error.ReadAnyError.{ReadAnyError}
use Rattle.rope_files.specs.declared.error.ReadAnyError.TheVariants.{Read, NoMark, InvalidUtf8, UnpairedSurrogate, HalfCodeUnit, Rope}
use Rattle.ropey.specs.View.{RopeView, IsRope}
use Rattle.rope_files.proofs.Files.{front_same, reads_encoding, reads_whole, spelled_in, spelled_utf8}
use Rattle.rope_files.proofs.Fronts.{length-unit}
use Rattle.rope_files.proofs.Unpaired.{unit_before, after_two}
use Rattle.rope_files.specs.Layouts.{unit_bytes, char_bytes, code_unit, laid_out, IsUnpaired, EndsUnpaired, EndsHalf}
use Rattle.rope_files.specs.declared.encoding.Encoding.{Encoding}
use Rattle.rope_files.specs.declared.encoding.Encoding.TheVariants.{Utf8, Utf8Bom, Utf16Le, Utf16LeBom, Utf16Be, Utf16BeBom, Latin1}
use Rattle.rope_files.specs.declared.layout.ByteOrder.{ByteOrder}
use Rattle.rope_files.specs.declared.layout.ByteOrder.TheVariants.{Little, Big}
use Rattle.rope_files.specs.declared.layout.Layout.{Layout}
use Rattle.rope_files.specs.declared.layout.Layout.TheVariants.{Bytes, CodeUnits}

unit_same : (o : ByteOrder) (u v : ℕ) (r t : List ℕ) → unit_bytes o u ++ r ≡ unit_bytes o v ++ t
    → (u ≡ v) × (r ≡ t)
unit_same Little u v r t e =
    let low : u % 0x100 ≡ v % 0x100 = cc in
    let high : u / 0x100 ≡ v / 0x100 = cc in
    let rest : r ≡ t = cc in
    (omega (arith, low, high), rest)
unit_same Big u v r t e =
    let low : u % 0x100 ≡ v % 0x100 = cc in
    let high : u / 0x100 ≡ v / 0x100 = cc in
    let rest : r ≡ t = cc in
    (omega (arith, low, high), rest)

-- a character of one code unit, and of two
one_spelled : (o : ByteOrder) (c : ℕ) (r : List ℕ) → c < 0x1_0000
    → char_bytes (CodeUnits o) c ++ r ≡ unit_bytes o c ++ r
one_spelled o c r h = ap (λ us. flat_map (unit_bytes o) us ++ r) (one_unit c h)
    ∙ append_assoc (unit_bytes o c) [] r

abbrev first_of : ℕ → ℕ
first_of c = 0xD800 + (c - 0x1_0000) / 0x400

abbrev second_of : ℕ → ℕ
second_of c = 0xDC00 + (c - 0x1_0000) % 0x400

two_spelled : (o : ByteOrder) (c : ℕ) (r : List ℕ) → 0x1_0000 ≤ c
    → char_bytes (CodeUnits o) c ++ r ≡ unit_bytes o (first_of c)
    ++ (unit_bytes o (second_of c) ++ r)
two_spelled o c r h =
    ap (λ us. flat_map (unit_bytes o) us ++ r) (two_units c h)
    ∙ append_assoc (unit_bytes o (first_of c)) (unit_bytes o (second_of c) ++ []) r
    ∙ ap (λ xs. unit_bytes o (first_of c) ++ xs) (append_assoc (unit_bytes o (second_of c)) [] r)

-- a scalar value is no surrogate
no_surrogate : (c u : ℕ) → IsScalar c → c ≡ u → 0xD800 ≤ u → u < 0xE000 → ⊥
no_surrogate c u s e from below = elim (scalar_cases c s) as (λ _. ⊥)
    [ inl p ↦ absurd (omega (arith, p, e, from)) | inr p ↦ absurd (omega (arith, p.0, e, below)) ]

top : (c : ℕ) → IsScalar c → c < 0x11_0000
top c s = elim (scalar_cases c s) [ inl p ↦ omega (arith, p) | inr p ↦ p.1 ]

char_same : (l : Layout) (c d : ℕ) (r t : List ℕ) → IsScalar c → IsScalar d
    → char_bytes l c ++ r ≡ char_bytes l d ++ t → (c ≡ d) × (r ≡ t)
char_same Bytes c d r t p q e = let same : c ≡ d = cc in let rest : r ≡ t = cc in (same, rest)
char_same (CodeUnits o) c d r t p q e = elim (cases_lt c 0x1_0000) [
  | inl below ↦ elim (cases_lt d 0x1_0000) [
    | inl low ↦ unit_same o c d r t (sym (one_spelled o c r below) ∙ e ∙ one_spelled o d t low)
    | inr from ↦
        let u = unit_same o c (first_of d) r (unit_bytes o (second_of d) ++ t)
        (sym (one_spelled o c r below) ∙ e ∙ two_spelled o d t from) in
        absurd (no_surrogate c (first_of d) p u.0 (omega arith) (omega (arith, top d q, from)))
  ]
  | inr high ↦ elim (cases_lt d 0x1_0000) [
    | inl low ↦
        let u = unit_same o (first_of c) d (unit_bytes o (second_of c) ++ r) t
        (sym (two_spelled o c r high) ∙ e ∙ one_spelled o d t low) in
        absurd (no_surrogate d (first_of c) q (sym u.0) (omega arith)
        (omega (arith, top c p, high)))
    | inr from ↦
        let u = unit_same o (first_of c)
        (first_of d) _ _ (sym (two_spelled o c r high) ∙ e ∙ two_spelled o d t from) in
        let v = unit_same o (second_of c) (second_of d) r t u.1 in
        (omega (arith, u.0, v.0, high, from), v.1)
  ]
]

some_bytes : (l : Layout) (c : ℕ) → 1 ≤ length (char_bytes l c)
some_bytes Bytes c = omega arith
some_bytes (CodeUnits o) c = elim (cases_lt c 0x1_0000) [
  | inl below ↦ omega (
    arith,
    ap length (one_spelled o c [] below),
    length-append (char_bytes (CodeUnits o) c) [],
    length-append (unit_bytes o c) [],
    length-unit o c,
  )
  | inr from ↦ omega (
    arith,
    ap length (two_spelled o c [] from),
    length-append (char_bytes (CodeUnits o) c) [],
    length-append (unit_bytes o (first_of c)) (unit_bytes o (second_of c) ++ []),
    length-unit o (first_of c),
  )
]

pub laid_same : (l : Layout) (xs ys : List ℕ) → all_scalars xs ≡ true → all_scalars ys ≡ true
    → laid_out l xs ≡ laid_out l ys → xs ≡ ys
laid_same l [] [] p q e = refl
laid_same l [] (y ∷ ys) p q e = absurd
    (omega (arith, ap length e, length-append (char_bytes l y) (laid_out l ys), some_bytes l y))
laid_same l (x ∷ xs) [] p q e = absurd
    (omega (arith, ap length e, length-append (char_bytes l x) (laid_out l xs), some_bytes l x))
laid_same l (x ∷ xs) (y ∷ ys) p q e =
    let a = and_parts _ _ p in
    let b = and_parts _ _ q in
    let s = char_same l x y (laid_out l xs) (laid_out l ys) a.0 b.0 e in
    let rest = laid_same l xs ys a.1 b.1 s.1 in
    ap (λ z. z ∷ xs) s.0 ∙ ap (λ zs. y ∷ zs) rest

unmarked_same : (e : Encoding) (xs ys : List ℕ) → all_scalars xs ≡ true → all_scalars ys ≡ true
    → encode_unmarked e xs ≡ encode_unmarked e ys → xs ≡ ys
unmarked_same Utf8 xs ys p q h = encodes_same xs ys h
unmarked_same Utf8Bom xs ys p q h = encodes_same xs ys h
unmarked_same Utf16Le xs ys p q h = laid_same (CodeUnits Little) xs ys p q h
unmarked_same Utf16LeBom xs ys p q h = laid_same (CodeUnits Little) xs ys p q h
unmarked_same Utf16Be xs ys p q h = laid_same (CodeUnits Big) xs ys p q h
unmarked_same Utf16BeBom xs ys p q h = laid_same (CodeUnits Big) xs ys p q h
unmarked_same Latin1 xs ys p q h = laid_same Bytes xs ys p q h

pub texts_are_told : (e : Encoding) (xs ys : List ℕ) → all_scalars xs ≡ true → all_scalars ys ≡ true
    → encode e xs ≡ encode e ys → xs ≡ ys
texts_are_told e xs ys p q h = unmarked_same e xs ys p q (append_cancel_left (mark_of e) _ _ h)

pub written_texts_are_read : (encoding : Encoding) (text : List ℕ) (left : Option (List ℕ))
    (failed : Bool) (result : Result (RopeView × Encoding) ReadAnyError) → all_scalars text ≡ true
    → ReadsAny text_read (Some encoding) (Some (encode encoding text)) left failed result
    → IfOk result (λ file. IsRope file.0 → (file.0.text ≡ text) × (file.1 ≡ encoding))
written_texts_are_read encoding text left failed (Err x) s a = tt
written_texts_are_read encoding text left failed (Ok file) s a = λ rope.
    let is : file.1 ≡ encoding = reads_encoding (Some encoding)
    (Some (encode encoding text)) left failed (Ok file) a in
    let whole : encode encoding text ≡ encode file.1 file.0.text = reads_whole (Some encoding)
    (Some (encode encoding text)) left failed (Ok file) a in (
      texts_are_told encoding file.0.text text rope.content.scalars s
          (sym (whole ∙ ap (λ e. encode e file.0.text) is)),
      is,
    )

-- Files of a text are never refused as none.

-- a text that begins with another goes on with a text
goes_on : (l : Layout) (front text rest : List ℕ) → all_scalars front ≡ true
    → all_scalars text ≡ true → laid_out l text ≡ laid_out l front ++ rest
    → (more : List ℕ) × (all_scalars more ≡ true) × (rest ≡ laid_out l more)
goes_on l [] text rest p q e = (text, q, sym e)
goes_on l (c ∷ front) [] rest p q e =
    absurd (omega (
      arith,
      ap length e,
      length-append (laid_out l (c ∷ front)) rest,
      length-append (char_bytes l c) (laid_out l front),
      some_bytes l c,
    ))
goes_on l (c ∷ front) (d ∷ text) rest p q e =
    let a = and_parts _ _ p in
    let b = and_parts _ _ q in
    let s = char_same l d c (laid_out l text)
    (laid_out l front ++ rest) b.0 a.0
    (e ∙ append_assoc (char_bytes l c) (laid_out l front) rest) in
    goes_on l front text rest a.1 b.1 s.1

first_unit : (o : ByteOrder) (u : ℕ) (rest : List ℕ) → code_unit o (unit_bytes o u ++ rest) ≡ u
first_unit Little u rest = omega arith
first_unit Big u rest = omega arith

past_unit : (o : ByteOrder) (u : ℕ) (rest : List ℕ) → drop 2 (unit_bytes o u ++ rest) ≡ rest
past_unit Little u rest = refl
past_unit Big u rest = refl

is_high : (u : ℕ) → IsTrue (is_high_surrogate u) → (0xD800 ≤ u) × (u < 0xDC00)
is_high u h = let p = and_parts _ _ h in (leb-true 0xD800 u p.0, ltb-true u 0xDC00 p.1)

is_low : (u : ℕ) → IsTrue (is_low_surrogate u) → (0xDC00 ≤ u) × (u < 0xE000)
is_low u h = let p = and_parts _ _ h in (leb-true 0xDC00 u p.0, ltb-true u 0xE000 p.1)

low_is : (u : ℕ) → 0xDC00 ≤ u → u < 0xE000 → is_low_surrogate u ≡ true
low_is u from below = and_from _ _ (le-leb 0xDC00 u from) (lt-ltb u 0xE000 below)

-- where the bytes of a text begin with a code unit, it is that of its first character
unit_of_one : (o : ByteOrder) (d : ℕ) (text rest more : List ℕ) → d < 0x1_0000
    → laid_out (CodeUnits o) (d ∷ text) ≡ rest ++ more → 2 ≤ length rest → code_unit o rest ≡ d
unit_of_one o d text rest more h e two =
    sym (unit_before o rest more two)
    ∙ ap (code_unit o) (sym e ∙ one_spelled o d (laid_out (CodeUnits o) text) h)
    ∙ first_unit o d (laid_out (CodeUnits o) text)

module _ (o : ByteOrder) (d : ℕ) (text rest more : List ℕ) (h : 0x1_0000 ≤ d)
    (e : laid_out (CodeUnits o) (d ∷ text) ≡ rest ++ more) (two : 2 ≤ length rest) where
  tail : List ℕ
  tail = laid_out (CodeUnits o) text

  spelled : rest ++ more ≡ unit_bytes o (first_of d)
      ++ (unit_bytes o (second_of d) ++ laid_out (CodeUnits o) text)
  spelled = sym e ∙ two_spelled o d (laid_out (CodeUnits o) text) h

  unit_of_two : code_unit o rest ≡ first_of d
  unit_of_two = sym (unit_before o rest more two) ∙ ap (code_unit o) spelled
      ∙ first_unit o (first_of d) (unit_bytes o (second_of d) ++ laid_out (CodeUnits o) text)

  second_unit : 4 ≤ length rest → code_unit o (drop 2 rest) ≡ second_of d
  second_unit four =
      sym (unit_before o (drop 2 rest) more (omega (arith, length-drop 2 rest, four)))
      ∙ ap (code_unit o) (sym (after_two rest more two) ∙ ap (λ xs. drop 2 xs) spelled
      ∙ past_unit o (first_of d) (unit_bytes o (second_of d) ++ laid_out (CodeUnits o) text))
      ∙ first_unit o (second_of d) (laid_out (CodeUnits o) text)

never_unpaired : (o : ByteOrder) (text rest more : List ℕ) → all_scalars text ≡ true
    → laid_out (CodeUnits o) text ≡ rest ++ more → IsUnpaired (CodeUnits o) rest → ⊥
never_unpaired o [] rest more q e (two, why) = absurd
    (omega (arith, ap length e, length-append rest more, two))
never_unpaired o (d ∷ text) rest more q e (two, why) =
    let s = (and_parts _ _ q).0 in
    elim (cases_lt d 0x1_0000) as (λ _. ⊥) [
      | inl below ↦
          let u = unit_of_one o d text rest more below e two in
          elim why as (λ _. ⊥) [
            | inl low ↦ no_surrogate d (code_unit o rest) s (sym u)
                (omega (arith, (is_low (code_unit o rest) low).0)) (is_low (code_unit o rest) low).1
            | inr high ↦ no_surrogate d (code_unit o rest) s (sym u)
                (is_high (code_unit o rest) high.0).0
                (omega (arith, (is_high (code_unit o rest) high.0).1))
          ]
      | inr from ↦
          let u = unit_of_two o d text rest more from e two in
          elim why as (λ _. ⊥) [
            | inl low ↦ absurd (omega (arith, u, (is_low (code_unit o rest) low).0, top d s, from))
            | inr high ↦ absurd (false≢true
                (sym high.2 ∙ ap is_low_surrogate (second_unit o d text rest more from e two high.1)
                ∙ low_is (second_of d) (omega arith) (omega arith)))
          ]
    ]

never_ends_unpaired : (o : ByteOrder) (text rest : List ℕ) → all_scalars text ≡ true
    → laid_out (CodeUnits o) text ≡ rest ++ [] → EndsUnpaired (CodeUnits o) rest → ⊥
never_ends_unpaired o [] rest q e (high, two, few) = absurd
    (omega (arith, ap length e, length-append rest [], two))
never_ends_unpaired o (d ∷ text) rest q e (high, two, few) =
    let s = (and_parts _ _ q).0 in
    elim (cases_lt d 0x1_0000) as (λ _. ⊥) [
      | inl below ↦ no_surrogate d (code_unit o rest) s
          (sym (unit_of_one o d text rest [] below e two))
          (is_high (code_unit o rest) high).0 (omega (arith, (is_high (code_unit o rest) high).1))
      | inr from ↦ absurd (omega (
        arith,
        few,
        ap length (spelled o d text rest [] from e two),
        length-append rest [],
        length-append (unit_bytes o (first_of d))
            (unit_bytes o (second_of d) ++ laid_out (CodeUnits o) text),
        length-append (unit_bytes o (second_of d)) (laid_out (CodeUnits o) text),
        length-unit o (first_of d),
        length-unit o (second_of d),
      ))
    ]

two_bytes : (o : ByteOrder) (c : ℕ) → 2 ≤ length (char_bytes (CodeUnits o) c)
two_bytes o c = elim (cases_lt c 0x1_0000) [
  | inl below ↦ omega (
    arith,
    ap length (one_spelled o c [] below),
    length-append (char_bytes (CodeUnits o) c) [],
    length-append (unit_bytes o c) [],
    length-unit o c,
  )
  | inr from ↦ omega (
    arith,
    ap length (two_spelled o c [] from),
    length-append (char_bytes (CodeUnits o) c) [],
    length-append (unit_bytes o (first_of c)) (unit_bytes o (second_of c) ++ []),
    length-unit o (first_of c),
  )
]

never_half : (o : ByteOrder) (text rest : List ℕ) → laid_out (CodeUnits o) text ≡ rest
    → length rest ≡ 1 → ⊥
never_half o [] rest e one = absurd (omega (arith, ap length e, one))
never_half o (d ∷ text) rest e one = absurd
    (omega (
      arith,
      ap length e,
      one,
      length-append (char_bytes (CodeUnits o) d)
          (laid_out (CodeUnits o) text),
      two_bytes o d,
    ))

mark_short : (e : Encoding) → length (mark_of e) ≤ 3
mark_short Utf8 = omega arith
mark_short Utf8Bom = omega arith
mark_short Utf16Le = omega arith
mark_short Utf16LeBom = omega arith
mark_short Utf16Be = omega arith
mark_short Utf16BeBom = omega arith
mark_short Latin1 = omega arith

-- the first bytes of a file begin with its mark
never_unmarked : (e : Encoding) (text head more : List ℕ) → encode e text ≡ head ++ more
    → (length head ≡ 3) ⊎ (more ≡ []) → starts_with nat_eq head (mark_of e) ≡ true
never_unmarked e text head more p h =
    let m : ℕ = length (mark_of e) in
    let front : take m head ≡ mark_of e = sym (front_same head more m h (mark_short e))
    ∙ ap (λ xs. take m xs) (sym p) ∙ take-append_seam (mark_of e) (encode_unmarked e text) in
    (starts_is Decides-eqb head (mark_of e) _ refl).1 (drop m head)
    (sym (take-append-drop m head) ∙ ap (λ xs. xs ++ drop m head) front)

-- what follows the text that was read
rest_of_text : (e : Encoding) (l : Layout) (text t rest bytes held all zs : List ℕ)
    → layout_of e ≡ Some l → all_scalars text ≡ true → all_scalars t ≡ true
    → encode e text ≡ all ++ zs → all ≡ mark_of e ++ (bytes ++ held)
    → bytes ≡ encode_unmarked e t ++ rest → (more : List ℕ) × (all_scalars more ≡ true)
    × (rest ++ (held ++ zs) ≡ laid_out l more)
rest_of_text e l text t rest bytes held all zs is p q given all_is whole =
    let body : encode_unmarked e text ≡ bytes ++ (held ++ zs) = append_cancel_left (mark_of e) _ _
    (given ∙ ap (λ xs. xs ++ zs) all_is ∙ append_assoc (mark_of e) (bytes ++ held) zs
    ∙ ap (λ xs. mark_of e ++ xs) (append_assoc bytes held zs)) in
    goes_on l t text (rest ++ (held ++ zs)) q p
    (sym (spelled_in e l text is) ∙ body
    ∙ ap (λ xs. xs ++ (held ++ zs)) (whole ∙ ap (λ xs. xs ++ rest) (spelled_in e l t is))
    ∙ append_assoc (laid_out l t) rest (held ++ zs))

-- less than a character is left of a beginning of a text in UTF-8
short_rest : (text bytes more : List ℕ) → all_scalars text ≡ true
    → encode_utf8_all text ≡ bytes ++ more → length (text_rest bytes) < 4
short_rest [] bytes more s e = omega
    (arith, ap length e, length-append bytes more, length-drop (utf8_valid_len bytes) bytes)
short_rest (c ∷ cs) bytes more s e = elim (cases_lt (length bytes) (length (encode_utf8 c))) [
  | inl few ↦ omega (
    arith,
    few,
    length-encode c,
    len_utf8_bounds c,
    length-drop (utf8_valid_len bytes) bytes,
  )
  | inr many ↦
      let n : ℕ = length (encode_utf8 c) in
      let front : take n bytes ≡ encode_utf8 c = sym (take-append-le n bytes more many)
      ∙ ap (λ xs. take n xs) (sym e) ∙ take-append_seam (encode_utf8 c) (encode_utf8_all cs) in
      let parts : bytes ≡ encode_utf8 c ++ drop n bytes = sym (take-append-drop n bytes)
      ∙ ap (λ xs. xs ++ drop n bytes) front in
      let rest : encode_utf8_all cs ≡ drop n bytes
      ++ more = append_cancel_left (encode_utf8 c) _ _
      (e ∙ ap (λ xs. xs ++ more) parts ∙ append_assoc (encode_utf8 c) (drop n bytes) more) in
      let same : text_rest bytes ≡ text_rest (drop n bytes) = ap text_rest parts
      ∙ text_rest-append (encode_utf8 c) (drop n bytes) (IsUtf8-encode c (and_parts _ _ s).0) in
      subst (λ xs. length xs < 4) (sym same)
      (short_rest cs (drop n bytes) more (and_parts _ _ s).1 rest)
]

ended_nil : (xs : List ℕ) → IsTrue (has_ended (Some xs)) → xs ≡ []
ended_nil [] e = refl
ended_nil (x ∷ xs) e = absurd (false≢true e)

never_invalid : (text bytes more : List ℕ) → all_scalars text ≡ true
    → encode_utf8_all text ≡ bytes ++ more → IsRefused bytes (has_ended (Some more)) → ⊥
never_invalid text bytes more s e (inr many) = absurd
    (omega (arith, many, short_rest text bytes more s e))
never_invalid text bytes more s e (inl (end, some)) =
    let whole : encode_utf8_all text ≡ bytes = e ∙ ap (λ xs. bytes ++ xs) (ended_nil more end)
    ∙ append-nil bytes in
    let all : utf8_valid_len bytes
    ≡ length bytes = utf8_valid_len-IsUtf8 bytes (text, (s, whole)) in
    absurd (omega (arith, some, all, length-drop (utf8_valid_len bytes) bytes))

pub never_refused : (encoding : Encoding) (text : List ℕ) (left : Option (List ℕ)) (failed : Bool)
    (result : Result (RopeView × Encoding) ReadAnyError) → all_scalars text ≡ true
    → ReadsAny text_read (Some encoding) (Some (encode encoding text)) left failed result
    → IsNoText result → ⊥
never_refused encoding text left failed (Ok file) s a n = n
never_refused encoding text left failed (Err (Read x)) s a n = n
never_refused encoding text None failed (Err NoMark) s (e, is, u, inl h) n = absurd h.1
never_refused encoding text (Some zs) failed (Err NoMark) s
    (e, is, u, inl (head, given, (clear, other, long))) n =
    absurd (false≢true (sym other ∙ never_unmarked e text head zs
    (subst (λ x. encode x text ≡ head ++ zs) (sym is) given) long))
never_refused encoding text left failed (Err NoMark) s
    (e, is, u, inr (held, short, (all, given, (bytes, all_is, answers)))) n = absurd answers
never_refused encoding text left failed (Err InvalidUtf8) s (e, is, u, inl h) n = absurd h.2
never_refused encoding text None failed (Err InvalidUtf8) s
    (e, is, u, inr (held, short, (all, given, a))) n = absurd given
never_refused encoding text (Some zs) failed (Err InvalidUtf8) s
    (e, is, u, inr (held, short, (all, given, (bytes, all_is, (clear, utf8, refused))))) n =
    let body : encode_unmarked e text ≡ bytes ++ (held ++ zs) = append_cancel_left (mark_of e) _ _
    (subst (λ x. encode x text ≡ all ++ zs) (sym is) given ∙ ap (λ xs. xs ++ zs) all_is
    ∙ append_assoc (mark_of e) (bytes ++ held) zs
    ∙ ap (λ xs. mark_of e ++ xs) (append_assoc bytes held zs)) in
    never_invalid text bytes (held ++ zs) s (sym (spelled_utf8 e text utf8) ∙ body) refused
never_refused encoding text left failed (Err (UnpairedSurrogate k)) s (e, is, u, inl h) n = absurd
    h.2
never_refused encoding text None failed (Err (UnpairedSurrogate k)) s
    (e, is, u, inr (held, short, (all, given, a))) n = absurd given
never_refused encoding text (Some zs) failed (Err (UnpairedSurrogate k)) s (
  e,
  is,
  u,
  inr (
    held,
    short,
    (
      all,
      given,
      (bytes, all_is, (clear, t, rest, follow, off, l, l_is, why)),
    ),
  ),
) n =
    let r = rest_of_text e l text t rest bytes held all zs l_is s follow.scalars
    (subst (λ x. encode x text ≡ all ++ zs) (sym is) given) all_is follow.whole in
    none l r.0 rest (held ++ zs) r.1 r.2 why
  where
    none : (l : Layout) (more rest after : List ℕ) → all_scalars more ≡ true
        → rest ++ after ≡ laid_out l more → IsUnpaired l rest ⊎ (EndsUnpaired l rest × (after ≡ []))
        → ⊥
    none Bytes more rest after ms r (inl x) = x
    none Bytes more rest after ms r (inr x) = x.0
    none (CodeUnits o) more rest after ms r (inl x) = never_unpaired o more rest after ms (sym r) x
    none (CodeUnits o) more rest after ms r (inr x) = never_ends_unpaired o more rest ms
        (sym r ∙ ap (λ xs. rest ++ xs) x.1) x.0
never_refused encoding text left failed (Err (HalfCodeUnit k)) s (e, is, u, inl h) n = absurd h.2
never_refused encoding text None failed (Err (HalfCodeUnit k)) s
    (e, is, u, inr (held, short, (all, given, a))) n = absurd given
never_refused encoding text (Some zs) failed (Err (HalfCodeUnit k)) s (
  e,
  is,
  u,
  inr (
    held,
    short,
    (
      all,
      given,
      (bytes, all_is, (clear, t, rest, follow, off, l, l_is, half, end)),
    ),
  ),
) n =
    let r = rest_of_text e l text t rest bytes held all zs l_is s follow.scalars
    (subst (λ x. encode x text ≡ all ++ zs) (sym is) given) all_is follow.whole in
    none l r.0 rest (held ++ zs) r.2 half end
  where
    none : (l : Layout) (more rest after : List ℕ) → rest ++ after ≡ laid_out l more
        → EndsHalf l rest → after ≡ [] → ⊥
    none Bytes more rest after r half end = half
    none (CodeUnits o) more rest after r half end = never_half o more rest
        (sym r ∙ ap (λ xs. rest ++ xs) end ∙ append-nil rest) half
never_refused encoding text left failed (Err (Rope x)) s a n = n
