-- A character boundary in the bytes of a text, as the characters before it.
use Rattle.std.proofs.Common.{◌≡◌, ℕ, suc, ◌+◌, ◌<◌, ◌≤◌, Bool, true, cond, List, ◌∷◌, ◌++◌, length, take, drop, get_or, count_by, refl, sym, ap, ◌∙◌, arith, take-append-drop, add-one, inl, inr, subst}
use Rattle.std.proofs.lemmas.Bool.{cases_lt}
use Rattle.std.proofs.lemmas.Bool.Decides.{nat_tests}
use Rattle.std.proofs.lemmas.List.{length-append, length-take-le, length-drop, take_at, take_all, drop_more, get_or-drop, get_or_past, get_or_default}
use Rattle.std.proofs.lemmas.Str.{IsUtf8-take, chars-append, scalars-chars, length-encode}
use Rattle.std.specs.Char.{encode_utf8}
use Rattle.std.specs.Str.{chars, IsUtf8, IsCharBoundary, encode_utf8_all, all_scalars}
use Rattle.rope_text.specs.declared.line_breaks.LineBreaks.{LineBreaks}
use Rattle.rope_text.specs.declared.line_breaks.LineBreaks.TheVariants.{Lf, CrLf, Unicode}
use Rattle.rope_text.specs.declared.lanes.Mark.{Mark}
use Rattle.rope_text.specs.declared.lanes.Mark.TheVariants.{Char}
use Rattle.rope_text.specs.Marks.{IsPassed, IsPlaceOf}
use Rattle.rope_text.specs.Text.{byte_len, utf16_len, surrogate_count}
use Rattle.rope_text.specs.Bytes.{begins_char, begins_pair}
use Rattle.rope_text.specs.ByteBreaks.{break_at, byte_break_count, unit_count, char_width}
use Rattle.rope_text.specs.Breaks.{begins_with_lf, ends_break, break_ends, break_count}
use Rattle.rope_text.specs.Lines.{line_start}
use Rattle.rope_text.specs.Conversions.{byte_to_char, utf16_to_char, char_to_line}
use Rattle.rope_text.proofs.Blocks.{count_by-drop, count_by-later}
use Rattle.rope_text.proofs.ByteLaws.{length-chars, utf16_len-chars, length-from_bytes, pairs-from_bytes}
use Rattle.rope_text.proofs.ByteBreakLaws.{byte_break_count-encodes, break_count-chars, byte_break_count-past, break_first, width_first}
use Rattle.rope_text.proofs.ConversionLaws.{byte_to_char_is, byte_to_char-fits, byte_to_char-over, byte_to_char-past, utf16_to_char_is, byte_len_more, char_to_line_more, char_to_line_past}
use Rattle.rope_text.proofs.Encoded.{Encoded-encode}
use Rattle.rope_text.proofs.FirstBytes.{first_scalar, rest_scalars, starts_same}
use Rattle.rope_text.proofs.Measures.{size_lt, size_le, IsMeasure-byte_len, IsMeasure-utf16_len}
use Rattle.rope_text.proofs.SliceLaws.{break_count-drop}
use Rattle.rope_text.proofs.TextParts.{take-bytes, drop-bytes, all_scalars-drop, byte_len_boundary}
use Rattle.rope_text.proofs.Walks.{byte_len-chars, line_start_is}

-- the bytes before a boundary are those of the first characters
pub front_at : (bs : List ℕ) (p : ℕ) → IsUtf8 bs → IsCharBoundary bs p → (k : ℕ)
    × (k ≤ length (chars bs)) × (byte_len (take k (chars bs)) ≡ p)
front_at bs p u b =
    let front = IsUtf8-take bs p u b in
    let parts : chars bs ≡ chars (take p bs) ++ chars (drop p bs) =
    ap chars (sym (take-append-drop p bs)) ∙ chars-append (take p bs) (drop p bs) front in (
      length (chars (take p bs)),
      omega (arith, ap length parts, length-append (chars (take p bs)) (chars (drop p bs))),
      ap byte_len (ap (take (length (chars (take p bs)))) parts
          ∙ take_at (chars (take p bs)) (chars (drop p bs)) _ refl)
          ∙ byte_len-chars (take p bs) front ∙ length-take-le p bs b.0,
    )

pub boundary_of_begin : (bs : List ℕ) (p : ℕ) → p ≤ length bs
    → (p < length bs → begins_char (get_or bs p 0) ≡ true) → IsCharBoundary bs p
boundary_of_begin bs p within begins = (
  within,
  λ l big. let b = begins l in
      grind (arith, nat_tests),
)

-- the counts of the bytes before the k-th character, and of the rest
pub begins_before : (bs : List ℕ) (k : ℕ) → IsUtf8 bs → k ≤ length (chars bs)
    → count_by begins_char (take (byte_len (take k (chars bs))) bs) ≡ k
begins_before bs k u few = ap (count_by begins_char) (take-bytes bs k u)
    ∙ length-from_bytes (take k (chars bs)) ∙ length-take-le k (chars bs) few

pub pairs_before : (bs : List ℕ) (k : ℕ) → IsUtf8 bs
    → count_by begins_pair (take (byte_len (take k (chars bs))) bs)
    ≡ surrogate_count (take k (chars bs))
pairs_before bs k u = ap (count_by begins_pair) (take-bytes bs k u)
    ∙ pairs-from_bytes (take k (chars bs))

-- the first characters that take all bytes are all characters, and fewer are not
pub whole_front : (bs : List ℕ) (k : ℕ) → IsUtf8 bs → byte_len (take k (chars bs)) ≡ length bs
    → take k (chars bs) ≡ chars bs
whole_front bs k u place =
    let cs : List ℕ = chars bs in
    elim (cases_lt k (length cs)) [
      | inl less ↦ absurd (omega (
        arith,
        size_lt byte_len IsMeasure-byte_len cs k (length cs) less (omega arith),
        ap byte_len (take_all (length cs) cs (omega arith)),
        byte_len-chars bs u,
        place,
      ))
      | inr past ↦ take_all k cs past
    ]

pub part_front : (bs : List ℕ) (k : ℕ) → IsUtf8 bs → (byte_len (take k (chars bs)) ≡ length bs → ⊥)
    → k < length (chars bs)
part_front bs k u part =
    elim (cases_lt k (length (chars bs))) [
      | inl less ↦ less
      | inr past ↦ absurd (part (ap byte_len (take_all k (chars bs) past) ∙ byte_len-chars bs u))
    ]

begins_from : (bs : List ℕ) (k : ℕ) → IsUtf8 bs
    → count_by begins_char (drop (byte_len (take k (chars bs))) bs) ≡ length (drop k (chars bs))
begins_from bs k u = ap (count_by begins_char) (drop-bytes bs k u)
    ∙ length-from_bytes (drop k (chars bs))

units_from : (bs : List ℕ) (k : ℕ) → IsUtf8 bs
    → unit_count (drop (byte_len (take k (chars bs))) bs) ≡ utf16_len (drop k (chars bs))
units_from bs k u = ap unit_count (drop-bytes bs k u)
    ∙ omega (arith, length-from_bytes (drop k (chars bs)), pairs-from_bytes (drop k (chars bs)))

breaks_from : (breaks : LineBreaks) (bs : List ℕ) (k : ℕ) → IsUtf8 bs
    → byte_break_count breaks (drop (byte_len (take k (chars bs))) bs)
    ≡ break_count breaks (drop k (chars bs))
breaks_from breaks bs k u = ap (byte_break_count breaks) (drop-bytes bs k u)
    ∙ byte_break_count-encodes breaks (drop k (chars bs))
    (all_scalars-drop k (chars bs) (scalars-chars bs u))

-- the byte that has n characters before it, or the end
pub char_place : (bs : List ℕ) (n p : ℕ) → IsUtf8 bs → p ≤ length bs
    → (p < length bs → (count_by begins_char bs ≡ n + count_by begins_char (drop p bs))
    × (begins_char (get_or bs p 0) ≡ true))
    → (p ≡ length bs → count_by begins_char bs ≤ n) → p ≡ byte_len (take n (chars bs))
char_place bs n p u within inside end =
    elim (cases_lt p (length bs)) [
      | inl less ↦
          let f = front_at bs p u (boundary_of_begin bs p within (λ l. (inside l).1)) in
          let rest = rw f.2 at (begins_from bs f.0 u) in
          let same : f.0 ≡ n =
          omega (
            arith,
            f.1,
            rest,
            (inside less).0,
            length-chars bs u,
            length-drop f.0 (chars bs),
          ) in
          sym f.2 ∙ ap (λ j. byte_len (take j (chars bs))) same
      | inr past ↦
          let whole : p ≡ length bs = omega arith in
          whole ∙ sym (byte_len-chars bs u)
          ∙ ap byte_len (sym (take_all n (chars bs) (omega (arith, end whole, length-chars bs u))))
    ]

-- the last boundary up to byte b is where the character that holds b begins
pub byte_place : (bs : List ℕ) (b p : ℕ) → IsUtf8 bs → IsCharBoundary bs p → p ≤ b
    → ((k : ℕ) → p < k → k ≤ b → IsCharBoundary bs k → ⊥)
    → byte_len (take (byte_to_char (chars bs) b) (chars bs)) ≡ p
byte_place bs b p u at fits last =
    let f = front_at bs p u at in
    let same : byte_to_char (chars bs) b ≡ f.0 =
    byte_to_char_is (chars bs) b f.0 f.1 (omega (arith, f.2))
    (λ less.
    let next = byte_len (take (suc f.0) (chars bs)) in
    let more = size_lt byte_len IsMeasure-byte_len (chars bs) f.0 (suc f.0) (omega arith) less in
    elim (cases_lt b next) [
      | inl over ↦ over
      | inr under ↦
          absurd (last next (omega (arith, f.2)) under (byte_len_boundary bs (suc f.0) u))
    ]) in
    ap (λ j. byte_len (take j (chars bs))) same ∙ f.2

-- a boundary begins a character, if it isn't the end
begins_at : (bs : List ℕ) (p : ℕ) → IsCharBoundary bs p → p < length bs
    → begins_char (get_or bs p 0) ≡ true
begins_at bs p at l = let big = at.1 l in grind (arith, nat_tests)

-- the character that holds the byte b is the last that begins at or before it
held_inside : (bs : List ℕ) (b : ℕ) → IsUtf8 bs → b < length bs
    → count_by begins_char bs ≡ (byte_to_char (chars bs) b + 1) + count_by begins_char
    (drop (b + 1) bs)
held_inside bs b u inside =
    let cs : List ℕ = chars bs in
    let i : ℕ = byte_to_char cs b in
    let p : ℕ = byte_len (take i cs) in
    let q : ℕ = byte_len (take (suc i) cs) in
    let size = byte_len-chars bs u in
    let fits : p ≤ b = byte_to_char-fits cs b in
    let less : i < length cs = elim (cases_lt i (length cs)) [
      | inl less ↦ less
      | inr past ↦ absurd (omega (arith, fits, ap byte_len (take_all i cs past), size))
    ] in
    let over : b < q = byte_to_char-over cs b less in
    let here = count_by-drop begins_char bs p (omega arith) in
    let one : cond {A = ℕ} (begins_char (get_or bs p 0)) 1 0 ≡ 1 =
    ap (λ (t : Bool). cond {A = ℕ} t 1 0)
    (begins_at bs p (byte_len_boundary bs i u) (omega arith)) in
    omega (
      arith,
      here,
      one,
      less,
      begins_from bs i u,
      begins_from bs (suc i) u,
      length-drop i cs,
      length-drop (suc i) cs,
      count_by-later begins_char bs (p + 1) (b + 1) (omega arith),
      count_by-later begins_char bs (b + 1) q (omega arith),
      length-chars bs u,
    )

pub held_begins : (bs text : List ℕ) (b : ℕ) → IsUtf8 text → bs ≡ text → b < length bs
    → count_by begins_char bs ≡ (byte_to_char (chars text) b + 1) + count_by begins_char
    (drop (b + 1) bs)
held_begins bs text b u same =
    subst (λ xs. b < length xs → count_by begins_char xs
    ≡ (byte_to_char (chars text) b + 1) + count_by begins_char (drop (b + 1) xs)) (sym same)
    (held_inside text b u)

-- the end is after all characters
pub held_past : (bs text : List ℕ) (b : ℕ) → IsUtf8 text → bs ≡ text → length bs ≤ b
    → byte_to_char (chars text) b ≡ length (chars text)
held_past bs text b u same past =
    byte_to_char-past (chars text) b (omega (arith, byte_len-chars text u, ap length same))

units_later : (bs : List ℕ) (i j : ℕ) → i ≤ j → unit_count (drop j bs) ≤ unit_count (drop i bs)
units_later bs i j l =
    omega (arith, count_by-later begins_char bs i j l, count_by-later begins_pair bs i j l)

-- a mark that was found after blocks before it were skipped
pub passed_mark : (mark : Mark) (bs : List ℕ) (n at left p : ℕ) → IsPassed mark bs n at left
    → IsPlaceOf mark bs at left p → IsPlaceOf mark bs 0 n p
passed_mark mark bs n at left p passed place = record {
  not_before = omega arith;
  bound = place.bound;
  inside = λ l. (omega (arith, passed.counted, (place.inside l).0), (place.inside l).1);
  end = λ e. omega (arith, passed.counted, place.end e);
}

-- a character that was found after blocks before it were skipped; its byte is a boundary
pub passed_place : (bs text : List ℕ) (n at left p : ℕ) → IsUtf8 bs → bs ≡ text
    → IsPassed Char bs n at left → IsPlaceOf Char bs at left p
    → (p ≡ byte_len (take n (chars text))) × IsCharBoundary text p
passed_place bs text n at left p u same passed following =
    let place = passed_mark Char bs n at left p passed following in (
      char_place bs n p u place.bound place.inside place.end
          ∙ ap (λ xs. byte_len (take n (chars xs))) same,
      subst (λ xs. IsCharBoundary xs p) same
          (boundary_of_begin bs p place.bound (λ l. (place.inside l).1)),
    )

-- the characters before the one that contains the code unit n
pub unit_place : (bs : List ℕ) (n p : ℕ) → IsUtf8 bs → p ≤ length bs
    → (p < length bs → begins_char (get_or bs p 0) ≡ true)
    → unit_count bs ≤ n + unit_count (drop p bs)
    → (p < length bs → n + unit_count (drop (p + 1) bs) < unit_count bs)
    → count_by begins_char (take p bs) ≡ utf16_to_char (chars bs) n
unit_place bs n p u within begins before after =
    let cs : List ℕ = chars bs in
    let f = front_at bs p u (boundary_of_begin bs p within begins) in
    let all = utf16_len-chars bs u in
    let parts : (k : ℕ) → utf16_len cs ≡ utf16_len (take k cs) + utf16_len (drop k cs) =
    λ k. ap utf16_len (sym (take-append-drop k cs))
    ∙ IsMeasure-utf16_len.joined (take k cs) (drop k cs) in
    let counted = rw f.2 at (begins_before bs f.0 u f.1) in
    let rest = rw f.2 at (units_from bs f.0 u) in
    counted ∙ sym (utf16_to_char_is cs n f.0 f.1 (omega (arith, parts f.0))
    (λ less.
    let more = size_lt byte_len IsMeasure-byte_len cs f.0 (suc f.0) (omega arith) less in
    let most = size_le byte_len IsMeasure-byte_len cs (suc f.0) (length cs) less in
    let long = ap byte_len (take_all (length cs) cs (omega arith)) ∙ byte_len-chars bs u in
    let inside : p < length bs = omega (arith, f.2) in
    let later = units_later bs (p + 1) (byte_len (take (suc f.0) cs)) (omega (arith, f.2)) in
    omega (arith, parts (suc f.0), units_from bs (suc f.0) u, after inside)))

-- the breaks up to character k are those that begin before its byte
pub line_place : (breaks : LineBreaks) (bs : List ℕ) (k : ℕ) → IsUtf8 bs
    → byte_break_count breaks bs ≡ char_to_line breaks (chars bs) k + byte_break_count breaks
    (drop (byte_len (take k (chars bs))) bs)
line_place breaks bs k u =
    elim (cases_lt k (length (chars bs))) [
      | inl less ↦ omega (
        arith,
        break_count-drop breaks (chars bs) k (omega arith),
        breaks_from breaks bs k u,
        break_count-chars breaks bs u,
      )
      | inr past ↦
          let end : length bs ≤ byte_len (take k (chars bs)) =
          omega (arith, ap byte_len (take_all k (chars bs) past), byte_len-chars bs u) in
          omega (
            arith,
            char_to_line_past breaks (chars bs) k past,
            byte_break_count-past breaks bs (byte_len (take k (chars bs))) end,
            break_count-chars breaks bs u,
          )
    ]

break_begins : (breaks : LineBreaks) (x y z : ℕ) → break_at breaks x y z ≡ true
    → begins_char x ≡ true
break_begins Lf x y z e = grind (arith, nat_tests)
break_begins CrLf x y z e = grind (arith, nat_tests)
break_begins Unicode x y z e = grind (arith, nat_tests)

-- the first character after the byte p
pub first_after : (breaks : LineBreaks) (bs : List ℕ) (p k : ℕ) → IsUtf8 bs
    → byte_len (take k (chars bs)) ≡ p → k < length (chars bs)
    → (break_at breaks (get_or bs p 0) (get_or bs (p + 1) 0) (get_or bs (p + 2) 0)
    ≡ ends_break breaks (get_or (chars bs) k 0) (drop (suc k) (chars bs)))
    × (char_width (get_or bs p 0) ≡ length (encode_utf8 (get_or (chars bs) k 0)))
first_after breaks bs p k u place less =
    let cs : List ℕ = chars bs in
    let c : ℕ = get_or cs k 0 in
    let rest : List ℕ = drop (suc k) cs in
    let split : drop k cs ≡ c ∷ rest = rw (add-one k) at (drop_more cs k 0 less) in
    let bytes : drop p bs ≡ encode_utf8 c ++ encode_utf8_all rest = ap (λ q. drop q bs) (sym place)
    ∙ drop-bytes bs k u ∙ ap encode_utf8_all split in
    let scalars : all_scalars (c ∷ rest) ≡ true = ap all_scalars (sym split)
    ∙ all_scalars-drop k cs (scalars-chars bs u) in
    let whole = Encoded-encode c (first_scalar c rest scalars) in
    let lf = starts_same rest (rest_scalars c rest scalars) in
    let at : (j : ℕ) → get_or bs (p + j) 0 ≡ get_or (encode_utf8 c ++ encode_utf8_all rest) j 0 =
    λ j. sym (get_or-drop p bs j 0) ∙ ap (λ ds. get_or ds j 0) bytes in
    let first : get_or bs p 0 ≡ get_or (encode_utf8 c ++ encode_utf8_all rest) 0 0 =
    ap (λ q. get_or bs q 0) (let e : p ≡ p + 0 = omega arith in e) ∙ at 0 in (
      rw (first, at 1, at 2) (break_first breaks c (encode_utf8 c) (encode_utf8_all rest)
          (begins_with_lf rest) whole lf),
      rw first (width_first c (encode_utf8 c) (encode_utf8_all rest) whole),
    )

-- the last character of the n-th break, the one before line n + 1
break_front : (breaks : LineBreaks) (bs : List ℕ) (n p : ℕ) → IsUtf8 bs → p < length bs
    → byte_break_count breaks bs ≡ n + byte_break_count breaks (drop p bs)
    → break_at breaks (get_or bs p 0) (get_or bs (p + 1) 0) (get_or bs (p + 2) 0) ≡ true
    → (k : ℕ) × (k < length (chars bs)) × (byte_len (take k (chars bs)) ≡ p)
    × (line_start breaks (chars bs) (suc n) ≡ suc k)
    × (char_width (get_or bs p 0) ≡ length (encode_utf8 (get_or (chars bs) k 0)))
break_front breaks bs n p u inside before begin =
    let cs : List ℕ = chars bs in
    let f = front_at bs p u (boundary_of_begin bs p (omega arith)
    (λ _. break_begins breaks (get_or bs p 0) (get_or bs (p + 1) 0) (get_or bs (p + 2) 0) begin)) in
    let few : f.0 < length cs = elim (cases_lt f.0 (length cs)) [
      | inl less ↦ less
      | inr past ↦ absurd (omega (
        arith,
        f.2,
        ap byte_len (take_all f.0 cs past),
        byte_len-chars bs u,
      ))
    ] in
    let first = first_after breaks bs p f.0 u f.2 few in
    let line : char_to_line breaks cs f.0 ≡ n =
    omega (arith, rw f.2 at (line_place breaks bs f.0 u)) in
    let ended : cond {A = ℕ} (ends_break breaks (get_or cs f.0 0) (drop (suc f.0) cs)) 1 0 ≡ 1 =
    ap (λ (t : Bool). cond {A = ℕ} t 1 0) (sym first.0 ∙ begin) in
    let next : line_start breaks cs (suc n) ≡ suc f.0 =
    line_start_is breaks cs (suc n) (suc f.0) few (λ _. omega (arith, line))
    (λ less. omega (arith, line, ended, char_to_line_more breaks cs f.0 few)) in
    (f.0, few, f.2, next, first.1)

-- the end of the n-th break is where line n + 1 starts
pub break_place : (breaks : LineBreaks) (bs : List ℕ) (n p : ℕ) → IsUtf8 bs → p < length bs
    → byte_break_count breaks bs ≡ n + byte_break_count breaks (drop p bs)
    → break_at breaks (get_or bs p 0) (get_or bs (p + 1) 0) (get_or bs (p + 2) 0) ≡ true
    → p + char_width (get_or bs p 0) ≡ byte_len
    (take (line_start breaks (chars bs) (suc n)) (chars bs))
break_place breaks bs n p u inside before begin =
    let cs : List ℕ = chars bs in
    let f = break_front breaks bs n p u inside before begin in
    let size : byte_len (take (suc f.0) cs) ≡ p + char_width (get_or bs p 0) =
    byte_len_more cs f.0 (get_or cs f.0 0) (f.1, get_or_default cs f.0 0 (get_or cs f.0 0) f.1)
    ∙ omega (arith, f.2, f.4, length-encode (get_or cs f.0 0)) in
    sym size ∙ ap (λ j. byte_len (take j cs)) (sym f.3)

pub break_char : (breaks : LineBreaks) (bs : List ℕ) (n p k : ℕ) → IsUtf8 bs → p < length bs
    → byte_break_count breaks bs ≡ n + byte_break_count breaks (drop p bs)
    → break_at breaks (get_or bs p 0) (get_or bs (p + 1) 0) (get_or bs (p + 2) 0) ≡ true
    → count_by begins_char bs ≡ k + count_by begins_char (drop p bs)
    → k + 1 ≡ line_start breaks (chars bs) (suc n)
break_char breaks bs n p k u inside before begin counted =
    let f = break_front breaks bs n p u inside before begin in
    let rest = rw f.2 at (begins_from bs f.0 u) in
    omega (arith, f.1, f.3, rest, length-chars bs u, length-drop f.0 (chars bs))

-- past the last break a line starts at the end
pub no_break_line : (breaks : LineBreaks) (bs : List ℕ) (n : ℕ) → IsUtf8 bs
    → byte_break_count breaks bs ≤ n → line_start breaks (chars bs) (suc n) ≡ length (chars bs)
unfolding line_start
no_break_line breaks bs n u few =
    get_or_past (break_ends breaks (chars bs)) n (length (chars bs))
    (omega (arith, break_count-chars breaks bs u))

pub no_break_place : (breaks : LineBreaks) (bs : List ℕ) (n : ℕ) → IsUtf8 bs
    → byte_break_count breaks bs ≤ n
    → byte_len (take (line_start breaks (chars bs) (suc n)) (chars bs)) ≡ length bs
no_break_place breaks bs n u few =
    ap byte_len (ap (λ j. take j (chars bs)) (no_break_line breaks bs n u few)
    ∙ take_all (length (chars bs)) (chars bs) (omega arith)) ∙ byte_len-chars bs u
