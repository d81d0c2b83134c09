-- The breaks that begin in a range of the bytes, byte by byte.
use Rattle.std.proofs.Common.{◌≡◌, ℕ, zero, suc, ◌+◌, ◌-◌, ◌<◌, ◌≤◌, Bool, true, false, cond, List, [], ◌∷◌, length, take, drop, get_or, count_by, refl, sym, ap, ◌∙◌, arith, take-append-drop, not, eqb, leb, bit_and, ◌&&◌, ◌||◌}
use Rattle.std.specs.List.{range_with_len}
use Rattle.std.proofs.lemmas.Bool.{both_ways}
use Rattle.std.proofs.lemmas.List.{at_drop_more, get_or-drop}
use Rattle.std.proofs.lemmas.List.Sums.{sum_by-cons, sum_by-append, count_by-le-length}
use Rattle.std.proofs.lemmas.Simd.{chunk-drop}
use Rattle.std.proofs.Math.ListN.{drop_of_length-le}
use Rattle.rope_text.specs.declared.line_breaks.LineBreaks.{LineBreaks}
use Rattle.rope_text.specs.declared.line_breaks.LineBreaks.TheVariants.{Lf, CrLf, Unicode}
use Rattle.rope_text.specs.declared.text_info.TextInfo.{TextInfo}
use Rattle.rope_text.specs.Breaks.{break_ends}
use Rattle.rope_text.specs.TextInfo.{info_of}
use Rattle.rope_text.specs.Bytes.{begins_char, begins_pair}
use Rattle.rope_text.specs.declared.lanes.Mark.{Mark}
use Rattle.rope_text.specs.declared.lanes.Mark.TheVariants.{Char, Pair, Break}
use Rattle.rope_text.specs.Marks.{mark_at, marks, ahead, ascii_mark}
use Rattle.rope_text.specs.ByteBreaks.{break_at, breaks_at, byte_break_count}
use Rattle.rope_text.proofs.BitLaws.{one_at_most}
use Rattle.rope_text.proofs.UnicodeLanes.{no_multibyte_begin}
use mir.Val.{bool_byte}

pub byte_break_count-drop : (b : LineBreaks) (xs : List ℕ) (i : ℕ) → i < length xs →
    byte_break_count b (drop i xs) ≡ cond (breaks_at b xs i) 1 0 + byte_break_count b
    (drop (i + 1) xs)
byte_break_count-drop b xs i h =
    at_drop_more (byte_break_count b) xs i 0 h
    ∙ simp (get_or-drop) (rw (
      let e : (i + 1) + 0 ≡ i + 1 = omega arith in
          e,
      let e : (i + 1) + 1 ≡ i + 2 = omega arith in e,
    ))

pub byte_break_count-block : (b : LineBreaks) (xs : List ℕ) (i n : ℕ) → i + n ≤ length xs →
    byte_break_count b (drop i xs) ≡ count_by (breaks_at b xs) (range_with_len i n)
    + byte_break_count b (drop (i + n) xs)
byte_break_count-block b xs i zero h =
    omega (arith, ap (λ j. byte_break_count b (drop j xs)) (let e : i + 0 ≡ i = omega arith in e))
byte_break_count-block b xs i (suc n) h =
    omega (
      arith,
      byte_break_count-drop b xs i (omega arith),
      sum_by-cons (λ k. cond (breaks_at b xs k) 1 0) i (range_with_len (i + 1) n),
      byte_break_count-block b xs (i + 1) n (omega arith),
      ap (λ j. byte_break_count b (drop j xs)) (let e : i + suc n ≡ (i + 1) + n = omega arith in e),
    )

pub byte_break_count_le : (b : LineBreaks) (xs : List ℕ) → byte_break_count b xs ≤ length xs
byte_break_count_le b [] = omega arith
byte_break_count_le b (x ∷ xs) =
    omega (
      arith,
      byte_break_count_le b xs,
      one_at_most
          (break_at b x (get_or xs 0 0) (get_or xs 1 0)),
    )

pub begins_le : (xs : List ℕ) → count_by begins_char xs ≤ length xs
begins_le xs = count_by-le-length begins_char xs

pub pairs_le : (xs : List ℕ) → count_by begins_pair xs ≤ length xs
pairs_le xs = count_by-le-length begins_pair xs

pub count_by-block : (p : ℕ → Bool) (xs : List ℕ) (i n : ℕ)
    → count_by p (drop i xs) ≡ count_by p (take n (drop i xs)) + count_by p (drop (i + n) xs)
count_by-block p xs i n = ap (count_by p) (chunk-drop i n xs)
    ∙ sum_by-append (λ x. cond (p x) 1 0) (take n (drop i xs)) (drop (i + n) xs)

pub count_by-later : (p : ℕ → Bool) (xs : List ℕ) (i j : ℕ) → i ≤ j
    → count_by p (drop j xs) ≤ count_by p (drop i xs)
count_by-later p xs i j l =
    let same : i + (j - i) ≡ j = omega arith in
    let parts = rw same at (count_by-block p xs i (j - i)) in
    omega arith

pub count_by-front : (p : ℕ → Bool) (xs : List ℕ) (n : ℕ)
    → count_by p xs ≡ count_by p (take n xs) + count_by p (drop n xs)
count_by-front p xs n = ap (count_by p) (sym (take-append-drop n xs))
    ∙ sum_by-append (λ x. cond (p x) 1 0) (take n xs) (drop n xs)

-- the count from the byte p on and before the end n
pub count_by-following : (f : ℕ → Bool) (bs text : List ℕ) (p counted n : ℕ) → bs ≡ text
    → n ≡ length bs → count_by f (drop p bs) ≡ counted + count_by f (drop n bs)
    → counted ≡ count_by f (drop p text)
count_by-following f bs text p counted n same size more =
    let none : count_by f (drop n bs) ≡ 0 =
    ap (count_by f) (drop_of_length-le bs (omega (arith, size))) in
    omega (arith, more, none, ap (λ xs. count_by f (drop p xs)) same)

pub count_by-drop : (p : ℕ → Bool) (xs : List ℕ) (i : ℕ) → i < length xs
    → count_by p (drop i xs) ≡ cond (p (get_or xs i 0)) 1 0 + count_by p (drop (i + 1) xs)
count_by-drop p xs i h = at_drop_more (count_by p) xs i 0 h
    ∙ sum_by-cons (λ x. cond (p x) 1 0) (get_or xs i 0) (drop (i + 1) xs)

pub count_by-places : (p : ℕ → Bool) (xs : List ℕ) (i n : ℕ) → i + n ≤ length xs
    → count_by p (drop i xs) ≡ count_by (λ k. p (get_or xs k 0)) (range_with_len i n) + count_by p
    (drop (i + n) xs)
count_by-places p xs i zero h =
    omega (arith, ap (λ j. count_by p (drop j xs)) (let e : i + 0 ≡ i = omega arith in e))
count_by-places p xs i (suc n) h =
    omega (
      arith,
      count_by-drop p xs i (omega arith),
      sum_by-cons (λ k. cond (p (get_or xs k 0)) 1 0) i (range_with_len (i + 1) n),
      count_by-places p xs (i + 1) n (omega arith),
      ap (λ j. count_by p (drop j xs)) (let e : i + suc n ≡ (i + 1) + n = omega arith in e),
    )

-- the marks from a byte on: those in a block, and those from its end on
pub marks-block : (m : Mark) (xs : List ℕ) (i n : ℕ) → i + n ≤ length xs
    → marks m (drop i xs) ≡ count_by (mark_at m xs) (range_with_len i n) + marks m (drop (i + n) xs)
marks-block Char xs i n h = count_by-places begins_char xs i n h
marks-block Pair xs i n h = count_by-places begins_pair xs i n h
marks-block (Break b) xs i n h = byte_break_count-block b xs i n h

pub marks-drop : (m : Mark) (xs : List ℕ) (i : ℕ) → i < length xs
    → marks m (drop i xs) ≡ cond (mark_at m xs i) 1 0 + marks m (drop (i + 1) xs)
marks-drop Char xs i h = count_by-drop begins_char xs i h
marks-drop Pair xs i h = count_by-drop begins_pair xs i h
marks-drop (Break b) xs i h = byte_break_count-drop b xs i h

pub marks_le : (m : Mark) (xs : List ℕ) → marks m xs ≤ length xs
marks_le Char xs = begins_le xs
marks_le Pair xs = pairs_le xs
marks_le (Break b) xs = byte_break_count_le b xs

-- a test as a number
pub one_where : (a b : Bool) → a ≡ b → bool_byte a ≡ cond b 1 0
one_where a true same = ap bool_byte same
one_where a false same = ap bool_byte same

-- tests that agree where a third one, which holds nowhere, doesn't
pub count_by-unless : (p q r : ℕ → Bool) (ks : List ℕ) → ((k : ℕ) → p k ≡ false → q k ≡ r k)
    → count_by p ks ≡ 0 → count_by q ks ≡ count_by r ks
count_by-unless p q r [] same none = refl
count_by-unless p q r (k ∷ ks) same none =
    let more = sum_by-cons (λ j. cond (p j) 1 0) k ks in
    go (p k) refl (sym more ∙ none) (count_by-unless p q r ks same)
  where
    go : (t : Bool) → p k ≡ t → cond t 1 0 + count_by p ks ≡ 0
        → (count_by p ks ≡ 0 → count_by q ks ≡ count_by r ks)
        → count_by q (k ∷ ks) ≡ count_by r (k ∷ ks)
    go true e few rest = absurd (omega (arith, few))
    go false e few rest =
        sum_by-cons (λ j. cond (q j) 1 0) k ks
        ∙ rw (same k e, rest (omega (arith, few))) (sym (sum_by-cons (λ j. cond (r j) 1 0) k ks))

pub multibyte_off : (a b c d e f : Bool) → (c || d) ≡ false
    → (a || b) ≡ ((a || b) || ((c && e) || (d && f)))
multibyte_off true b c d e f h = refl
multibyte_off false true c d e f h = refl
multibyte_off false false false false e f h = refl
multibyte_off false false true d e f h = absurd (both_ways true h refl)
multibyte_off false false false true e f h = absurd (both_ways true h refl)

-- if no byte after a block is needed, none is read, and if no NEL, LS or PS begins, the ASCII marks
-- are all marks
pub ascii_alone : (m : Mark) (x y z : ℕ) → ahead m ≡ 0 → ascii_mark m x y ≡ ascii_mark m x z
ascii_alone Char x y z h = refl
ascii_alone Pair x y z h = refl
ascii_alone (Break Lf) x y z h = refl
ascii_alone (Break CrLf) x y z h = absurd (omega (arith, h))
ascii_alone (Break Unicode) x y z h = absurd (omega (arith, h))

pub ascii_all : (m : Mark) (xs ks : List ℕ)
    → (ahead m ≡ 2 → count_by (λ k. eqb (bit_and (get_or xs k 0) 223) 194) ks ≡ 0)
    → count_by (λ k. ascii_mark m (get_or xs k 0) (get_or xs (k + 1) 0)) ks
    ≡ count_by (mark_at m xs) ks
ascii_all Char xs ks none = refl
ascii_all Pair xs ks none = refl
ascii_all (Break Lf) xs ks none = refl
ascii_all (Break CrLf) xs ks none = refl
ascii_all (Break Unicode) xs ks none =
    let at : ℕ → ℕ → Bool = λ k v. eqb (get_or xs k 0) v in
    let is_low : ℕ → Bool = λ k. leb 10 (get_or xs k 0) && leb (get_or xs k 0) 12 in
    let is_lone_cr : ℕ → Bool = λ k. at k 13 && not (at (k + 1) 10) in
    count_by-unless (λ k. eqb (bit_and (get_or xs k 0) 223) 194) (λ k. is_low k || is_lone_cr k)
    (breaks_at Unicode xs) ks
    (λ k off.
    multibyte_off (is_low k) (is_lone_cr k) (at k 194) (at k 226) (at (k + 1) 133)
    (at (k + 1) 128 && (at (k + 2) 168 || at (k + 2) 169))
    (no_multibyte_begin (get_or xs k 0) off)) (none refl)

-- the counts of the empty text
pub record IsNone (info : TextInfo) : Type 0 where
  pub bytes : info.bytes ≡ 0
  pub chars : info.chars ≡ 0
  pub pairs : info.utf16_surrogates ≡ 0
  pub break_count : info.break_count ≡ 0

pub no_counts : (info : TextInfo) → ((breaks : LineBreaks) → info ≡ info_of breaks []) → IsNone info
unfolding break_ends
no_counts info same = record {
  bytes = ap (λ i. i.bytes) (same Lf);
  chars = ap (λ i. i.chars) (same Lf);
  pairs = ap (λ i. i.utf16_surrogates) (same Lf);
  break_count = ap (λ i. i.break_count) (same Lf);
}
