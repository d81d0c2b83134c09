-- Lines that are passed backward, over several chunks.
use Rattle.std.proofs.Common.{◌≡◌, ℕ, ◌+◌, ◌-◌, ◌<◌, ◌≤◌, false, List, [], ◌∷◌, ◌++◌, length, take, drop, refl, sym, ap, subst, ◌∙◌, arith, append_assoc, length-append, inl, inr}
use Rattle.std.specs.List.{concat}
use Rattle.std.proofs.lemmas.Bool.{cases_lt}
use Rattle.std.proofs.lemmas.List.{take_all, drop_all, append-nil, take-append-le, drop-append-le, take-append-drop, length-take-le}
use Rattle.std.proofs.Math.Seq.{take-append-add, drop-append-add}
use Rattle.std.proofs.lemmas.Str.{length-le-encodes}
use Rattle.rope_text.specs.declared.line_breaks.LineBreaks.{LineBreaks}
use Rattle.rope_text.specs.declared.text_info.TextInfo.{TextInfo}
use Rattle.rope_text.specs.Text.{byte_len}
use Rattle.rope_text.specs.TextInfo.{info_of, info_sum}
use Rattle.rope_text.specs.Breaks.{break_count, ends_in_cr}
use Rattle.rope_text.specs.Lines.{line_start}
use Rattle.rope_text.specs.Conversions.{byte_to_char, char_to_line}
use Rattle.rope_text.specs.Cutting.{parts_crlf, KeepsCrlf}
use Rattle.rope_text.specs.LineParts.{last_start}
use Rattle.rope_text.proofs.BreakLaws.{break_ends-nil}
use Rattle.rope_text.proofs.ConversionLaws.{byte_to_char-byte_len, char_to_line-line_start, char_to_line_start, byte_to_char-char_to_byte}
use Rattle.rope_text.proofs.InfoLaws.{info_of-append_apart}
use Rattle.rope_text.proofs.CuttingLaws.{concat-append, apart_back}
use Rattle.rope_text.proofs.LineLaws.{line_start-le-length}
use Rattle.rope_text.proofs.LineSeams.{never, break_count-apart, last_start-left, last_start-right, last_start_none}
use Rattle.rope_text.proofs.InfoLaws.{same_info}
use Rattle.rope_slice.specs.Path.{Place, IsNext}
use Rattle.rope_text.specs.LineParts.{before_byte, after_byte, last_line_byte, last_line_info}
use Rattle.rope_slice.specs.Caret.{halves_at, AreChunks, IsCaret, PassesBack}
use Rattle.rope_slice.proofs.Spans.{leaves_next}
use Rattle.rope_slice.proofs.Carets.{apart_joined, apart_front, small_of, size_two, whole_text}
use Rattle.rope_leaf.specs.Search.{IsSmall}

-- texts with too few breaks were passed backward, up to the start of a chunk; `left` breaks are
-- left to pass
record PassedBack (breaks : LineBreaks) (skip : ℕ) (front back : List ℕ) (p : Place)
    (info : TextInfo) (left : ℕ) (text : List ℕ) : Type 0 where
  pub chunks : AreChunks p
  pub front_is : front ≡ concat p.before ++ text
  pub back_is : p.here ++ concat p.after ≡ text ++ back
  pub few : break_count breaks text + left ≡ skip
  pub counts : info ≡ info_of breaks text

-- the position after the last byte is after the last character
end_at : (text : List ℕ) (size : ℕ) → size ≡ byte_len text → byte_to_char text size ≡ length text
end_at text size e = ap (byte_to_char text) e ∙ byte_to_char-byte_len text

pub whole : (text : List ℕ) (size : ℕ) → size ≡ byte_len text → before_byte text size ≡ text
whole text size e = ap (λ k. take k text) (end_at text size e)
    ∙ take_all (length text) text (omega arith)

pub apart_at_end : (text : List ℕ) (size : ℕ) → size ≡ byte_len text
    → parts_crlf (before_byte text size) (after_byte text size) ≡ false
apart_at_end text size e =
    let none : after_byte text size ≡ [] = ap (λ k. drop k text) (end_at text size e)
    ∙ drop_all (length text) text (omega arith) in
    ap (parts_crlf (before_byte text size)) none ∙ never (ends_in_cr (before_byte text size))

-- no CR meets LF between the chunks before and those from here on
apart_chunks : (p q : List (List ℕ)) → KeepsCrlf (p ++ q) → parts_crlf (concat p) (concat q) ≡ false
apart_chunks [] q kept = refl
apart_chunks (x ∷ p) q kept =
    apart_joined x (concat p) (concat q) (ap (parts_crlf x) (sym (concat-append p q)) ∙ kept.0)
    (apart_chunks p q kept.1)

line_start_some : (breaks : LineBreaks) (text : List ℕ) (l : ℕ) → 0 < l
    → l ≤ break_count breaks text → 0 < line_start breaks text l
line_start_some breaks text l some within = elim (cases_lt 0 (line_start breaks text l)) [
  | inl more ↦ more
  | inr none ↦
      let zero : line_start breaks text l ≡ 0 = omega arith in
      let here = ap (char_to_line breaks text) zero in
      absurd (omega (
        arith,
        char_to_line-line_start breaks text l (omega arith),
        char_to_line_start breaks text,
      ))
]

pub chunks_prev : (p q : Place) → IsNext q p → AreChunks p → AreChunks q
chunks_prev p q n h = record {
  kept = subst KeepsCrlf (leaves_next q p n) h.kept;
  fits = rw (← leaves_next q p n) h.fits;
}

-- a text x of the chunk here, with y after it in the chunk, after the texts q were passed
module _ (breaks : LineBreaks) (skip left : ℕ) (front back x y q : List ℕ) (p : Place) (start : ℕ)
    (more info : TextInfo) (chunks : AreChunks p)
    (here_is : p.here ≡ x ++ y) (following : y ++ concat p.after ≡ q ++ back)
    (front_is : front ≡ (concat p.before ++ x) ++ q) (few : break_count breaks q + left ≡ skip)
    (apart : parts_crlf x q ≡ false)
    (start_is : start ≡ byte_len (take (last_start breaks x left) x))
    (counts : more ≡ info_of breaks (drop (last_start breaks x left) x))
    (passed : info ≡ info_of breaks q) where
  ahead_is : p.here ++ concat p.after ≡ (x ++ q) ++ back
  ahead_is = ap (λ t. t ++ concat p.after) here_is ∙ append_assoc x y (concat p.after)
      ∙ ap (λ t. x ++ t) following ∙ sym (append_assoc x q back)

  before_apart : parts_crlf (concat p.before) (x ++ q) ≡ false
  before_apart =
      apart_front (concat p.before) (x ++ q) back (ap (parts_crlf (concat p.before)) (sym ahead_is)
      ∙ apart_chunks p.before (p.here ∷ p.after) chunks.kept)

  whole_is : front ≡ concat p.before ++ (x ++ q)
  whole_is = front_is ∙ append_assoc (concat p.before) x q

  within : last_start breaks x left ≤ length x
  within = line_start-le-length breaks x (break_count breaks x - left)

  last_apart : parts_crlf (drop (last_start breaks x left) x) q ≡ false
  last_apart =
      let k : ℕ = last_start breaks x left in
      apart_back (take k x) (drop k x) q (ap (λ t. parts_crlf t q) (take-append-drop k x) ∙ apart)

  sum_is : (sum : TextInfo) → sum ≡ info_sum more info
      → sum ≡ info_of breaks (drop (last_start breaks x left) x ++ q)
  sum_is sum s =
      let rest : List ℕ = drop (last_start breaks x left) x in
      s ∙ ap (λ t. info_sum t info) counts ∙ ap (λ t. info_sum (info_of breaks rest) t) passed
      ∙ sym (info_of-append_apart breaks rest q last_apart)

  -- the line starts in it
  pub found_back : (sum : TextInfo) → sum ≡ info_sum more info → 0 < start
      → PassesBack breaks skip front back p start sum
  found_back sum s some =
      let k : ℕ = last_start breaks x left in
      let before : List ℕ = concat p.before in
      let after : List ℕ = concat p.after in
      let enough : left < break_count breaks x = elim (cases_lt left (break_count breaks x)) [
        | inl less ↦ less
        | inr past ↦ absurd (let none =
            ap (λ n. byte_len (take n x)) (last_start_none breaks x left past) in omega arith)
      ] in
      let rest : skip - break_count breaks q ≡ left = omega arith in
      let first_apart = apart_front before x q before_apart in
      let line : last_start breaks front skip ≡ length before + k =
      ap (λ t. last_start breaks t skip) front_is
      ∙ last_start-left breaks (before ++ x) q skip (apart_joined before x q before_apart apart)
      (omega arith)
      ∙ ap (last_start breaks (before ++ x)) rest
      ∙ last_start-right breaks before x left first_apart enough in
      let inside : take k p.here ≡ take k x = ap (take k) here_is ∙ take-append-le k x y within in
      let bytes : start ≡ byte_len (take k p.here) = start_is ∙ ap byte_len (sym inside) in
      let place : byte_to_char p.here start ≡ k =
      ap (byte_to_char p.here) bytes
      ∙ byte_to_char-char_to_byte p.here k (let long = ap length here_is in
      let two = length-append x y in let l = within in omega arith) in
      let last : drop (last_start breaks front skip) front ≡ drop k x ++ q =
      ap (λ n. drop n front) line ∙ ap (drop (length before + k)) whole_is
      ∙ drop-append-add before (x ++ q) k ∙ drop-append-le k x q within in
      record {
        caret = record {
          between = ap (λ m. byte_len (take m p.here)) place ∙ sym bytes;
          chunks = chunks;
        };
        front_is = ap (λ m. before ++ take m p.here) place
            ∙ ap (λ t. before ++ t) (inside ∙ sym (take-append-le k x q within))
            ∙ sym (take-append-add before (x ++ q) k) ∙ ap (take (length before + k)) (sym whole_is)
            ∙ ap (λ n. take n front) (sym line);
        back_is = ap (λ m. drop m p.here ++ after) place ∙ ap (λ t. drop k t ++ after) here_is
            ∙ ap (λ t. t ++ after) (drop-append-le k x y within)
            ∙ append_assoc (drop k x) y after ∙ ap (λ t. drop k x ++ t) following
            ∙ sym (append_assoc (drop k x) q back) ∙ ap (λ t. t ++ back) (sym last);
        counts = sum_is sum s ∙ ap (info_of breaks) (sym last);
      }

  -- it has too few breaks
  none_inside : start ≤ 0 → last_start breaks x left ≡ 0
  none_inside none =
      let k : ℕ = last_start breaks x left in
      omega (arith, start_is, length-le-encodes (take k x), length-take-le k x within)

  few_inside : start ≤ 0 → break_count breaks x ≤ left
  few_inside none = elim (cases_lt left (break_count breaks x)) [
    | inr past ↦ past
    | inl less ↦ absurd (let some =
        line_start_some breaks x (break_count breaks x - left) (omega arith) (omega arith) in
        let zero = none_inside none in omega arith)
  ]

  all_inside : start ≤ 0 → more ≡ info_of breaks x
  all_inside none = counts ∙ ap (λ n. info_of breaks (drop n x)) (none_inside none)

  pub breaks_left : start ≤ 0 → more.break_count ≤ left
  breaks_left none = let few = few_inside none in
      omega (arith, ap (λ t. t.break_count) (all_inside none))

  over_back : (sum : TextInfo) → sum ≡ info_sum more info → start ≤ 0
      → PassedBack breaks skip front back p sum (left - more.break_count) (x ++ q)
  over_back sum s none =
      let inside = few_inside none in
      record {
        chunks = chunks;
        front_is = whole_is;
        back_is = ahead_is;
        few = omega (
          arith,
          break_count-apart breaks x q apart,
          ap (λ t. t.break_count) (all_inside none),
        );
        counts = sum_is sum s ∙ ap (λ n. info_of breaks (drop n x ++ q)) (none_inside none);
      }

  pub both_small : IsSmall more × IsSmall info
  both_small =
      let k : ℕ = last_start breaks x left in
      let whole = ap byte_len (whole_text p)
      ∙ ap byte_len (append_assoc (concat p.before) p.here (concat p.after))
      ∙ size_two (concat p.before) (p.here ++ concat p.after) in
      let parts = ap byte_len ahead_is ∙ size_two (x ++ q) back in
      let two = size_two x q in
      let split = ap byte_len (sym (take-append-drop k x)) ∙ size_two (take k x) (drop k x) in (
        small_of breaks (drop k x) more counts (omega (arith, chunks.fits)),
        small_of breaks q info passed (omega (arith, chunks.fits)),
      )

-- the text passed, and then a line's start further back
compose_back : (breaks : LineBreaks) (skip left : ℕ) (front back q : List ℕ) (p new : Place) (b : ℕ)
    (info more sum : TextInfo) → PassedBack breaks skip front back p info left q
    → PassesBack breaks left (concat p.before) (p.here ++ concat p.after) new b more
    → sum ≡ info_sum more info → PassesBack breaks skip front back new b sum
compose_back breaks skip left front back q p new b info more sum h r s =
    let before : List ℕ = concat p.before in
    let k : ℕ = last_start breaks before left in
    let within = line_start-le-length breaks before (break_count breaks before - left) in
    let apart : parts_crlf before q ≡ false =
    apart_front before q back (ap (parts_crlf before) (sym h.back_is)
    ∙ apart_chunks p.before (p.here ∷ p.after) h.chunks.kept) in
    let rest : skip - break_count breaks q ≡ left = (let f = h.few in omega arith) in
    let line : last_start breaks front skip ≡ k =
    ap (λ t. last_start breaks t skip) h.front_is
    ∙ last_start-left breaks before q skip apart (let f = h.few in omega arith)
    ∙ ap (last_start breaks before) rest in
    let last : drop (last_start breaks front skip) front ≡ drop k before ++ q =
    ap (λ n. drop n front) line ∙ ap (drop k) h.front_is ∙ drop-append-le k before q within in
    let meet =
    apart_back (take k before) (drop k before) q
    (ap (λ t. parts_crlf t q) (take-append-drop k before) ∙ apart) in
    record {
      caret = r.caret;
      front_is = r.front_is ∙ sym (take-append-le k before q within) ∙ ap (take k) (sym h.front_is)
          ∙ ap (λ n. take n front) (sym line);
      back_is = r.back_is ∙ ap (λ t. drop k before ++ t) h.back_is
          ∙ sym (append_assoc (drop k before) q back) ∙ ap (λ t. t ++ back) (sym last);
      counts = s ∙ ap (λ t. info_sum t info) r.counts
          ∙ ap (λ t. info_sum (info_of breaks (drop k before)) t) h.counts
          ∙ sym (info_of-append_apart breaks (drop k before) q meet)
          ∙ ap (info_of breaks) (sym last);
    }

no_breaks : (breaks : LineBreaks) → break_count breaks [] ≡ 0
no_breaks breaks = ap length (break_ends-nil breaks)

nothing_more : (breaks : LineBreaks) (info : TextInfo) → info ≡ info_sum info (info_of breaks [])
nothing_more breaks info =
    same_info info (info_sum info (info_of breaks [])) (omega arith) (omega arith) (omega arith)
    (omega (arith, no_breaks breaks))

-- a line that starts in the chunk before
pub line_in_last : (breaks : LineBreaks) (skip : ℕ) (p q : Place) (start : ℕ) (more : TextInfo)
    → AreChunks p → IsNext q p → start ≡ byte_len (take (last_start breaks q.here skip) q.here)
    → more ≡ info_of breaks (drop (last_start breaks q.here skip) q.here) → 0 < start
    → PassesBack breaks skip (concat p.before) (p.here ++ concat p.after) q start more
line_in_last breaks skip p q start more h n start_is counts =
    let front : concat p.before ≡ (concat q.before ++ q.here) ++ [] =
    ap concat n.before ∙ concat-append q.before (q.here ∷ [])
    ∙ ap (λ t. concat q.before ++ t) (append-nil q.here)
    ∙ sym (append-nil (concat q.before ++ q.here)) in
    found_back breaks skip skip (concat p.before) (p.here ++ concat p.after) q.here [] [] q start
    more (info_of breaks [])
    (chunks_prev p q n h) (sym (append-nil q.here)) (ap concat n.after) front
    (omega (arith, no_breaks breaks)) (never (ends_in_cr q.here)) start_is counts refl more
    (nothing_more breaks more)

-- the chunk here, up to a position in it
module _ (breaks : LineBreaks) (skip : ℕ) (p : Place) (b start : ℕ) (more : TextInfo)
    (g : IsCaret p b)
    (chunk : List ℕ) (same : chunk ≡ p.here) (found : start ≡ last_line_byte breaks chunk b skip)
    (counted : more ≡ last_line_info breaks chunk b skip) where
  start_is : start ≡ last_line_byte breaks p.here b skip
  start_is = found ∙ ap (λ t. last_line_byte breaks t b skip) same

  counts : more ≡ last_line_info breaks p.here b skip
  counts = counted ∙ ap (λ t. last_line_info breaks t b skip) same

  here_split : p.here ≡ take (byte_to_char p.here b) p.here ++ drop (byte_to_char p.here b) p.here
  here_split = sym (take-append-drop (byte_to_char p.here b) p.here)

  here_few : break_count breaks [] + skip ≡ skip
  here_few = omega (arith, no_breaks breaks)

  here_front : concat p.before ++ take (byte_to_char p.here b) p.here
      ≡ (concat p.before ++ take (byte_to_char p.here b) p.here) ++ []
  here_front = sym (append-nil (concat p.before ++ take (byte_to_char p.here b) p.here))

  pub caret_found : 0 < start
      → PassesBack breaks skip (halves_at p b).front (halves_at p b).back p start more
  caret_found =
      found_back breaks skip skip (halves_at p b).front (halves_at p b).back
      (take (byte_to_char p.here b) p.here) (drop (byte_to_char p.here b) p.here) [] p start more
      (info_of breaks [])
      g.chunks here_split refl here_front here_few
      (never (ends_in_cr (take (byte_to_char p.here b) p.here))) start_is counts refl more
      (nothing_more breaks more)

  pub caret_left : start ≤ 0 → more.break_count ≤ skip
  caret_left =
      breaks_left breaks skip skip (halves_at p b).front (halves_at p b).back
      (take (byte_to_char p.here b) p.here) (drop (byte_to_char p.here b) p.here) [] p start more
      (info_of breaks [])
      g.chunks here_split refl here_front here_few
      (never (ends_in_cr (take (byte_to_char p.here b) p.here))) start_is counts refl

  pub caret_small : IsSmall more
  caret_small =
      (both_small breaks skip skip (halves_at p b).front (halves_at p b).back
      (take (byte_to_char p.here b) p.here) (drop (byte_to_char p.here b) p.here) [] p start more
      (info_of breaks [])
      g.chunks here_split refl here_front here_few
      (never (ends_in_cr (take (byte_to_char p.here b) p.here))) start_is counts refl).0

  caret_over : start ≤ 0 → PassedBack breaks skip (halves_at p b).front (halves_at p b).back p more
      (skip - more.break_count) (take (byte_to_char p.here b) p.here ++ [])
  caret_over =
      over_back breaks skip skip (halves_at p b).front (halves_at p b).back
      (take (byte_to_char p.here b) p.here) (drop (byte_to_char p.here b) p.here) [] p start more
      (info_of breaks [])
      g.chunks here_split refl here_front here_few
      (never (ends_in_cr (take (byte_to_char p.here b) p.here))) start_is counts refl more
      (nothing_more breaks more)

  module _ (new : Place) (d : ℕ) (other : TextInfo) (none : start ≤ 0)
      (r : PassesBack breaks (skip - more.break_count) (concat p.before) (p.here ++ concat p.after)
      new d other) where
    pub other_small : IsSmall other
    other_small =
        let k : ℕ = last_start breaks (concat p.before) (skip - more.break_count) in
        let whole = ap byte_len (whole_text p)
        ∙ ap byte_len (append_assoc (concat p.before) p.here (concat p.after))
        ∙ size_two (concat p.before) (p.here ++ concat p.after) in
        let split = ap byte_len (sym (take-append-drop k (concat p.before)))
        ∙ size_two (take k (concat p.before)) (drop k (concat p.before)) in
        small_of breaks (drop k (concat p.before)) other r.counts (omega (arith, g.chunks.fits))

    pub caret_composed : (sum : TextInfo) → sum ≡ info_sum other more
        → PassesBack breaks skip (halves_at p b).front (halves_at p b).back new d sum
    caret_composed sum s =
        compose_back breaks skip (skip - more.break_count) (halves_at p b).front
        (halves_at p b).back (take (byte_to_char p.here b) p.here ++ []) p new d more other sum
        (caret_over none) r s

-- a position that splits no CR LF of the text splits none of the chunk
pub caret_apart : (p : Place) (b : ℕ) → parts_crlf (halves_at p b).front (halves_at p b).back
    ≡ false → parts_crlf (take (byte_to_char p.here b) p.here) (drop (byte_to_char p.here b) p.here)
    ≡ false
caret_apart p b apart =
    let j : ℕ = byte_to_char p.here b in
    apart_back (concat p.before) (take j p.here) (drop j p.here)
    (apart_front (concat p.before ++ take j p.here) (drop j p.here) (concat p.after) apart)
