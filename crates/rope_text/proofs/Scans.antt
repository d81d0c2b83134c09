-- The text that a scan passes, and the line that it leaves.
use Rattle.std.proofs.Common.{◌≡◌, ℕ, suc, ◌+◌, ◌≤◌, ◌<◌, Bool, true, false, cond, List, [], take, inl, inr, length, drop, get_or, count_by, refl, sym, ap, ◌∙◌, arith}
use Rattle.std.proofs.lemmas.Bool.Decides.{nat_tests}
use Rattle.rope_text.specs.declared.line_breaks.LineBreaks.{LineBreaks}
use Rattle.rope_text.specs.declared.line_breaks.LineBreaks.TheVariants.{Lf, CrLf, Unicode}
use Rattle.rope_text.specs.declared.text_info.TextInfo.{TextInfo}
use Rattle.rope_text.specs.Breaks.{break_count}
use Rattle.rope_text.specs.ByteBreaks.{break_at, byte_break_count, char_width, breaks_at}
use Rattle.rope_text.specs.LineParts.{first_line}
use Rattle.rope_text.specs.Lines.{line_start}
use Rattle.rope_text.specs.Text.{byte_len, surrogate_count}
use Rattle.rope_text.specs.TextInfo.{info_of}
use Rattle.rope_text.proofs.ByteLaws.{length-chars}
use Rattle.rope_text.proofs.ByteBreakLaws.{break_count-chars}
use Rattle.rope_text.proofs.Fronts.{break_place, break_char, no_break_line, pairs_before}
use Rattle.rope_text.proofs.LineLaws.{line_start-le-length}
use Rattle.rope_text.proofs.LineSeams.{break_count-front}
use Rattle.rope_text.proofs.Walks.{byte_len-chars}
use Rattle.rope_text.proofs.InfoLaws.{same_info}
use Rattle.std.specs.Str.{chars, IsUtf8}
use Rattle.std.proofs.Math.ListN.{drop_of_length-le}
use Rattle.std.proofs.lemmas.Bool.{cases_lt}
use Rattle.std.proofs.lemmas.List.{take_all, length-take-le}
use Rattle.rope_text.specs.Bytes.{begins_char, begins_pair}
use Rattle.rope_text.proofs.Blocks.{count_by-drop, count_by-front, byte_break_count-drop}
use Rattle.rope_text.specs.Scan.{IsFront}

-- one byte more in front, at which no break begins
pub front_step : (breaks : LineBreaks) (xs : List ℕ) (k p q l r : ℕ) → IsFront breaks xs k p q
    → p < length xs → breaks_at breaks xs p ≡ false
    → l ≡ k + cond (begins_char (get_or xs p 0)) 1 0
    → r ≡ q + cond (begins_pair (get_or xs p 0)) 1 0 → IsFront breaks xs l (p + 1) r
front_step breaks xs k p q l r front inside off chars pairs =
    let step = byte_break_count-drop breaks xs p inside in
    let no : cond {A = ℕ} (breaks_at breaks xs p) 1 0 ≡ 0 =
    ap (λ (t : Bool). cond {A = ℕ} t 1 0) off in record {
      within = omega arith;
      none = omega (arith, front.none, step, no);
      chars = omega (arith, front.chars, chars, count_by-drop begins_char xs p inside);
      pairs = omega (arith, front.pairs, pairs, count_by-drop begins_pair xs p inside);
    }

-- a character that ends a break takes one code unit
record IsWithoutPair (x y z : ℕ) : Type 0 where
  pub some : 0 < char_width x
  pub most : char_width x ≤ 3
  pub first : begins_pair x ≡ false
  pub second : 1 < char_width x → begins_pair y ≡ false
  pub third : 2 < char_width x → begins_pair z ≡ false

without_pair : (breaks : LineBreaks) (x y z : ℕ) → break_at breaks x y z ≡ true
    → IsWithoutPair x y z
without_pair Lf x y z e = record {
  some = grind (arith, nat_tests);
  most = grind (arith, nat_tests);
  first = grind (arith, nat_tests);
  second = λ w. grind (arith, nat_tests);
  third = λ w. grind (arith, nat_tests);
}
without_pair CrLf x y z e = record {
  some = grind (arith, nat_tests);
  most = grind (arith, nat_tests);
  first = grind (arith, nat_tests);
  second = λ w. grind (arith, nat_tests);
  third = λ w. grind (arith, nat_tests);
}
without_pair Unicode x y z e = record {
  some = grind (arith, nat_tests);
  most = grind (arith, nat_tests);
  first = grind (arith, nat_tests);
  second = λ w. grind (arith, nat_tests);
  third = λ w. grind (arith, nat_tests);
}

no_pair : (xs : List ℕ) (i j : ℕ) → j ≡ i + 1 → begins_pair (get_or xs i 0) ≡ false
    → count_by begins_pair (drop i xs) ≡ count_by begins_pair (drop j xs)
no_pair xs i j next off = elim (cases_lt i (length xs)) [
  | inl less ↦
      let no : cond {A = ℕ} (begins_pair (get_or xs i 0)) 1 0 ≡ 0 =
      ap (λ (t : Bool). cond {A = ℕ} t 1 0) off in
      omega (
        arith,
        count_by-drop begins_pair xs i less,
        no,
        ap (λ k. count_by begins_pair (drop k xs)) next,
      )
  | inr past ↦ ap (count_by begins_pair) (drop_of_length-le xs past
      ∙ sym (drop_of_length-le xs (let far : length xs ≤ j = omega arith in far)))
]

no_pairs : (xs : List ℕ) (p w : ℕ) → w ≡ char_width (get_or xs p 0)
    → IsWithoutPair (get_or xs p 0) (get_or xs (p + 1) 0) (get_or xs (p + 2) 0)
    → count_by begins_pair (drop p xs) ≡ count_by begins_pair (drop (p + w) xs)
no_pairs xs p w width h = elim (cases_lt 1 w) [
  | inr one ↦ no_pair xs p (p + w) (omega (arith, h.some, width)) h.first
  | inl more ↦ elim (cases_lt 2 w) [
    | inr two ↦ no_pair xs p (p + 1) refl h.first
        ∙ no_pair xs (p + 1) (p + w) (omega arith) (h.second (omega (arith, width)))
    | inl three ↦ no_pair xs p (p + 1) refl h.first
        ∙ no_pair xs (p + 1) (p + 2) (omega arith) (h.second (omega (arith, width)))
        ∙ no_pair xs (p + 2) (p + w) (omega (arith, h.most, width)) (h.third (omega (arith, width)))
  ]
]

-- the counts of a text up to the end of one of its breaks, by those before that break
pub line_front : (breaks : LineBreaks) (bs : List ℕ) (n p k q : ℕ) (info : TextInfo) → IsUtf8 bs
    → p < length bs → byte_break_count breaks bs ≡ n + byte_break_count breaks (drop p bs)
    → breaks_at breaks bs p ≡ true → count_by begins_char bs ≡ k + count_by begins_char (drop p bs)
    → count_by begins_pair bs ≡ q + count_by begins_pair (drop p bs)
    → info.bytes ≡ p + char_width (get_or bs p 0) → info.chars ≡ k + 1 → info.utf16_surrogates ≡ q
    → info.break_count ≡ suc n
    → info ≡ info_of breaks (take (line_start breaks (chars bs) (suc n)) (chars bs))
line_front breaks bs n p k q info u inside fore begin in_chars in_pairs bytes counted pairs count =
    let cs : List ℕ = chars bs in
    let l : ℕ = line_start breaks cs (suc n) in
    let w : ℕ = char_width (get_or bs p 0) in
    let place : p + w ≡ byte_len (take l cs) = break_place breaks bs n p u inside fore begin in
    let start : k + 1 ≡ l = break_char breaks bs n p k u inside fore begin in_chars in
    let within = line_start-le-length breaks cs (suc n) in
    let same : count_by begins_pair (drop p bs) ≡ count_by begins_pair (drop (p + w) bs) =
    no_pairs bs p w refl (without_pair breaks (get_or bs p 0) (get_or bs (p + 1) 0)
    (get_or bs (p + 2) 0) begin) in
    let before : count_by begins_pair (take (p + w) bs) ≡ surrogate_count (take l cs) =
    ap (λ j. count_by begins_pair (take j bs)) place ∙ pairs_before bs l u in
    let on : cond {A = ℕ} (breaks_at breaks bs p) 1 0 ≡ 1 =
    ap (λ (t : Bool). cond {A = ℕ} t 1 0) begin in
    let some : suc n ≤ break_count breaks cs =
    omega (
      arith,
      break_count-chars breaks bs u,
      fore,
      byte_break_count-drop breaks bs p inside,
      on,
    ) in
    same_info info (info_of breaks (take l cs)) (bytes ∙ place) (counted ∙ start
    ∙ sym (length-take-le l cs within))
    (omega (arith, pairs, in_pairs, same, before, count_by-front begins_pair bs (p + w)))
    (omega (arith, count, break_count-front breaks cs (suc n) (omega (arith, some)), some))

-- the counts of a text's first line, by those before the break at its end
pub scanned_line : (breaks : LineBreaks) (bs : List ℕ) (k p q : ℕ) (info : TextInfo) → IsUtf8 bs
    → IsFront breaks bs k p q → p < length bs → breaks_at breaks bs p ≡ true
    → info.bytes ≡ p + char_width (get_or bs p 0) → info.chars ≡ k + 1 → info.utf16_surrogates ≡ q
    → info.break_count ≡ 1 → info ≡ info_of breaks (first_line breaks (chars bs))
scanned_line breaks bs k p q info u front inside begin bytes counted pairs count =
    line_front breaks bs 0 p k q info u inside (omega (arith, front.none)) begin front.chars
    front.pairs bytes counted pairs count

-- the counts of a text that has no break
pub scanned_all : (breaks : LineBreaks) (bs : List ℕ) (k p q : ℕ) (info : TextInfo) → IsUtf8 bs
    → IsFront breaks bs k p q → p ≡ length bs
    → info.bytes ≡ p → info.chars ≡ k → info.utf16_surrogates ≡ q → info.break_count ≡ 0
    → info ≡ info_of breaks (first_line breaks (chars bs))
scanned_all breaks bs k p q info u front end bytes counted pairs count =
    let cs : List ℕ = chars bs in
    let rest : drop p bs ≡ [] = drop_of_length-le bs (let past : length bs ≤ p = omega arith in
    past) in
    let none : byte_break_count breaks bs ≡ 0 = front.none ∙ ap (byte_break_count breaks) rest in
    let whole : first_line breaks cs ≡ cs =
    take_all (line_start breaks cs 1) cs
    (omega (arith, no_break_line breaks bs 0 u (omega (arith, none)))) in
    let all : take (length cs) cs ≡ cs = take_all (length cs) cs (omega arith) in
    let size = byte_len-chars bs u in
    let front_size : byte_len (take (length cs) cs) ≡ length bs = ap byte_len all ∙ size in
    let before : count_by begins_pair bs ≡ surrogate_count cs =
    ap (count_by begins_pair) (sym (take_all (length bs) bs (omega arith)))
    ∙ ap (λ j. count_by begins_pair (take j bs)) (sym front_size) ∙ pairs_before bs (length cs) u
    ∙ ap surrogate_count all in
    same_info info (info_of breaks (first_line breaks cs)) (bytes ∙ end ∙ sym size
    ∙ ap byte_len (sym whole))
    (omega (
      arith,
      counted,
      front.chars,
      ap (count_by begins_char) rest,
      length-chars bs u,
      ap length whole,
    ))
    (omega (
      arith,
      pairs,
      front.pairs,
      ap (count_by begins_pair) rest,
      before,
      ap surrogate_count whole,
    ))
    (omega (arith, count, none, break_count-chars breaks bs u, ap (break_count breaks) whole))
