-- The counts of joined texts.
use Rattle.std.proofs.Common.{◌≡◌, ℕ, ◌+◌, ◌-◌, ◌≤◌, Bool, false, ◌&&◌, cond, List, ◌++◌, length, nat_le, refl, ap, ◌∙◌, arith, length-append}
use Rattle.std.specs.List.{range_with_len}
use Rattle.std.proofs.lemmas.List.Sums.{sum_by-append, length-filter, count_by-le-length}
use Rattle.std.proofs.lemmas.List.FromFn.{length-range_with_len}
use Rattle.rope_text.specs.declared.line_breaks.LineBreaks.{LineBreaks}
use Rattle.rope_text.specs.declared.text_info.TextInfo.{TextInfo}
use Rattle.rope_text.specs.Text.{surrogate_count}
use Rattle.rope_text.specs.Breaks.{is_break_char, is_break_end, break_ends, break_count}
use Rattle.rope_text.specs.Cutting.{parts_crlf}
use Rattle.rope_text.specs.TextInfo.{info_of, info_sum, HasPart, shared_breaks, less_breaks}
use Rattle.rope_text.proofs.Measures.{IsMeasure-byte_len}
use Rattle.rope_text.proofs.BreakLaws.{break_count-append}

pub surrogate_count-append : (s t : List ℕ)
    → surrogate_count (s ++ t) ≡ surrogate_count s + surrogate_count t
surrogate_count-append s t = sum_by-append (λ c. cond (nat_le 65536 c) 1 0) s t

pub info_of-append : (breaks : LineBreaks) (s t : List ℕ)
    → info_of breaks (s ++ t) ≡ less_breaks (info_sum (info_of breaks s) (info_of breaks t))
    (shared_breaks breaks s t)
info_of-append breaks s t =
    let bytes = IsMeasure-byte_len.joined s t in
    let pairs = surrogate_count-append s t in
    let chars = length-append s t in
    let count : break_count breaks (s ++ t) ≡ (break_count breaks s + break_count breaks t)
    - shared_breaks breaks s t = omega (arith, break_count-append breaks s t) in
    cc

-- where CR doesn't meet LF, the sums
pub info_of-append_apart : (breaks : LineBreaks) (s t : List ℕ) → parts_crlf s t ≡ false
    → info_of breaks (s ++ t) ≡ info_sum (info_of breaks s) (info_of breaks t)
info_of-append_apart breaks s t apart =
    let none : shared_breaks breaks s t ≡ 0 =
    ap (λ (x : Bool). cond {A = ℕ} (x && is_break_char breaks 13) 1 0) apart in
    let same : (break_count breaks s + break_count breaks t) - 0
    ≡ break_count breaks s + break_count breaks t = omega arith in
    let whole : less_breaks (info_sum (info_of breaks s) (info_of breaks t)) 0
    ≡ info_sum (info_of breaks s) (info_of breaks t) = rw same refl in
    info_of-append breaks s t
    ∙ ap (less_breaks (info_sum (info_of breaks s) (info_of breaks t))) none ∙ whole

-- a front is in the sum
pub part_of_sum : (total front rest : TextInfo) → total ≡ info_sum front rest → HasPart total front
part_of_sum total front rest sum = record {
  bytes = omega (arith, ap (λ i. i.bytes) sum);
  chars = omega (arith, ap (λ i. i.chars) sum);
  pairs = omega (arith, ap (λ i. i.utf16_surrogates) sum);
  breaks = omega (arith, ap (λ i. i.break_count) sum);
}

-- the rest is a part of the total
pub rest_of_sum : (total front rest : TextInfo) → total ≡ info_sum front rest → HasPart total rest
rest_of_sum total front rest sum = record {
  bytes = omega (arith, ap (λ i. i.bytes) sum);
  chars = omega (arith, ap (λ i. i.chars) sum);
  pairs = omega (arith, ap (λ i. i.utf16_surrogates) sum);
  breaks = omega (arith, ap (λ i. i.break_count) sum);
}

-- no more breaks than characters
pub break_count-le-length : (breaks : LineBreaks) (text : List ℕ)
    → break_count breaks text ≤ length text
unfolding break_ends
break_count-le-length breaks text =
    omega (
      arith,
      length-filter (is_break_end breaks text) (range_with_len 1 (length text)),
      count_by-le-length (is_break_end breaks text) (range_with_len 1 (length text)),
      length-range_with_len 1 (length text),
    )

-- counts that are equal one by one
pub same_info : (x y : TextInfo) → x.bytes ≡ y.bytes → x.chars ≡ y.chars
    → x.utf16_surrogates ≡ y.utf16_surrogates → x.break_count ≡ y.break_count → x ≡ y
same_info x y bytes chars pairs count = rw (bytes, chars, pairs, count) refl
