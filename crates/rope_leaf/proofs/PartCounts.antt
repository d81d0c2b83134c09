-- The counts of the two sides of a split text.
use Rattle.std.proofs.Common.{◌≡◌, ℕ, ◌+◌, List, ◌++◌, ap, ◌∙◌, arith}
use Rattle.std.proofs.lemmas.List.{length-append}
use Rattle.rope_text.specs.declared.line_breaks.LineBreaks.{LineBreaks}
use Rattle.rope_text.specs.declared.text_info.TextInfo.{TextInfo}
use Rattle.rope_text.specs.TextInfo.{info_of, info_sum, shared_breaks}
use Rattle.rope_text.proofs.Measures.{IsMeasure-byte_len}
use Rattle.rope_text.proofs.BreakLaws.{break_count-append}
use Rattle.rope_text.proofs.InfoLaws.{surrogate_count-append, same_info}

-- the counts of a text, plus the line breaks that its sides share, are the sums of the counts of
-- the sides
pub parts_sum : (breaks : LineBreaks) (info : TextInfo) (more : ℕ) (s t : List ℕ)
    → info ≡ info_of breaks (s ++ t) → more ≡ shared_breaks breaks s t
    → record {
      bytes = info.bytes;
      chars = info.chars;
      utf16_surrogates = info.utf16_surrogates;
      break_count = info.break_count + more;
    } ≡ info_sum (info_of breaks s) (info_of breaks t)
parts_sum breaks info more s t whole shared =
    same_info _ (info_sum (info_of breaks s) (info_of breaks t))
    (omega (arith, ap (λ i. i.bytes) whole, IsMeasure-byte_len.joined s t))
    (omega (arith, ap (λ i. i.chars) whole, length-append s t))
    (omega (arith, ap (λ i. i.utf16_surrogates) whole, surrogate_count-append s t))
    (omega (arith, ap (λ i. i.break_count) whole, shared, break_count-append breaks s t))

pub sum_turned : (a b : TextInfo) → info_sum a b ≡ info_sum b a
sum_turned a b =
    same_info (info_sum a b) (info_sum b a) (omega arith) (omega arith) (omega arith) (omega arith)

-- the sum less the counts of one side are those of the other
pub rest_is : (both part other front rest : TextInfo) → both ≡ info_sum part other → front ≡ other
    → info_sum front rest ≡ both → rest ≡ part
rest_is both part other front rest sum is r =
    let parts = r ∙ sum in
    same_info rest part
    (omega (arith, ap (λ i. i.bytes) parts, ap (λ i. i.bytes) is))
    (omega (arith, ap (λ i. i.chars) parts, ap (λ i. i.chars) is))
    (omega (arith, ap (λ i. i.utf16_surrogates) parts, ap (λ i. i.utf16_surrogates) is))
    (omega (arith, ap (λ i. i.break_count) parts, ap (λ i. i.break_count) is))
