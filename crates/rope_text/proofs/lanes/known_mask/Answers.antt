use Rattle.std.proofs.Common.{◌≡◌, get_or, count_by, eqb, bit_and, ◌∙◌, arith}
use Rattle.std.specs.List.{range_with_len}
use Rattle.std.proofs.lemmas.List.FromFn.{length-range_with_len}
use Rattle.rope_text.specs.Marks.{ahead}
use Rattle.rope_text.proofs.LaneSums.{none_in_front}
use Rattle.rope_text.proofs.Marks.{compared, computed, none_set, loaded}
use Rattle.rope_text.proofs.lanes.known_mask.Goals.{then-ahead-eq2+else-multibyte_begin-ne0, else-ahead-eq2}
use Rattle.rope_text.proofs.lanes.known_mask.Goals as goal

pub returns : goal.returns
returns c = λ n few.
    let s = c.args.bytes.now in
    let i = c.args.at in
    let long = length-range_with_len i 32 in
    let x = loaded s i 32 (omega arith) in
    let none : ahead c.args.mark ≡ 2
    → count_by (λ k. eqb (bit_and (get_or s k 0) 223) 194) (range_with_len i n) ≡ 0 =
    elim c.if-ahead-eq2.branch [
      | then-ahead-eq2+else-multibyte_begin-ne0 w ↦
          λ _. none_in_front _ i n 32 few
          (none_set (omega (arith, long))
          (compared eqb 194 32 long (computed bit_and 223 32 long x))
          w.if-multibyte_begin-ne0.false)
      | else-ahead-eq2 w ↦ λ two. absurd (w.if-ahead-eq2.false (c.ahead.ensures ∙ two))
    ] in
    c.ascii_mask.ensures n few none
