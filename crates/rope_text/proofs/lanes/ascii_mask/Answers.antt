use Rattle.std.proofs.Common.{◌+◌, ℕ, List, get_or, drop, replicate, cond, eqb, sym, ap, ◌∙◌, arith}
use Rattle.std.specs.List.{range_with_len}
use Rattle.std.proofs.lemmas.List.FromFn.{length-range_with_len}
use lib.Lanes.{zip2}
use Rattle.rope_text.specs.Marks.{marks, ascii_mark, IsMask}
use Rattle.rope_text.proofs.Blocks.{marks-block, ascii_alone, ascii_all}
use Rattle.rope_text.proofs.Marks.{retested, counted_from, set_where, loaded, loaded_from}
use Rattle.rope_text.proofs.lanes.ascii_mask.Goals.{then-ahead-gt0, else-ahead-gt0}
use Rattle.rope_text.proofs.lanes.ascii_mask.Goals as goal

pub returns : goal.returns
returns c = λ n few none.
    let s = c.args.bytes.now in
    let m = c.args.mark in
    let i = c.args.at in
    let ks : List ℕ = range_with_len i 32 in
    let long = length-range_with_len i 32 in
    let x = loaded s i 32 (omega arith) in
    let first : ℕ → ℕ = λ k. get_or s k 0 in
    let next : ℕ → ℕ = λ k. get_or s (k + 1) 0 in
    let mask : IsMask ks (λ k. ascii_mark m (first k) (next k))
    (zip2 (λ a b. cond (eqb a b) 255 0) c.ones.result (replicate 32 1)) =
    elim c.if-ahead-gt0.branch [
      | then-ahead-gt0 w ↦ set_where 32 long
          (c.ones.ensures ks first next long (λ k. (c.type_inv.bytes k).fits) x
          (rw w.y-is (loaded_from s i 1 32
          (omega (arith, w.if-ahead-gt0.true, c.ahead.ensures, c.requires)))))
      | else-ahead-gt0 w ↦
          retested (λ k. ascii_alone m (first k) (first k) (next k)
          (omega (arith, w.if-ahead-gt0.false, c.ahead.ensures)))
          (set_where 32 long (c.ones.ensures ks first first long (λ k. (c.type_inv.bytes k).fits) x
          (rw w.y-is x)))
    ] in
    marks-block m s i n (omega arith)
    ∙ ap (λ k. k + marks m (drop (i + n) s))
    (sym (counted_from {m = 32} i n few (omega arith) mask
    ∙ ascii_all m s (range_with_len i n) none))
