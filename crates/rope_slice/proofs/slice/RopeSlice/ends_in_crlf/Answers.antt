use Rattle.std.proofs.Common.{◌≡◌, ℕ, suc, ◌-◌, ◌&&◌, ◌==◌, get_or, sym, ap, ap₂, ◌∙◌, arith}
use Rattle.std.proofs.lemmas.Option.{get_or_from_slice_get}
use Rattle.rope_slice.specs.Slice.{text_of}
use Rattle.rope_slice.proofs.LineEnds.{too_short, crlf_at_end, not_cr}
use Rattle.rope_slice.proofs.slice.RopeSlice.ends_in_crlf.Goals.{then-len-lt2-via-then-len-lt2, then-len-lt2-via-else-len-lt2+then-char-ne13}
use Rattle.rope_slice.proofs.slice.RopeSlice.ends_in_crlf.Goals as goal

pub returns-then-len-lt2 : goal.returns-then-len-lt2
returns-then-len-lt2 c =
    let t = text_of c.args.self.now in
    let k : ℕ = c.len_chars-len.result - 2 in
    elim c.then-len-lt2.branch [
      | then-len-lt2-via-then-len-lt2 w ↦ sym (too_short t
          (omega (arith, c.len_chars-len.ensures, w.if-len-lt2.true)))
      | then-len-lt2-via-else-len-lt2+then-char-ne13 w ↦
          sym (crlf_at_end t k (omega (arith, c.len_chars-len.ensures, w.if-len-lt2.false))
          ∙ ap (λ x. x == 13 && get_or t (suc k) 0 == 10)
          (get_or_from_slice_get t k w.char.result 0 w.char.ensures)
          ∙ not_cr w.char.result (get_or t (suc k) 0 == 10) w.if-char-ne13.true)
    ]

pub returns : goal.returns
returns c =
    let t = text_of c.args.self.now in
    let k : ℕ = c.len_chars-len.result - 2 in
    let next : suc k ≡ c.len_chars-len.result - 1 = omega (arith, c.if-len-lt2.false) in
    let cr = get_or_from_slice_get t k c.char.result 0 c.char.ensures ∙ c.if-char-ne13.false in
    let lf = ap (λ j. get_or t j 0) next ∙ get_or_from_slice_get t (c.len_chars-len.result - 1)
    c.char-2.result 0 c.char-2.ensures in
    sym (crlf_at_end t k (omega (arith, c.len_chars-len.ensures, c.if-len-lt2.false)) ∙ ap₂
    (λ x y. x == 13 && y == 10) cr lf)
