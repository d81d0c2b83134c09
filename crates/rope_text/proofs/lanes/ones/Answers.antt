use Rattle.std.proofs.Common.{◌≡◌, ◌+◌, ◌-◌, ◌%◌, ◌^◌, not, eqb, ltb, leb, ap, ◌∙◌}
use Rattle.rope_text.specs.declared.line_breaks.LineBreaks.TheVariants.{Lf, CrLf, Unicode}
use Rattle.rope_text.specs.declared.lanes.Mark.TheVariants.{Break}
use Rattle.rope_text.specs.Marks.{IsMask, ascii_mark}
use Rattle.rope_text.proofs.Marks.{compared, compared_left, compared_both, computed, chosen, retested, both, either}
use Rattle.rope_text.proofs.UnicodeLanes.{low_break}
use Rattle.rope_text.proofs.lanes.ones.Goals.{in-Char, in-Pair, in-Break-Lf, in-Break-CrLf, in-Break-Unicode}
use Rattle.rope_text.proofs.lanes.ones.Goals as goal

pub returns : goal.returns
returns over c = λ ks g h long small x y.
    let most = chosen 2 3 _ long (compared eqb 10 _ long y) in
    let up = compared_both leb (computed (λ a b. (a + (2 ^ 8 - b)) % 2 ^ 8) 10 _ long x) most in
    let marks : IsMask ks (λ k. ascii_mark c.args.mark (g k) (h k)) c.match-mark.marks =
    elim c.match-mark.branch [
      | in-Char w ↦ rw (w.marks-is, w.in-Char.is)
          (either (compared ltb 128 _ long x) (compared_left leb 192 _ long x))
      | in-Pair w ↦ rw (w.marks-is, w.in-Pair.is) (compared_left leb 240 _ long x)
      | in-Break-Lf w ↦ let same : c.args.mark ≡ Break Lf = w.in-Break-Lf.is
          ∙ ap Break (rw w.in-Break-Lf.is at w.in-Break-Lf.field-0-is) in
          rw (w.marks-is, same) (compared eqb 10 _ long x)
      | in-Break-CrLf w ↦ let same : c.args.mark ≡ Break CrLf = w.in-Break-CrLf.is
          ∙ ap Break (rw w.in-Break-CrLf.is at w.in-Break-CrLf.field-0-is) in
          rw (w.marks-is, same) (either (compared eqb 10 _ long x)
          (both (compared eqb 13 _ long x) (compared (λ a b. not (eqb a b)) 10 _ long y)))
      | in-Break-Unicode w ↦ let same : c.args.mark ≡ Break Unicode = w.in-Break-Unicode.is
          ∙ ap Break (rw w.in-Break-Unicode.is at w.in-Break-Unicode.field-0-is) in
          rw (w.marks-is, same) (retested (λ k. low_break (g k) (h k) (small k)) up)
    ] in
    chosen 1 0 _ long marks
