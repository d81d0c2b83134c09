use Rattle.std.proofs.Common.{ℕ, ◌-◌, ◌∙◌, refl, ap, length, take, drop, arith}
use Rattle.std.specs.List.{concat}
use Rattle.rope_text.specs.Lines.{line_start}
use Rattle.rope_text.proofs.LineLaws.{line_start-le-length}
use Rattle.rope_slice.specs.Slice.{content_of, text_of, breaks_of}
use Rattle.rope_slice.proofs.PartsBetween.{counts_at}
use Rattle.rope_slice.proofs.CaretSteps.{caret_at, front_at, back_at}
use Rattle.rope_slice.proofs.slice.RopeSlice.caret_at.Goals as goal

pub invariant_of-caret : goal.invariant_of-caret
invariant_of-caret c =
    let e = c.at_line-span.ensures in
    let p = c.at_line-span.result.0 in
    let place : ℕ = c.at_line-span.result.1.chars in
    caret_at (content_of c.args.self.now) p (place - length (concat p.before)) place
    c.at_line-span.result.2 c.info.ensures.kept e.text e.chunks (omega (arith, e.starts))
    (omega (arith, e.within)) e.byte

pub returns : goal.returns
returns c =
    let e = c.at_line-span.ensures in
    let p = c.at_line-span.result.0 in
    let place : ℕ = c.at_line-span.result.1.chars in
    let within : ℕ = place - length (concat p.before) in
    let breaks = breaks_of c.args.self.now in
    let t = text_of c.args.self.now in
    let same = (counts_at breaks t (line_start breaks t c.args.line_idx) c.at_line-span.result.1
    (line_start-le-length breaks t c.args.line_idx) e.line).0 in
    record {
      within = c.requires;
      total_is = refl;
      front_is = front_at (content_of c.args.self.now) p within place c.at_line-span.result.2
          c.info.ensures.kept e.text e.chunks (omega (arith, e.starts)) (omega (arith, e.within))
          e.byte ∙ ap (λ n. take n t) same;
      back_is = back_at (content_of c.args.self.now) p within place c.at_line-span.result.2
          c.info.ensures.kept e.text e.chunks (omega (arith, e.starts)) (omega (arith, e.within))
          e.byte ∙ ap (λ n. drop n t) same;
      chunks_are = e.chunks;
      before_is = e.line;
      fits = c.info.ensures.kept.fits;
    }
