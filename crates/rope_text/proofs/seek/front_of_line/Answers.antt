use Rattle.std.proofs.Common.{◌≡◌, ◌+◌, ◌-◌, suc, ℕ, length, refl, ap, sym, ◌∙◌, arith, drop, count_by}
use Rattle.std.proofs.Math.ListN.{drop_of_length-le}
use Rattle.std.specs.Str.{chars}
use Rattle.rope_text.specs.declared.lanes.Mark.TheVariants.{Break}
use Rattle.rope_text.specs.Bytes.{begins_char}
use Rattle.rope_text.specs.Conversions.{line_to_byte, line_to_char}
use Rattle.rope_text.specs.Lines.{line_start}
use Rattle.rope_text.specs.Marks.{IsPassed, IsPlaceOf}
use Rattle.rope_text.proofs.ByteLaws.{length-chars}
use Rattle.rope_text.proofs.Fronts.{passed_mark, break_char, break_place, no_break_place, no_break_line}
use Rattle.rope_text.proofs.seek.front_of_line.Goals.{After-marks_between, in-Lf, in-CrLf, in-Unicode}
use Rattle.rope_text.proofs.seek.front_of_line.Goals as goal

pub returns-then-line_idx-eq0 : goal.returns-then-line_idx-eq0
unfolding line_start
returns-then-line_idx-eq0 c =
    let first : c.args.line_idx ≡ 0 = c.if-line_idx-eq0.true in
    record { bytes = rw first refl; chars = rw first refl }

-- the start of the last break before the line, and the counts before it
front : (c : After-marks_between)
    → IsPlaceOf (Break c.args.breaks) c.as_bytes-bytes.result.now 0 (c.args.line_idx - 1)
    c.find_from-to.result
    × (count_by begins_char c.as_bytes-bytes.result.now
    ≡ (c.match-breaks.blocks.chars + c.marks_between.result) + count_by begins_char
    (drop c.find_from-to.result c.as_bytes-bytes.result.now))
front c =
    let bs = c.as_bytes-bytes.result.now in
    let blocks = c.match-breaks.blocks in
    let passed : IsPassed (Break c.args.breaks) bs (c.args.line_idx - 1) blocks.end blocks.left
    × (count_by begins_char bs ≡ blocks.chars + count_by begins_char (drop blocks.end bs)) =
    elim c.match-breaks.branch [
      | in-Lf w ↦ rw w.blocks-is (
        w.skip_known-blocks.ensures.passed,
        w.skip_known-blocks.ensures.chars,
      )
      | in-CrLf w ↦ rw w.blocks-is (
        w.skip_known-blocks-in-CrLf.ensures.passed,
        w.skip_known-blocks-in-CrLf.ensures.chars,
      )
      | in-Unicode w ↦ rw w.blocks-is (
        w.skip_known-blocks-in-Unicode.ensures.passed,
        w.skip_known-blocks-in-Unicode.ensures.chars,
      )
    ] in (
      passed_mark _ bs _ _ _ _ passed.0 c.find_from-to.ensures,
      omega (arith, passed.1, c.marks_between.ensures),
    )

pub returns-then-to-bytes : goal.returns-then-to-bytes
returns-then-to-bytes c =
    let breaks = c.args.breaks in
    let bytes = c.as_bytes-bytes in
    let bs = bytes.result.now in
    let n : ℕ = c.args.line_idx - 1 in
    let at : ℕ = c.find_from-to.result in
    let f = front (goal.at.returns-then-to-bytes c).After-marks_between in
    let place = f.0.inside c.if-to-bytes.true in
    let next : suc n ≡ c.args.line_idx = omega (arith, c.if-line_idx-eq0.false) in
    record {
      bytes = ap (λ w. at + w) c.width_of.ensures
          ∙ break_place breaks bs n at bytes.ensures.utf8 c.if-to-bytes.true place.0 place.1
          ∙ ap (line_to_byte breaks (chars bs)) next
          ∙ ap (λ xs. line_to_byte breaks (chars xs) c.args.line_idx) bytes.ensures.value;
      chars = break_char breaks bs n at _ bytes.ensures.utf8 c.if-to-bytes.true place.0 place.1 f.1
          ∙ ap (line_to_char breaks (chars bs)) next
          ∙ ap (λ xs. line_to_char breaks (chars xs) c.args.line_idx) bytes.ensures.value;
    }

pub returns : goal.returns
returns c =
    let breaks = c.args.breaks in
    let bytes = c.as_bytes-bytes in
    let bs = bytes.result.now in
    let n : ℕ = c.args.line_idx - 1 in
    let at : ℕ = c.find_from-to.result in
    let f = front (goal.at.returns c).After-marks_between in
    let end : at ≡ length bs = omega (arith, f.0.bound, c.if-to-bytes.false) in
    let few = f.0.end end in
    let next : suc n ≡ c.args.line_idx = omega (arith, c.if-line_idx-eq0.false) in
    let none : count_by begins_char (drop at bs) ≡ 0 =
    ap (count_by begins_char) (drop_of_length-le bs (omega (arith, end))) in
    let all : c.match-breaks.blocks.chars + c.marks_between.result ≡ length (chars bs) =
    omega (arith, none, f.1, length-chars bs bytes.ensures.utf8) in
    record {
      bytes = end ∙ sym (no_break_place breaks bs n bytes.ensures.utf8 few)
          ∙ ap (line_to_byte breaks (chars bs)) next
          ∙ ap (λ xs. line_to_byte breaks (chars xs) c.args.line_idx) bytes.ensures.value;
      chars = all ∙ sym (no_break_line breaks bs n bytes.ensures.utf8 few)
          ∙ ap (line_to_char breaks (chars bs)) next
          ∙ ap (λ xs. line_to_char breaks (chars xs) c.args.line_idx) bytes.ensures.value;
    }
