use Rattle.std.proofs.Common.{◌≡◌, ◌≤◌, ◌+◌, true, false, length, refl, ap, ◌∙◌, arith}
use Rattle.std.specs.Str.{chars}
use Rattle.rope_text.specs.Cutting.{parts_crlf}
use Rattle.rope_text.specs.LineParts.{before_byte, after_byte, IsBetween, last_line_byte, last_line_info}
use Rattle.rope_text.specs.Scan.{GoesBack, back_from}
use Rattle.rope_text.proofs.LastLines.{end_in, start_in, some_char, left_in, found_start, found_info, first_start, first_info}
use Rattle.rope_text.proofs.text_info.TextInfo.of_last_line.Goals.{After-as_bytes-bytes, Joined-breaks, Joined-is_found, in-Lf, in-CrLf, in-Unicode, then-is_found, else-is_found}
use Rattle.rope_text.proofs.text_info.TextInfo.of_last_line.Goals as goal

-- the precondition, for the text's bytes
between : (c : After-as_bytes-bytes) → IsBetween (chars c.as_bytes-bytes.result.now) c.args.end
between c = rw c.as_bytes-bytes.ensures.value c.requires.between

apart : (c : After-as_bytes-bytes)
    → parts_crlf (before_byte (chars c.as_bytes-bytes.result.now) c.args.end)
    (after_byte (chars c.as_bytes-bytes.result.now) c.args.end) ≡ false
apart c = rw c.as_bytes-bytes.ensures.value c.requires.apart

within : (c : After-as_bytes-bytes) → c.args.end ≤ length c.as_bytes-bytes.result.now
within c =
    end_in c.args.breaks c.as_bytes-bytes.result.now c.args.end c.args.skip
    c.as_bytes-bytes.ensures.utf8 (between c) (apart c)

pub back_to_break-requires : goal.back_to_break-requires
back_to_break-requires c =
    record { within = within (goal.at.back_to_break-requires c).After-as_bytes-bytes }

pub back_to_break-requires-in-CrLf : goal.back_to_break-requires-in-CrLf
back_to_break-requires-in-CrLf c =
    record { within = within (goal.at.back_to_break-requires-in-CrLf c).After-as_bytes-bytes }

pub back_to_break-requires-in-Unicode : goal.back_to_break-requires-in-Unicode
back_to_break-requires-in-Unicode c =
    record { within = within (goal.at.back_to_break-requires-in-Unicode c).After-as_bytes-bytes }

went : (c : Joined-breaks)
    → GoesBack c.args.breaks c.as_bytes-bytes.result.now (back_from c.args.end c.args.skip)
    c.match-breaks.is_found.0 c.match-breaks.is_found.1
    × (c.match-breaks.is_found.1 ≡ false → c.match-breaks.is_found.0.at ≡ 0)
went c = elim c.match-breaks.branch [
  | in-Lf w ↦ rw w.is_found-is (w.back_to_break.ensures.goes, w.back_to_break.ensures.start)
  | in-CrLf w ↦ rw w.is_found-is (
    w.back_to_break-in-CrLf.ensures.goes,
    w.back_to_break-in-CrLf.ensures.start,
  )
  | in-Unicode w ↦ rw w.is_found-is (
    w.back_to_break-in-Unicode.ensures.goes,
    w.back_to_break-in-Unicode.ensures.start,
  )
]

back_true : (c : Joined-breaks) → c.match-breaks.is_found.1 ≡ true
    → GoesBack c.args.breaks c.as_bytes-bytes.result.now (back_from c.args.end c.args.skip)
    c.match-breaks.is_found.0 true
back_true c found = rw found at (went c).0

back_false : (c : Joined-breaks) → c.match-breaks.is_found.1 ≡ false
    → GoesBack c.args.breaks c.as_bytes-bytes.result.now (back_from c.args.end c.args.skip)
    c.match-breaks.is_found.0 false
back_false c found = rw found at (went c).0

pub overflow_sub-chars : goal.overflow_sub-chars
overflow_sub-chars c =
    let d = (goal.at.overflow_sub-chars c).Joined-breaks in
    let e = (goal.at.overflow_sub-chars c).After-as_bytes-bytes in
    some_char c.args.breaks c.as_bytes-bytes.result.now c.args.end c.args.skip
    c.as_bytes-bytes.ensures.utf8 (between e) (apart e) c.match-breaks.is_found.0 _
    (back_true d c.if-is_found.true) refl

pub overflow_sub-line : goal.overflow_sub-line
overflow_sub-line c =
    let d = (goal.at.overflow_sub-line c).Joined-breaks in
    let e = (goal.at.overflow_sub-line c).After-as_bytes-bytes in
    elim c.if-is_found.branch [
      | then-is_found w ↦ start_in c.args.breaks c.as_bytes-bytes.result.now c.args.end c.args.skip
          c.as_bytes-bytes.ensures.utf8 (between e) (apart e) c.match-breaks.is_found.0
          c.if-is_found.start
          (back_true d w.if-is_found.true) (w.start-is
          ∙ ap (λ n. c.match-breaks.is_found.0.at + n) w.width_of.ensures)
      | else-is_found w ↦ omega (arith, w.start-is)
    ]

pub overflow_sub-line-2 : goal.overflow_sub-line-2
overflow_sub-line-2 c =
    let d = (goal.at.overflow_sub-line-2 c).Joined-breaks in
    let e = (goal.at.overflow_sub-line-2 c).After-as_bytes-bytes in
    elim c.if-is_found.branch [
      | then-is_found w ↦ (let g = back_true d w.if-is_found.true in let h = g.found refl in
          omega (arith, h.all))
      | else-is_found w ↦ left_in c.args.breaks c.as_bytes-bytes.result.now c.args.end c.args.skip
          c.as_bytes-bytes.ensures.utf8 (between e) (apart e) c.match-breaks.is_found.0
          (back_false d w.if-is_found.false) ((went d).1 w.if-is_found.false)
    ]

pub returns-clause-start : goal.returns-clause-start
returns-clause-start c =
    let d = (goal.at.returns-clause-start c).Joined-breaks in
    let e = (goal.at.returns-clause-start c).After-as_bytes-bytes in
    let bytes = c.as_bytes-bytes in
    elim c.if-is_found.branch [
      | then-is_found w ↦ found_start c.args.breaks bytes.result.now c.args.end c.args.skip
          bytes.ensures.utf8 (between e) (apart e) c.match-breaks.is_found.0 c.if-is_found.start
          (back_true d w.if-is_found.true) (w.start-is
          ∙ ap (λ n. c.match-breaks.is_found.0.at + n) w.width_of.ensures)
          ∙ ap (λ bs. last_line_byte c.args.breaks (chars bs) c.args.end c.args.skip)
          bytes.ensures.value
      | else-is_found w ↦ w.start-is
          ∙ first_start c.args.breaks bytes.result.now c.args.end c.args.skip bytes.ensures.utf8
          (between e) (apart e) c.match-breaks.is_found.0
          (back_false d w.if-is_found.false) ((went d).1 w.if-is_found.false)
          ∙ ap (λ bs. last_line_byte c.args.breaks (chars bs) c.args.end c.args.skip)
          bytes.ensures.value
    ]

pub returns-clause-counts : goal.returns-clause-counts
returns-clause-counts c =
    let d = (goal.at.returns-clause-counts c).Joined-breaks in
    let e = (goal.at.returns-clause-counts c).After-as_bytes-bytes in
    let bytes = c.as_bytes-bytes in
    let back = c.match-breaks.is_found.0 in
    elim c.if-is_found.branch [
      | then-is_found w ↦
          let start = w.start-is ∙ ap (λ n. back.at + n) w.width_of.ensures in
          let goes = back_true d w.if-is_found.true in
          let h = goes.found refl in
          let low =
          start_in c.args.breaks bytes.result.now c.args.end c.args.skip bytes.ensures.utf8
          (between e) (apart e) back c.if-is_found.start goes start in
          let some =
          some_char c.args.breaks bytes.result.now c.args.end c.args.skip bytes.ensures.utf8
          (between e) (apart e) back c.if-is_found.start goes start in
          found_info c.args.breaks bytes.result.now c.args.end c.args.skip bytes.ensures.utf8
          (between e) (apart e) back c.if-is_found.start goes start _
          (omega (arith, low)) (omega (arith, w.chars-is, some)) refl (omega (arith, h.all))
          ∙ ap (λ bs. last_line_info c.args.breaks (chars bs) c.args.end c.args.skip)
          bytes.ensures.value
      | else-is_found w ↦
          let goes = back_false d w.if-is_found.false in
          let at_start = (went d).1 w.if-is_found.false in
          let low =
          left_in c.args.breaks bytes.result.now c.args.end c.args.skip bytes.ensures.utf8
          (between e) (apart e) back goes at_start in
          first_info c.args.breaks bytes.result.now c.args.end c.args.skip bytes.ensures.utf8
          (between e) (apart e) back goes at_start _
          (omega (arith, w.start-is)) (omega (arith, w.chars-is)) refl (omega (arith, low))
          ∙ ap (λ bs. last_line_info c.args.breaks (chars bs) c.args.end c.args.skip)
          bytes.ensures.value
    ]
