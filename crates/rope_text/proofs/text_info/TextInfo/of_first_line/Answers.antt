use Rattle.std.proofs.Common.{arith, refl, ap, ◌∙◌, ◌+◌, ◌<◌, ◌≡◌, length, IsTrue}
use Rattle.std.specs.Str.{chars}
use Rattle.rope_text.specs.ByteBreaks.{breaks_at}
use Rattle.rope_text.specs.LineParts.{first_line}
use Rattle.rope_text.specs.Scan.{IsFront}
use Rattle.rope_text.specs.TextInfo.{info_of}
use Rattle.rope_text.proofs.Scans.{scanned_line, scanned_all}
use Rattle.rope_text.proofs.text_info.TextInfo.of_first_line.Goals.{Joined-breaks, in-Lf, in-CrLf, in-Unicode}
use Rattle.rope_text.proofs.text_info.TextInfo.of_first_line.Goals as goal

scanned : (c : Joined-breaks)
    → IsFront c.args.breaks c.as_bytes-bytes.result.now c.match-breaks.front.chars
    c.match-breaks.front.at c.match-breaks.front.pairs
    × (c.match-breaks.front.at < length c.as_bytes-bytes.result.now
    → IsTrue (breaks_at c.args.breaks c.as_bytes-bytes.result.now c.match-breaks.front.at))
scanned c =
    elim c.match-breaks.branch [
      | in-Lf w ↦ rw w.front-is (
        w.to_first_break-front.ensures.front,
        w.to_first_break-front.ensures.inside,
      )
      | in-CrLf w ↦ rw w.front-is (
        w.to_first_break-front-in-CrLf.ensures.front,
        w.to_first_break-front-in-CrLf.ensures.inside,
      )
      | in-Unicode w ↦ rw w.front-is (
        w.to_first_break-front-in-Unicode.ensures.front,
        w.to_first_break-front-in-Unicode.ensures.inside,
      )
    ]

pub returns-then-line-bytes : goal.returns-then-line-bytes
returns-then-line-bytes c =
    let bytes = c.as_bytes-bytes in
    let front = c.match-breaks.front in
    let scan = scanned (goal.at.returns-then-line-bytes c).Joined-breaks in
    scanned_line c.args.breaks bytes.result.now front.chars front.at front.pairs _
    bytes.ensures.utf8 scan.0 c.if-line-bytes.true (scan.1 c.if-line-bytes.true)
    (ap (λ n. front.at + n) c.width_of.ensures) refl refl refl
    ∙ ap (λ bs. info_of c.args.breaks (first_line c.args.breaks (chars bs))) bytes.ensures.value

pub returns-else-line-bytes : goal.returns-else-line-bytes
returns-else-line-bytes c =
    let bytes = c.as_bytes-bytes in
    let front = c.match-breaks.front in
    let scan = scanned (goal.at.returns-else-line-bytes c).Joined-breaks in
    let end : front.at ≡ length bytes.result.now =
    omega (arith, scan.0.within, c.if-line-bytes.false) in
    scanned_all c.args.breaks bytes.result.now front.chars front.at front.pairs _ bytes.ensures.utf8
    scan.0 end refl refl refl refl
    ∙ ap (λ bs. info_of c.args.breaks (first_line c.args.breaks (chars bs))) bytes.ensures.value
