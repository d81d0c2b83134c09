use Rattle.std.proofs.Common.{◌≡◌, ◌+◌, ◌-◌, ◌<◌, suc, ℕ, List, length, refl, ap, sym, subst, ◌∙◌, arith, inl, inr}
use Rattle.std.proofs.lemmas.Bool.{cases_lt}
use Rattle.std.specs.Str.{chars, IsUtf8, IsCharBoundary}
use Rattle.rope_text.specs.declared.line_breaks.LineBreaks.{LineBreaks}
use Rattle.rope_text.specs.declared.lanes.Mark.TheVariants.{Break}
use Rattle.rope_text.specs.Breaks.{break_count}
use Rattle.rope_text.specs.ByteBreaks.{byte_break_count}
use Rattle.rope_text.specs.Conversions.{line_to_byte}
use Rattle.rope_text.specs.Lines.{line_start}
use Rattle.rope_text.specs.Marks.{IsPlaceOf}
use Rattle.rope_text.proofs.ByteBreakLaws.{break_count-chars}
use Rattle.rope_text.proofs.Fronts.{break_place, no_break_place}
use Rattle.rope_text.proofs.TextParts.{byte_len_boundary}
use Rattle.rope_text.proofs.str_utils.line_to_byte_of.Goals.{Joined-breaks, in-Lf, in-CrLf, in-Unicode}
use Rattle.rope_text.proofs.str_utils.line_to_byte_of.Goals as goal

pub returns-then-line_idx-eq0 : goal.returns-then-line_idx-eq0
unfolding line_start
returns-then-line_idx-eq0 c = record {
  value = rw c.if-line_idx-eq0.true refl;
  boundary = byte_len_boundary c.args.text.now 0 c.utf8.text;
}

pub returns-then-line_idx-last_line-clause-value : goal.returns-then-line_idx-last_line-clause-value
returns-then-line_idx-last_line-clause-value c =
    let text = c.args.text.now in
    let breaks = c.args.breaks in
    let n : ℕ = c.args.line_idx - 1 in
    let next : suc n ≡ c.args.line_idx = omega (arith, c.if-line_idx-eq0.false) in
    let few =
    no_break_place breaks text n c.utf8.text
    (omega (
      arith,
      next,
      c.requires,
      c.if-line_idx-last_line.true,
      break_count-chars breaks text c.utf8.text,
    )) in
    sym few ∙ ap (line_to_byte breaks (chars text)) next

-- the breaks that are known are those of the bytes
counted : (breaks : LineBreaks) (bs text : List ℕ) (count : ℕ) → IsUtf8 bs → bs ≡ text
    → count ≡ break_count breaks (chars text) → count ≡ byte_break_count breaks bs
counted breaks bs text count u same known = known
    ∙ ap (λ xs. break_count breaks (chars xs)) (sym same) ∙ break_count-chars breaks bs u

pub find_break-last-requires-clause-break_count : goal.find_break-last-requires-clause-break_count
find_break-last-requires-clause-break_count c =
    counted c.args.breaks _ _ _ c.as_bytes-bytes.ensures.utf8 c.as_bytes-bytes.ensures.value
    c.requires

pub find_break-last-requires-in-CrLf-clause-break_count :
    goal.find_break-last-requires-in-CrLf-clause-break_count
find_break-last-requires-in-CrLf-clause-break_count c =
    counted c.args.breaks _ _ _ c.as_bytes-bytes.ensures.utf8 c.as_bytes-bytes.ensures.value
    c.requires

pub find_break-last-requires-in-Unicode-clause-break_count :
    goal.find_break-last-requires-in-Unicode-clause-break_count
find_break-last-requires-in-Unicode-clause-break_count c =
    counted c.args.breaks _ _ _ c.as_bytes-bytes.ensures.utf8 c.as_bytes-bytes.ensures.value
    c.requires

-- the last character of the break before the line is there
found : (c : Joined-breaks)
    → IsPlaceOf (Break c.args.breaks) c.as_bytes-bytes.result.now 0 (c.args.line_idx - 1)
    c.match-breaks.last × (c.match-breaks.last < length c.as_bytes-bytes.result.now)
found c =
    let bs = c.as_bytes-bytes.result.now in
    let last : ℕ = c.match-breaks.last in
    let place : IsPlaceOf (Break c.args.breaks) bs 0 (c.args.line_idx - 1) last =
    elim c.match-breaks.branch [
      | in-Lf w ↦ rw w.last-is w.find_break-last.ensures
      | in-CrLf w ↦ rw w.last-is w.find_break-last-in-CrLf.ensures
      | in-Unicode w ↦ rw w.last-is w.find_break-last-in-Unicode.ensures
    ] in
    let known =
    counted c.args.breaks bs _ _ c.as_bytes-bytes.ensures.utf8 c.as_bytes-bytes.ensures.value
    c.requires in
    let inside : last < length bs = elim (cases_lt last (length bs)) [
      | inl less ↦ less
      | inr past ↦ absurd (omega (
        arith,
        place.end (omega (arith, place.bound, past)),
        known,
        c.if-line_idx-eq0.false,
        c.if-line_idx-last_line.false,
      ))
    ] in
    (place, inside)

pub bounds-bytes-last : goal.bounds-bytes-last
bounds-bytes-last c = (found (goal.at.bounds-bytes-last c).Joined-breaks).1

pub returns : goal.returns
returns c =
    let breaks = c.args.breaks in
    let bytes = c.as_bytes-bytes in
    let bs = bytes.result.now in
    let n : ℕ = c.args.line_idx - 1 in
    let last : ℕ = c.match-breaks.last in
    let next : suc n ≡ c.args.line_idx = omega (arith, c.if-line_idx-eq0.false) in
    let f = found (goal.at.returns c).Joined-breaks in
    let mark = f.0.inside f.1 in
    let value = ap (λ w. last + w) c.width_of.ensures
    ∙ break_place breaks bs n last bytes.ensures.utf8 f.1 mark.0 mark.1
    ∙ ap (line_to_byte breaks (chars bs)) next
    ∙ ap (λ xs. line_to_byte breaks (chars xs) c.args.line_idx) bytes.ensures.value in
    record {
      value = value;
      boundary =
          subst (IsCharBoundary c.args.text.now) (sym value)
          (byte_len_boundary c.args.text.now
          (line_start breaks (chars c.args.text.now) c.args.line_idx) c.utf8.text);
    }
