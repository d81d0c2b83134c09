-- The leaf ends at a legal split position of the second text, or between the two.
use Rattle.std.proofs.Common.{◌≡◌, ◌∙◌, ◌<◌, true, false, ◌++◌, ap, ap₂, sym, arith, length, IsTrue, inl, inr, subst}
use Rattle.std.proofs.lemmas.Bool.{cases_lt}
use Rattle.std.specs.Str.{chars}
use Rattle.rope_text.specs.Cuts.{is_cut}
use Rattle.rope_text.specs.Cutting.{parts_crlf}
use Rattle.rope_text.proofs.Apart.{apart_at_seam}
use Rattle.rope_text.proofs.CutOff.{IsCutOff, cut_off, none_off}
use Rattle.rope_tree.proofs.FrontLaws.{longer_whole, longer_apart, same_apart}
use Rattle.rope_tree.proofs.builder.fill_up.Goals.{After-push_str, else-taken-eq0-via-then-taken-eq0+else-not-seam_is_break, else-taken-eq0-via-else-taken-eq0}
use Rattle.rope_tree.proofs.builder.fill_up.Goals as goal

inside : (c : After-push_str) → c.prev_break-taken.result < length c.args.text.now
inside c =
    omega (
      arith,
      c.prev_break-taken.ensures.before (omega (arith, c.len-room.ensures.fits)),
      c.requires,
      c.len-room.ensures.value,
    )

off : (c : After-push_str) → IsCutOff c.args.text.now c.prev_break-taken.result
off c = elim (cases_lt 0 c.prev_break-taken.result) [
  | inl some ↦ cut_off c.args.text.now c.prev_break-taken.result c.utf8.text some (inside c)
      (subst (λ bs. IsTrue (is_cut bs c.prev_break-taken.result)) c.as_bytes.ensures.value
      c.prev_break-taken.ensures.cut)
  | inr none ↦ subst (IsCutOff c.args.text.now) (omega arith) (none_off c.args.text.now c.utf8.text)
]

-- nothing is moved, if the rest may be split off as it is
at_seam : (c : After-push_str) → c.prev_break-taken.result ≡ 0
    → parts_crlf c.args.rest.now (chars c.args.text.now) ≡ false
at_seam c none = elim c.else-taken-eq0.branch [
  | else-taken-eq0-via-then-taken-eq0+else-not-seam_is_break w ↦
      let size = ap length w.as_str.ensures.bytes in
      let cut : is_cut (w.as_str.result.now ++ c.args.text.now) (length w.as_str.result.now)
      ≡ true =
      ap₂ (λ xs ys. is_cut (xs ++ ys) (length xs)) (sym w.as_bytes-then-taken-eq0.ensures.value)
      (sym w.as_bytes-then-taken-eq0-2.ensures.value) ∙ sym w.seam_is_break.ensures
      ∙ w.if-not-seam_is_break.false in
      ap (λ x. parts_crlf x (chars c.args.text.now)) (sym w.as_str.ensures.chars)
      ∙ apart_at_seam w.as_str.result.now c.args.text.now w.as_str.utf8 c.utf8.text
      (omega (arith, size, none, c.if-len-taken-lt-MIN_CUT_BYTES.false, c.len.ensures.value))
      (omega (arith, c.requires, w.as_str.ensures.fits)) cut
  | else-taken-eq0-via-else-taken-eq0 w ↦ absurd (omega (arith, w.if-taken-eq0.false, none))
]

pub returns-clause-whole : goal.returns-clause-whole
returns-clause-whole c =
    let e = (goal.at.returns-clause-whole c).After-push_str in
    longer_whole c.args.text.now c.prev_break-taken.result c.args.rest.now _ _ (off e)
    c.push_str.ensures.value c.range.ensures.value

pub returns-clause-apart : goal.returns-clause-apart
returns-clause-apart c =
    let e = (goal.at.returns-clause-apart c).After-push_str in
    elim (cases_lt 0 c.prev_break-taken.result) [
      | inl some ↦ longer_apart c.args.text.now c.prev_break-taken.result c.args.rest.now _ _
          (off e) c.push_str.ensures.value c.range.ensures.value some (omega (arith, inside e))
      | inr none ↦ same_apart c.args.text.now c.prev_break-taken.result c.args.rest.now _ _ (off e)
          c.push_str.ensures.value c.range.ensures.value (omega arith) (at_seam e (omega arith))
    ]
