use Rattle.std.proofs.Common.{◌≡◌, ℕ, ◌-◌, true, false, ◌&&◌, sym, ap, ap₂, ◌∙◌, arith, inl, inr, length}
use Rattle.std.proofs.lemmas.Bool.{cases_lt}
use Rattle.std.proofs.Math.Bool.{and-false}
use Rattle.std.proofs.lemmas.Option.{get_or_from_slice_get}
use Rattle.rope_text.specs.Breaks.{is_break_char}
use Rattle.rope_text.specs.LastBreak.{ends_in_crlf}
use Rattle.rope_slice.specs.Slice.{text_of}
use Rattle.rope_slice.proofs.LineEnds.{some_end, too_short}
use Rattle.rope_slice.proofs.slice.RopeSlice.last_break_len.Goals.{else-is_break-via-then-is_break+else-ends_in_crlf, else-is_break-via-else-is_break}
use Rattle.rope_slice.proofs.slice.RopeSlice.last_break_len.Goals as goal

pub returns-then-ends_in_crlf-clause-value : goal.returns-then-ends_in_crlf-clause-value
returns-then-ends_in_crlf-clause-value c =
    let t = text_of c.args.self.now in
    let breaks = c.line_breaks-breaks.result in
    let k : ℕ = c.len_chars-len.result - 1 in
    let last = ap (is_break_char breaks) (get_or_from_slice_get t k c.char.result 0 c.char.ensures)
    ∙ sym c.is_break.ensures ∙ c.if-not-is_break.false in
    let pair : (is_break_char breaks 13 && ends_in_crlf t) ≡ true = ap₂ (λ x y. x && y)
    (sym c.is_break-2.ensures ∙ c.if-is_break.true) (sym c.ends_in_crlf.ensures ∙
    c.if-ends_in_crlf.true) in
    rw (← c.line_breaks-breaks.ensures) (sym (some_end breaks t k
    (omega (arith, c.len_chars-len.ensures, c.if-len-eq0.false)) last true pair))

pub returns-clause-value : goal.returns-clause-value
returns-clause-value c =
    let t = text_of c.args.self.now in
    let breaks = c.line_breaks-breaks.result in
    let k : ℕ = c.len_chars-len.result - 1 in
    let last = ap (is_break_char breaks) (get_or_from_slice_get t k c.char.result 0 c.char.ensures)
    ∙ sym c.is_break.ensures ∙ c.if-not-is_break.false in
    let pair : (is_break_char breaks 13 && ends_in_crlf t) ≡ false = elim c.else-is_break.branch [
      | else-is_break-via-then-is_break+else-ends_in_crlf w ↦ ap (λ y. is_break_char breaks 13 && y)
          (sym w.ends_in_crlf.ensures ∙ w.if-ends_in_crlf.false) ∙ and-false
          (is_break_char breaks 13)
      | else-is_break-via-else-is_break w ↦ ap (λ x. x && ends_in_crlf t)
          (sym c.is_break-2.ensures ∙ w.if-is_break.false)
    ] in
    rw (← c.line_breaks-breaks.ensures) (sym (some_end breaks t k
    (omega (arith, c.len_chars-len.ensures, c.if-len-eq0.false)) last false pair))

pub returns-then-ends_in_crlf-clause-within : goal.returns-then-ends_in_crlf-clause-within
returns-then-ends_in_crlf-clause-within c =
    let t = text_of c.args.self.now in
    let pair : ends_in_crlf t ≡ true = sym c.ends_in_crlf.ensures ∙ c.if-ends_in_crlf.true in
    elim (cases_lt 1 (length t)) [
      | inl long ↦ omega (arith, long)
      | inr short ↦ absurd (let alone = too_short t short in cc)
    ]
