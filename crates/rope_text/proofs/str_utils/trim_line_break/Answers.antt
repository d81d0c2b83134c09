use Rattle.std.proofs.Common.{◌≡◌, ℕ, ◌-◌, Bool, true, false, ◌&&◌, ◌==◌, ◌∙◌, ap, sym, refl, arith}
use Rattle.std.proofs.lemmas.Bool.Decides.{nat_tests}
use Rattle.std.specs.Prelude.{slice_index}
use Rattle.std.specs.Str.{chars}
use Rattle.rope_text.specs.Breaks.{is_break_char}
use Rattle.rope_text.specs.LastBreak.{ends_in_break, ends_in_crlf}
use Rattle.rope_text.proofs.LastBreakLaws.{last_place, last_crlf, one_break, crlf_break, some_bytes}
use Rattle.rope_text.proofs.TextParts.{chars_front}
use Rattle.rope_text.proofs.str_utils.trim_line_break.Goals.{else-last-gt0-via-then-last-gt0+then-bytes-last-eq13+then-bytes-last-eq10+else-is_break, else-last-gt0-via-then-last-gt0+then-bytes-last-eq13+else-bytes-last-eq10, else-last-gt0-via-then-last-gt0+else-bytes-last-eq13, else-last-gt0-via-else-last-gt0}
use Rattle.rope_text.proofs.str_utils.trim_line_break.Goals as goal

pair_test : (cr : Bool) (x y : ℕ) → cr ≡ true → x ≡ 13 → y ≡ 10
    → (cr && (x == 13 && y == 10)) ≡ true
pair_test cr x y a b c = grind (arith, nat_tests)

no_cr : (cr : Bool) (x y : ℕ) → cr ≡ false → (cr && (x == 13 && y == 10)) ≡ false
no_cr cr x y a = grind (arith, nat_tests)

no_pair : (cr : Bool) (x y : ℕ) → (x ≡ 13 → y ≡ 10 → ⊥) → (cr && (x == 13 && y == 10)) ≡ false
no_pair true x y off = grind (arith, nat_tests)
no_pair false x y off = refl

pub overflow_sub-text : goal.overflow_sub-text
overflow_sub-text c =
    some_bytes c.args.breaks c.args.text.now c.utf8.text (sym c.ends_with_line_break.ensures
    ∙ c.if-not-ends_with_line_break.false)

pub returns-then-is_break : goal.returns-then-is_break
returns-then-is_break c =
    let text = c.args.text.now in
    let breaks = c.args.breaks in
    let last = c.floor_char_boundary-last in
    let ends : ends_in_break breaks (chars text) ≡ true = sym c.ends_with_line_break.ensures
    ∙ c.if-not-ends_with_line_break.false in
    let place =
    last_place text last.result c.utf8.text (some_bytes breaks text c.utf8.text ends)
    last.ensures.boundary last.ensures.bound last.ensures.nearest in
    let crlf =
    last_crlf text last.result place.0 c.utf8.text (omega (arith, last.ensures.bound)) place.1
    place.2 in
    let test =
    pair_test (is_break_char breaks 13) _ _ (sym c.is_break.ensures ∙ c.if-is_break.true)
    (rw c.as_bytes-bytes.ensures.value at c.if-bytes-last-eq13.true)
    (rw c.as_bytes-bytes.ensures.value at c.if-bytes-last-eq10.true) in
    let pair : (is_break_char breaks 13 && ends_in_crlf (chars text)) ≡ true =
    ap (λ x. is_break_char breaks 13 && x) (sym crlf) ∙ test in
    chars_front text c.range.result.now _ _ _ c.utf8.text refl
    (crlf_break breaks text last.result place.0 c.utf8.text place.1 place.2 ends pair)
    c.range.ensures.value

pub returns : goal.returns
returns c =
    let text = c.args.text.now in
    let breaks = c.args.breaks in
    let last = c.floor_char_boundary-last in
    let p : ℕ = last.result in
    let ends : ends_in_break breaks (chars text) ≡ true = sym c.ends_with_line_break.ensures
    ∙ c.if-not-ends_with_line_break.false in
    let place =
    last_place text last.result c.utf8.text (some_bytes breaks text c.utf8.text ends)
    last.ensures.boundary last.ensures.bound last.ensures.nearest in
    let crlf =
    last_crlf text last.result place.0 c.utf8.text (omega (arith, last.ensures.bound)) place.1
    place.2 in
    let value = c.as_bytes-bytes.ensures.value in
    let test : (is_break_char breaks 13 &&
    (slice_index text (p - 1) == 13 && slice_index text p == 10)) ≡ false =
    elim c.else-last-gt0.branch [
      | else-last-gt0-via-then-last-gt0+then-bytes-last-eq13+then-bytes-last-eq10+else-is_break w ↦
          no_cr (is_break_char breaks 13) (slice_index text (p - 1)) (slice_index text p)
          (sym w.is_break.ensures ∙ w.if-is_break.false)
      | else-last-gt0-via-then-last-gt0+then-bytes-last-eq13+else-bytes-last-eq10 w ↦
          no_pair (is_break_char breaks 13) (slice_index text (p - 1)) (slice_index text p)
          (λ _ lf. w.if-bytes-last-eq10.false (ap (λ s. slice_index s p) value ∙ lf))
      | else-last-gt0-via-then-last-gt0+else-bytes-last-eq13 w ↦
          no_pair (is_break_char breaks 13) (slice_index text (p - 1)) (slice_index text p)
          (λ cr _. w.if-bytes-last-eq13.false (ap (λ s. slice_index s (p - 1)) value ∙ cr))
      | else-last-gt0-via-else-last-gt0 w ↦
          no_pair (is_break_char breaks 13) (slice_index text (p - 1)) (slice_index text p)
          (λ cr lf. let same : p - 1 ≡ p = omega (arith, w.if-last-gt0.false) in
          absurd (omega (arith, cr, lf, ap (slice_index text) same)))
    ] in
    let lone : (is_break_char breaks 13 && ends_in_crlf (chars text)) ≡ false =
    ap (λ x. is_break_char breaks 13 && x) (sym crlf) ∙ test in
    chars_front text c.range-2.result.now _ _ _ c.utf8.text refl
    (one_break breaks text last.result place.0 place.1 place.2 ends lone) c.range-2.ensures.value
