use Rattle.std.proofs.Common.{◌≡◌, ◌+◌, ◌-◌, take, true, false, refl, sym, ap, ◌∙◌, arith}
use Rattle.rope_text.specs.Breaks.{ends_in_cr}
use Rattle.rope_leaf.specs.Tree.{text}
use Rattle.rope_join.proofs.Seams.{ends_at}
use Rattle.rope_join.proofs.long_edits.meets.Goals.{then-end-gt0, else-end-gt0}
use Rattle.rope_join.proofs.long_edits.meets.Goals as goal

apart : false ≡ true → ⊥
apart e = cc

pub returns-then-counted_char_at-eq13-clause-value :
    goal.returns-then-counted_char_at-eq13-clause-value
returns-then-counted_char_at-eq13-clause-value c = elim c.if-end-gt0.branch [
  | then-end-gt0 w ↦
      let more : c.args.end - 1 + 1 ≡ c.args.end = omega (arith, w.if-end-gt0.true) in
      let cr = ap (λ k. ends_in_cr (take k (text c.args.left.now))) (sym more)
      ∙ ends_at (text c.args.left.now) (c.args.end - 1) w.counted_char_at.result
      w.counted_char_at.ensures.value
      ∙ sym w.value-is ∙ c.if-counted_char_at-eq13.true in
      rw (cr, c.is_lf.ensures.value) refl
  | else-end-gt0 w ↦
      let none : c.args.end ≡ 0 = omega (arith, w.if-end-gt0.false) in
      absurd (apart (rw none at (sym w.value-is ∙ c.if-counted_char_at-eq13.true)))
]

pub returns-else-counted_char_at-eq13-clause-value :
    goal.returns-else-counted_char_at-eq13-clause-value
returns-else-counted_char_at-eq13-clause-value c = elim c.if-end-gt0.branch [
  | then-end-gt0 w ↦
      let more : c.args.end - 1 + 1 ≡ c.args.end = omega (arith, w.if-end-gt0.true) in
      let cr = ap (λ k. ends_in_cr (take k (text c.args.left.now))) (sym more)
      ∙ ends_at (text c.args.left.now) (c.args.end - 1) w.counted_char_at.result
      w.counted_char_at.ensures.value
      ∙ sym w.value-is ∙ c.if-counted_char_at-eq13.false in
      rw (cr, c.if-counted_char_at-eq13.false) refl
  | else-end-gt0 w ↦
      let none : c.args.end ≡ 0 = omega (arith, w.if-end-gt0.false) in
      rw (none, c.if-counted_char_at-eq13.false) refl
]

pub returns-else-counted_char_at-eq13-clause-tree :
    goal.returns-else-counted_char_at-eq13-clause-tree
returns-else-counted_char_at-eq13-clause-tree c e =
    absurd (apart (sym c.if-counted_char_at-eq13.false ∙ e))
