use Rattle.std.proofs.Common.{◌≡◌, ◌<◌, ◌≤◌, ⊎_elim, ap, arith, sym, ◌∙◌}
use Rattle.std.proofs.lemmas.Bool.{cases_lt}
use Rattle.rope_text.specs.Cuts.{is_cut}
use Rattle.rope_text.proofs.CutFacts.{boundary_of_cut}
use Rattle.rope_text.proofs.crlf.find_good_split.Goals as goal

pub returns-then-is_break-clause-boundary : goal.returns-then-is_break-clause-boundary
returns-then-is_break-clause-boundary c u =
    boundary_of_cut c.args.text.now c.args.at u c.requires (sym c.is_break.ensures.value
    ∙ c.if-is_break.true)

pub returns-else-before-gt0-clause-no_left : goal.returns-else-before-gt0-clause-no_left
returns-else-before-gt0-clause-no_left c left none = (
  omega arith,
  λ k from within cut.
      ⊎_elim (λ (more : c.args.at < k). c.next_break-after.ensures.nearest k more within cut)
      (λ (most : k ≤ c.args.at). let same : k ≡ c.args.at = omega arith in
      absurd (grind (arith, ap (is_cut c.args.text.now) same)))
      (cases_lt c.args.at k),
)

pub returns-else-after-text-clause-no_right : goal.returns-else-after-text-clause-no_right
returns-else-after-text-clause-no_right c right none = (
  omega arith,
  λ k within cut.
      ⊎_elim (λ (less : k < c.args.at). c.prev_break-before.ensures.nearest k less cut)
      (λ (most : c.args.at ≤ k). let same : k ≡ c.args.at = omega arith in
      absurd (grind (arith, ap (is_cut c.args.text.now) same)))
      (cases_lt k c.args.at),
)
