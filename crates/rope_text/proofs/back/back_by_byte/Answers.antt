use Rattle.std.proofs.Common.{◌≡◌, ◌+◌, ◌-◌, ℕ, Bool, true, false, cond, ap, refl, sym, ◌∙◌, arith}
use mir.Val.{bool_byte}
use Rattle.std.proofs.num.Orders.{Bool-small}
use Rattle.rope_text.specs.ByteBreaks.{breaks_at}
use Rattle.rope_text.specs.Scan.{GoesBack}
use Rattle.rope_text.proofs.Backs.{never, by_byte}
use Rattle.rope_text.proofs.Blocks.{one_where}
use Rattle.rope_text.proofs.back.back_by_byte.Goals.{After-is_mark-3}
use Rattle.rope_text.proofs.back.back_by_byte.Goals as goal

pub overflow_add-back : goal.overflow_add-back
overflow_add-back c =
    omega (arith, c.requires.room.chars, c.requires.some, Bool-small c.is_mark.result)

pub overflow_add-back-2 : goal.overflow_add-back-2
overflow_add-back-2 c =
    omega (arith, c.requires.room.pairs, c.requires.some, Bool-small c.is_mark-2.result)

-- where a break begins with it or not
step : (c : After-is_mark-3) (b f : Bool) (left : ℕ)
    → breaks_at c.args.breaks c.args.bytes.now (c.args.from.at - 1) ≡ b
    → cond b 1 0 + left ≡ c.args.from.left + cond f 1 0
    → (f ≡ true → (b ≡ true) × (left ≡ 0))
    → GoesBack c.args.breaks c.args.bytes.now c.args.from record {
      at = c.args.from.at - 1;
      chars = c.args.from.chars + bool_byte c.is_mark.result;
      pairs = c.args.from.pairs + bool_byte c.is_mark-2.result;
      left = left;
    } f
step c b f left begins sum found =
    let old = c.args.from in
    let next : (old.at - 1) + 1 ≡ old.at = omega (arith, c.requires.some) in
    by_byte c.args.breaks c.args.bytes.now old _ f next c.requires.within
    (ap (λ n. old.chars + n) (one_where _ _ c.is_mark.ensures))
    (ap (λ n. old.pairs + n) (one_where _ _ c.is_mark-2.ensures))
    (omega (arith, sum, ap (λ t. cond {A = ℕ} t 1 0) begins))
    (λ e. (begins ∙ (found e).0, (found e).1))

pub returns-then-not-is_mark-clause-goes : goal.returns-then-not-is_mark-clause-goes
returns-then-not-is_mark-clause-goes c =
    step (goal.at.returns-then-not-is_mark-clause-goes c).After-is_mark-3 false false _
    (sym c.is_mark-3.ensures ∙ c.if-not-is_mark.true) (omega arith) (λ e. never e)

pub returns-then-back-eq0-clause-goes : goal.returns-then-back-eq0-clause-goes
returns-then-back-eq0-clause-goes c =
    step (goal.at.returns-then-back-eq0-clause-goes c).After-is_mark-3 true true _
    (sym c.is_mark-3.ensures ∙ c.if-not-is_mark.false) (omega (arith, c.if-back-eq0.true))
    (λ _. (refl, c.if-back-eq0.true))

pub returns-clause-goes : goal.returns-clause-goes
returns-clause-goes c =
    step (goal.at.returns-clause-goes c).After-is_mark-3 true false _ (sym c.is_mark-3.ensures
    ∙ c.if-not-is_mark.false) (omega (arith, c.if-back-eq0.false)) (λ e. never e)
