use Rattle.std.proofs.Common.{arith, rules}
use Rattle.rope_changes.proofs.ComposeSteps.{left_some, left_none, loaded_some}
use Rattle.rope_changes.proofs.cursor.load_both.Goals as goal

pub returns-then-in_first-clause-some : goal.returns-then-in_first-clause-some
returns-then-in_first-clause-some c = (
  λ yes. omega (arith, left_some c.load-in_first.new.self (c.load-in_first.ensures.some.0 yes)),
  λ some. search rules,
)

pub returns-else-in_first-clause-some : goal.returns-else-in_first-clause-some
returns-else-in_first-clause-some c =
    let none = left_none c.load-in_first.new.self
    (λ some. absurd (cc (c.load-in_first.ensures.some.1 some, c.if-in_first.false)))
    c.load-in_first.ensures.loaded in (
      λ yes. omega
          (arith, left_some c.load-in_second.new.self (c.load-in_second.ensures.some.0 yes)),
      λ some. c.load-in_second.ensures.some.1
          (loaded_some c.load-in_second.new.self c.load-in_second.ensures.loaded (omega arith)),
    )
