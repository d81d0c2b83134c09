use Rattle.std.proofs.Common.{◌≡◌, ℕ, ◌≤◌, true, false, arith}
use Rattle.std.specs.Prelude.{◌==◌}
use Rattle.std.proofs.lemmas.Bool.Decides.{nat_tests}
use Rattle.rope_changes.proofs.MovedLaws.{moved_zero}
use Rattle.rope_changes.proofs.Prefixes.{inserted_passed, inserted_passed_after}
use Rattle.rope_changes.specs.declared.side.Side.TheVariants.{Before}
use Rattle.rope_changes.proofs.side.Side.stays.Goals as goal

none_left : (n : ℕ) → (n == 0) ≡ true → n ≡ 0
none_left n e = grind (arith, nat_tests)

some_left : (n : ℕ) → (n == 0) ≡ false → 1 ≤ n
some_left n e = grind (arith, nat_tests)

pub returns-in-Before-clause-stays : goal.returns-in-Before-clause-stays
returns-in-Before-clause-stays c =
    λ yes ops. rw (c.in-Before.is, none_left c.args.left yes) (moved_zero ops)

pub returns-in-Before-clause-passes : goal.returns-in-Before-clause-passes
returns-in-Before-clause-passes c =
    λ no text ops. rw c.in-Before.is
    (inserted_passed Before text c.args.left ops (some_left c.args.left no))

pub returns-in-After-clause-passes : goal.returns-in-After-clause-passes
returns-in-After-clause-passes c =
    λ _ text ops. rw c.in-After.is (inserted_passed_after text c.args.left ops)
