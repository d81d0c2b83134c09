use Rattle.std.proofs.Common.{ℕ, List, take, drop, sym, subst, ◌∙◌, arith, take-append-drop}
use Rattle.rope_text.specs.Utf8.{HasNoFault}
use Rattle.rope_text.proofs.Utf8Laws.{first_three, in_front}
use Rattle.rope_text.proofs.utf8.front_without_fault.Goals as goal

pub loop-at-init : goal.loop-at-init
loop-at-init c = (
  omega arith,
  omega arith,
  first_three c.args.bytes.now (sym c.is_fault.ensures ∙ c.if-is_fault.false)
      (sym c.is_fault-else-is_fault.ensures ∙ c.if-is_fault-2.false)
      (sym c.is_fault-else-is_fault-2.ensures ∙ c.if-is_fault-3.false),
)

pub returns-then-bytes-lt67-clause-none : goal.returns-then-bytes-lt67-clause-none
returns-then-bytes-lt67-clause-none c =
    let s = c.args.bytes.now in
    let n = c.few_without_fault.result in
    let few = c.few_without_fault.ensures in
    let P : List ℕ → Type 0 = λ bs. HasNoFault bs n in
    subst P (take-append-drop c.min.result s)
    (in_front (take c.min.result s) (drop c.min.result s) n few.bound few.none)
