use Rattle.std.proofs.Common.{◌∙◌, ap, sym, subst, take, drop, length-drop, arith}
use Rattle.std.proofs.lemmas.List.{take_all}
use Rattle.std.specs.Char.{IsScalar}
use Rattle.rope_files.proofs.Fronts.{begins_one, begins_two}
use Rattle.rope_files.proofs.layout.front_units.Goals as goal

pub returns-in-Some : goal.returns-in-Some
returns-in-Some c =
    let made = c.in-Some.ensures.value in
    begins_one c.args.order c.args.bytes.now c.code_unit.result c.in-Some.c (omega arith)
    c.code_unit.ensures.bytes (omega arith)
    (subst IsScalar (sym made.1) made.0) (omega (arith, made.1))

pub returns : goal.returns
returns c =
    let made = c.in-Some-from_u32.ensures.value in
    begins_two c.args.order c.args.bytes.now c.code_unit.result c.code_unit-2.result
    c.in-Some-from_u32.c (omega arith) c.code_unit.ensures.bytes
    (ap (λ xs. take 2 xs) (sym (take_all _ (drop 2 c.args.bytes.now)
    (omega (arith, length-drop 2 c.args.bytes.now)))) ∙ c.code_unit-2.ensures.bytes)
    (omega (arith, c.in_default.ensures.cases)) (omega arith) (omega arith)
    (subst IsScalar (sym made.1) made.0) (omega (arith, made.1))
