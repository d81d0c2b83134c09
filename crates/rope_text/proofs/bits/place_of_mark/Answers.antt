use Rattle.std.proofs.Common.{◌≡◌, ◌+◌, ◌-◌, ◌*◌, ◌%◌, ◌^◌, ◌<◌, ◌≤◌, ℕ, ap, ◌∙◌, arith}
use Rattle.std.proofs.Math.Nat.{mod-eq_of_lt}
use Rattle.std.proofs.Math.Pow.{pow_mono}
use Rattle.rope_text.specs.Bits.{ones_below, marks_below}
use Rattle.rope_text.proofs.BitLaws.{all_ones, no_marks, ones_le}
use Rattle.rope_text.proofs.bits.place_of_mark.Goals as goal

half_fits : (place step : ℕ) → place + 2 ^ step ≤ 32 → place + 2 ^ (step - 1) ≤ 32
half_fits place step fits =
    let down : step - 1 ≤ step = omega arith in omega (arith, pow_mono down)

fits : (place half : ℕ) → place + half ≤ 32 → place + (1 * half) % 2 ^ 64 ≡ place + half
fits place half few =
    let one : 1 * half ≡ half = omega arith in
    let low : half < 2 ^ 64 = omega (arith, few) in
    ap (λ k. place + k) (ap (λ k. k % 2 ^ 64) one ∙ mod-eq_of_lt low)

less : (n a b x y : ℕ) → n < a + b → a ≡ x → b ≡ y → n < x + y
less n a b x y more first second = omega arith

step_down : (step : ℕ) → step ≤ 5 → step - 1 ≤ 5
step_down step few = omega arith

-- in a block of ASCII the mark n begins with the byte n
before : (first second n : ℕ) → second ≡ 0 → marks_below first second n ≤ n
before first second n ascii =
    omega (arith, ones_le first n, ap (λ x. ones_below x n) ascii, no_marks n)

after : (first second n all : ℕ) → second ≡ 0 → all ≡ ones_below first 32 → all ≡ 32
    → n < marks_below first second 32 → n < marks_below first second (n + 1)
after first second n all ascii counted full some =
    let each : ones_below first 32 ≡ 32 = omega (arith, counted, full) in
    let few : n < 32 = omega (arith, some, each, ap (λ x. ones_below x 32) ascii, no_marks 32) in
    omega (arith, all_ones first 32 (n + 1) each (omega (arith, few)))

pub returns-then-ones_before-eq32-clause-before : goal.returns-then-ones_before-eq32-clause-before
returns-then-ones_before-eq32-clause-before c =
    before c.args.first c.args.second c.args.n c.if-second-eq0.true

pub returns-then-ones_before-eq32-clause-after : goal.returns-then-ones_before-eq32-clause-after
returns-then-ones_before-eq32-clause-after c =
    after c.args.first c.args.second c.args.n c.ones_before.result c.if-second-eq0.true
    c.ones_before.ensures c.if-ones_before-eq32.true c.requires

pub loop-step-preserved : goal.loop-step-preserved
loop-step-preserved c =
    let i = c.loop-step in
    let few = half_fits i.place i.step i.invariant.1 in
    let same = fits i.place (2 ^ (i.step - 1)) few in (
      step_down i.step i.invariant.0,
      few,
      i.invariant.2,
      less c.args.n _ _ _ _ c.if-ones_before-n.false
          (c.ones_before-in-loop-step.ensures ∙ ap (ones_below c.args.first) same)
          (c.ones_before-in-loop-step-2.ensures ∙ ap (ones_below c.args.second) same),
    )
