-- A mask keeps a number, or clears it.
use Rattle.std.proofs.Common.{◌≡◌, ℕ, ◌+◌, ◌-◌, ◌<◌, ◌^◌, bit_and, get_or, inl, inr, rules, arith}
use Rattle.std.proofs.lemmas.Bool.{cases_lt}
use Rattle.std.proofs.lemmas.Grind.{common_steps}
use Rattle.rope_leaf.proofs.search.count_rows.add_half.Goals as goal

none : (n mask : ℕ) → mask ≡ 0 → bit_and n mask ≡ 0
none n mask e = rw e (search rules)

all : (n mask : ℕ) → mask ≡ 2 ^ 32 - 1 → n < 2 ^ 32 → bit_and n mask ≡ n
all n mask e lt = rw e (grind (arith, common_steps))

pub loop-k-preserved : goal.loop-k-preserved
loop-k-preserved c =
    let more = c.args.more in
    let j = c.args.start + c.loop-k.k in
    let mask = get_or c.masks_from-masks.result.now j 0 in
    elim (cases_lt j c.args.from) [
      | inl early ↦ let e = none more mask (c.masks_from-masks.ensures.before j early) in
          grind (arith, common_steps)
      | inr late ↦ let e =
          all more mask (c.masks_from-masks.ensures.following j late
          (omega (arith, c.loop-k-test.true, c.requires.start))) (omega arith) in
          grind (arith, common_steps)
    ]
