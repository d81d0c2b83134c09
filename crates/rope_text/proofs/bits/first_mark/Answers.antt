use Rattle.std.proofs.Common.{inl, inr, refl, arith}
use Rattle.std.proofs.lemmas.Bool.{cases_lt}
use Rattle.rope_text.specs.Bits.{ones_below}
use Rattle.rope_text.proofs.BitLaws.{first_one, first_within, no_first, ones_more}
use Rattle.rope_text.proofs.bits.first_mark.Goals as goal

pub returns : goal.returns
returns c =
    let mask = c.args.mask in
    elim (cases_lt 0 (ones_below mask 64)) [
      | inl some ↦
          let first = first_one 64 64 mask (omega arith) some in
          record {
            bound = omega (arith, first.bound);
            before = first.before;
            some = λ _. first.bound;
            block = λ one. first_within mask _ _ 32 first one;
            after = λ _. first.after;
          }
      | inr none ↦
          let all = no_first 64 mask (omega (arith, none)) in
          record {
            bound = omega (arith, all);
            before = rw all (omega (arith, none));
            some = λ one. absurd (omega (arith, one, none));
            block = λ one. absurd (omega (arith, one, none, ones_more mask 32 32 64 refl));
            after = λ less. absurd (omega (arith, less, all));
          }
    ]
