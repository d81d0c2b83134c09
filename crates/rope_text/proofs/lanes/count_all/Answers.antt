use Rattle.std.proofs.Common.{◌≡◌, ℕ, zero, suc, ◌+◌, ◌++◌, length, drop, refl, ap, ◌∙◌, arith, rules}
use Rattle.std.specs.Prelude.{replicate}
use Rattle.std.proofs.lemmas.List.{drop_at}
use Rattle.std.proofs.lemmas.Grind.{common_steps}
use Rattle.rope_text.specs.ByteBreaks.{byte_break_count}
use Rattle.rope_text.proofs.ByteBreakLaws.{byte_break_count-past}
use Rattle.rope_text.proofs.Padded.{AreZeros, zeros_dropped, no_breaks, breaks_padded}
use Rattle.rope_text.proofs.lanes.count_all.Goals as goal

zeros_at : (n : ℕ) → AreZeros (replicate n 0)
zeros_at zero k = refl
zeros_at (suc n) zero = refl
zeros_at (suc n) (suc k) = zeros_at n k

pub returns : goal.returns
returns c =
    let b = c.args.breaks in
    let bs = c.args.bytes.now in
    let n = length bs in
    let rest = drop n (replicate 34 0) in
    let are : AreZeros rest = zeros_dropped n (replicate 34 0) (zeros_at 34) in
    let ys = c.copy_from_slice.new.self in
    let whole : byte_break_count b (ys ++ rest) ≡ byte_break_count b bs =
    ap (λ x. byte_break_count b (x ++ rest)) c.copy_from_slice.ensures.after
    ∙ breaks_padded b bs rest are in
    let following : byte_break_count b (drop (0 + n) (ys ++ rest)) ≡ 0 =
    ap (λ k. byte_break_count b (drop k (ys ++ rest))) (let e : 0 + n ≡ n = omega arith in e)
    ∙ ap (λ x. byte_break_count b (drop n (x ++ rest))) c.copy_from_slice.ensures.after
    ∙ ap (byte_break_count b) (drop_at bs rest _ refl) ∙ no_breaks b rest are in
    record {
      bytes_are = search rules;
      chars = grind (arith, common_steps);
      pairs = grind (arith, common_steps);
      break_count =
          omega (
            arith,
            c.mask-3.ensures n (omega arith),
            whole,
            following,
            c.ones_before-3.ensures,
            byte_break_count-past b bs n (omega arith),
          );
    }
