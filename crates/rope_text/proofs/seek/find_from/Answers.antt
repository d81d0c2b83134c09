use Rattle.std.proofs.Common.{◌≡◌, ◌+◌, ◌<◌, ℕ, length, drop, ap, ◌∙◌, arith, rules}
use Rattle.rope_text.specs.Bits.{ones_below}
use Rattle.rope_text.specs.Marks.{mark_at, marks, IsMark}
use Rattle.rope_text.proofs.BitLaws.{found_mark}
use Rattle.rope_text.proofs.Blocks.{marks-drop}
use Rattle.rope_text.proofs.seek.find_from.Goals as goal

pub returns-then-left-passed : goal.returns-then-left-passed
returns-then-left-passed c =
    let s = c.args.bytes.now in
    let m = c.args.mark in
    let i : ℕ = c.loop-at.at in
    let mask = c.mask-begun in
    let place = c.place_of_mark in
    let r : ℕ = place.result in
    let next : i + (r + 1) ≡ (i + r) + 1 = omega arith in
    let more = mask.ensures (r + 1) (omega (arith, place.ensures.bound))
    ∙ ap (λ j. ones_below mask.result (r + 1) + marks m (drop j s)) next in
    let found : i + r < length s → IsMark m s c.args.from c.args.n (i + r) = λ inside.
    let found =
    found_mark mask.result c.loop-at.left r _ _ _ (mark_at m s (i + r))
    (mask.ensures r (omega (arith, place.ensures.bound))) more
    (marks-drop m s (i + r) inside) place.ensures.before place.ensures.after in
    (omega (arith, found.0, c.loop-at.invariant.counted), found.1) in
    record {
      not_before = omega arith;
      bound = omega arith;
      inside = found;
      end = search rules;
    }
