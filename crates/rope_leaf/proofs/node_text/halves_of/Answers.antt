-- Two texts made of one that is too long for a leaf.
use Rattle.std.proofs.Common.{ℕ, ◌+◌, ◌-◌, ◌/◌, ◌≤◌, ◌∙◌, length, take, ap, sym, arith}
use Rattle.rope_text.specs.Cuts.{is_cut}
use Rattle.rope_text.proofs.CutFacts.{cut_near}
use Rattle.rope_leaf.proofs.HalfLaws.{halves_at}
use Rattle.rope_leaf.proofs.node_text.halves_of.Goals.{After-next_break-cut}
use Rattle.rope_leaf.proofs.node_text.halves_of.Goals as goal

-- both halves of a text that is split near its middle fit in a leaf
record IsHalf (n cut : ℕ) : Type 0 where
  left : 491 ≤ cut
  left_fits : cut ≤ 984
  right : cut + 491 ≤ n
  right_fits : n ≤ cut + 984

half : (c : After-next_break-cut) → IsHalf (length c.args.text.now) c.next_break-cut.result
half c =
    let near =
    cut_near c.as_bytes.result.now (length c.args.text.now / 2 - 2 + 1) c.as_bytes.ensures.utf8
    (omega arith) (omega arith) in
    let found =
    c.next_break-cut.ensures.nearest near.0 (omega (arith, near.1))
    (omega (arith, near.2, c.as_bytes.ensures.len)) near.3 in
    let past = c.next_break-cut.ensures.after (omega (arith, c.as_bytes.ensures.len)) in
    record {
      left = omega (arith, past);
      left_fits = omega (arith, near.1, near.2, c.as_bytes.ensures.len);
      right = omega (arith, near.1, near.2, c.as_bytes.ensures.len);
      right_fits = omega (arith, past, c.as_bytes.ensures.len);
    }

pub returns : goal.returns
returns c =
    let text = c.args.text.now in
    let h = half (goal.at.returns c).After-next_break-cut in
    let cut = ap (λ bs. is_cut bs c.next_break-cut.result) (sym c.as_bytes.ensures.value)
    ∙ c.next_break-cut.ensures.cut in
    halves_at 0 text c.range.result.now c.range_from.result.now c.next_break-cut.result
    (c.range.ensures.value ∙ ap (λ k. take k text) (omega arith)) c.range_from.ensures.value
    c.range.utf8 c.range_from.utf8 cut
    (omega (arith, c.range.ensures.len, h.left)) (omega (arith, c.range_from.ensures.len, h.right))
    (omega (arith, c.range.ensures.len, h.left_fits))
    (omega (arith, c.range_from.ensures.len, h.right_fits)) (omega (arith, h.right))
