use Rattle.std.proofs.Common.{arith}
use Rattle.rope_slice.proofs.Measured.{measured, info_part}
use Rattle.rope_slice.proofs.Kept.{excerpt_kept}
use Rattle.rope_slice.proofs.excerpt.Excerpt.info.Goals as goal

pub minus-requires : goal.minus-requires
minus-requires c = let m = measured _ _ _ _ c.args.self.now.is_excerpt in
    record { bytes = omega arith; chars = omega arith; pairs = omega arith; breaks = omega arith }

pub returns-clause-value : goal.returns-clause-value
returns-clause-value c = info_part _ _ _ _ _ c.args.self.now.is_excerpt c.minus.ensures.sum

pub returns-clause-kept : goal.returns-clause-kept
returns-clause-kept c =
    excerpt_kept c.args.self.now.node.now c.args.self.now.start c.args.self.now.end
    c.args.self.now.is_low.tree c.args.self.now.is_excerpt
