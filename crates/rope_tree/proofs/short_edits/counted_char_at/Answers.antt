use Rattle.std.proofs.Common.{ap, arith}
use Rattle.rope_leaf.proofs.TreeLaws.{low_tree}
use Rattle.rope_tree.proofs.short_edits.counted_char_at.Goals as goal

pub char_at-found-requires-clause-room : goal.char_at-found-requires-clause-room
char_at-found-requires-clause-room c =
    let low = low_tree c.args.node.now c.requires.tree in
    record {
      nodes = omega (arith, low, ap (λ s. s.nodes) c.new-steps.ensures);
      compares = omega (arith, low, ap (λ s. s.compares) c.new-steps.ensures);
    }
