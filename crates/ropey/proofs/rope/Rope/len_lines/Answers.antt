-- A text has no more line breaks than bytes.
use Rattle.std.proofs.Common.{arith, ap}
use Rattle.rope_leaf.specs.Tree.{text}
use Rattle.rope_leaf.proofs.Infos.{small_info}
use Rattle.ropey.proofs.rope.Rope.len_lines.Goals as goal

pub overflow_add-result : goal.overflow_add-result
overflow_add-result c =
    let t = c.self.inside.root in
    let small = small_info t.breaks (text t) c.self.invariant.fits in
    omega (
      arith,
      small.bytes,
      small.chars,
      small.breaks,
      ap (λ x. x.break_count) c.info.ensures.value,
    )
