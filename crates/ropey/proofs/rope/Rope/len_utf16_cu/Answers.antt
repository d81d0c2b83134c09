-- A text has no more pairs than characters, and no more characters than bytes.
use Rattle.std.proofs.Common.{arith, ap}
use Rattle.rope_leaf.specs.Tree.{text}
use Rattle.rope_leaf.proofs.Infos.{small_info}
use Rattle.ropey.proofs.rope.Rope.len_utf16_cu.Goals as goal

pub overflow_add-result : goal.overflow_add-result
overflow_add-result c =
    let t = c.self.inside.root in
    let small = small_info t.breaks (text t) c.self.invariant.fits in
    let e = c.info-info.ensures.value in
    omega (
      arith,
      small.bytes,
      small.chars,
      small.pairs,
      ap (λ x. x.chars) e,
      ap (λ x. x.utf16_surrogates) e,
    )
