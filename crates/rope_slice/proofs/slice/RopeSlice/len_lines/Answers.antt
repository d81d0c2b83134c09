use Rattle.std.proofs.Common.{ap, arith}
use Rattle.rope_leaf.proofs.Infos.{small_info}
use Rattle.rope_slice.specs.Slice.{text_of, breaks_of}
use Rattle.rope_slice.proofs.slice.RopeSlice.len_lines.Goals as goal

pub overflow_add-result : goal.overflow_add-result
overflow_add-result c =
    let small =
    small_info (breaks_of c.args.self.now) (text_of c.args.self.now) c.info.ensures.kept.fits in
    omega (arith, ap (λ x. x.break_count) c.info.ensures.value)
