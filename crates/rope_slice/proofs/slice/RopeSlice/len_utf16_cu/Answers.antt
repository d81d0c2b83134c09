use Rattle.std.proofs.Common.{ap, arith}
use Rattle.rope_leaf.proofs.Infos.{small_info}
use Rattle.rope_slice.specs.Slice.{text_of, breaks_of}
use Rattle.rope_slice.proofs.slice.RopeSlice.len_utf16_cu.Goals as goal

pub overflow_add-result : goal.overflow_add-result
overflow_add-result c =
    let small =
    small_info (breaks_of c.args.self.now) (text_of c.args.self.now)
    c.info-info.ensures.kept.fits in
    omega (
      arith,
      ap (λ x. x.chars) c.info-info.ensures.value,
      ap (λ x. x.utf16_surrogates) c.info-info.ensures.value,
    )
