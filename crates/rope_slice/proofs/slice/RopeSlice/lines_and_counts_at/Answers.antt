use Rattle.std.proofs.Common.{ap, arith}
use Rattle.std.proofs.lemmas.Str.{length-le-encodes}
use Rattle.rope_text.proofs.InfoLaws.{break_count-le-length}
use Rattle.rope_slice.specs.Slice.{text_of, breaks_of}
use Rattle.rope_slice.proofs.slice.RopeSlice.lines_and_counts_at.Goals as goal

pub overflow_add-total : goal.overflow_add-total
overflow_add-total c =
    let t = text_of c.args.self.now in
    omega (
      arith,
      ap (λ x. x.break_count) c.info-total.ensures.value,
      break_count-le-length
          (breaks_of c.args.self.now) t,
      length-le-encodes t,
      c.info-total.ensures.kept.fits,
    )
