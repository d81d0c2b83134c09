use Rattle.std.proofs.Common.{arith}
use Rattle.rope_leaf.proofs.Infos.{small_info}
use Rattle.rope_slice.specs.Slice.{text_of, breaks_of}
use Rattle.rope_slice.proofs.Ends.{end_fits}
use Rattle.rope_slice.proofs.slice.RopeSlice.try_convert.Goals as goal

pub count-requires : goal.count-requires
count-requires c =
    rw c.info.ensures.value (small_info (breaks_of c.args.self.now) (text_of c.args.self.now)
    c.info.ensures.kept.fits)

pub overflow_add-len : goal.overflow_add-len
overflow_add-len c =
    let small =
    small_info (breaks_of c.args.self.now) (text_of c.args.self.now) c.info.ensures.kept.fits in
    omega (arith, end_fits c.args.from c.info.result (rw c.info.ensures.value small))
