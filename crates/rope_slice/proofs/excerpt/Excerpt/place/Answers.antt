use Rattle.std.proofs.Common.{arith}
use Rattle.rope_slice.proofs.Places.{small_start, place_fits}
use Rattle.rope_slice.proofs.excerpt.Excerpt.place.Goals as goal

pub count-requires : goal.count-requires
count-requires c = small_start _ _ _ _ c.args.self.now.is_excerpt c.args.self.now.is_low.tree.fits

pub overflow_add-result : goal.overflow_add-result
overflow_add-result c =
    omega (
      arith,
      c.count.ensures,
      place_fits _ _ _ _ c.args.self.now.is_excerpt
          c.args.self.now.is_low.tree.fits c.args.unit c.args.idx c.requires,
    )
