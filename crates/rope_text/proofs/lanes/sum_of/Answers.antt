use Rattle.std.proofs.Common.{ℕ, List, map, ap, arith}
use Rattle.std.proofs.lemmas.List.{map-id}
use Rattle.std.proofs.lemmas.Simd.{sum_fits, fold-sum, sum_bound, bytes_below}
use lib.Lanes.{sum_l}
use mir.Syntax.{w16}
use Rattle.rope_text.proofs.lanes.sum_of.Goals as goal

abbrev widened : List ℕ → List ℕ
widened xs = map (λ x. x) xs

pub overflow_add-result : goal.overflow_add-result
overflow_add-result c =
    let xs = c.args.lanes in
    let low = bytes_below xs c.fits-lanes.1 in
    sum_fits w16 0 (widened xs)
    (omega (arith, ap sum_l (map-id xs), sum_bound 255 xs low, c.fits-lanes.0))

pub returns : goal.returns
returns c = omega (arith, fold-sum 0 (widened c.args.lanes), ap sum_l (map-id c.args.lanes))
