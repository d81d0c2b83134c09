use Rattle.std.proofs.Common.{arith}
use Rattle.ropey_c.proofs.Before.{before_line, units_fit}
use Rattle.ropey_c.proofs.slices.before_line.Goals as goal

pub overflow_add-result : goal.overflow_add-result
overflow_add-result c =
    let rope = c.args.rope.now in
    let fits =
    units_fit rope.breaks rope.text c.args.line_idx c.args.front c.requires
    c.len_bytes.ensures.kept.content.fits in
    omega (arith, fits)

pub returns : goal.returns
returns c =
    before_line c.args.rope.now.breaks c.args.rope.now.text c.args.line_idx c.args.front c.requires
