use Rattle.std.proofs.Common.{◌-◌, arith}
use Rattle.rope_text.proofs.BitLaws.{mark_back, ones_more}
use Rattle.rope_text.proofs.bits.mark_from_end.Goals as goal

pub place_of_mark-requires : goal.place_of_mark-requires
place_of_mark-requires c =
    omega (
      arith,
      c.ones_before.ensures,
      c.requires.some,
      ones_more c.args.mask c.args.len (32 - c.args.len) 32 (omega (arith, c.requires.len)),
    )

pub returns : goal.returns
returns c =
    let place = c.place_of_mark in
    let found =
    mark_back c.args.mask c.args.len c.args.left place.result c.requires.some
    (omega (arith, c.ones_before.ensures, place.ensures.before))
    (omega (arith, c.ones_before.ensures, place.ensures.after)) in
    record { bound = found.0; before = found.1; with_it = found.2 }
