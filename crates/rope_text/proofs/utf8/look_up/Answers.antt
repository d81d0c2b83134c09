use Rattle.std.proofs.Common.{refl, arith, w8}
use Rattle.std.proofs.lemmas.Simd.{SwzOk-from_below}
use Rattle.rope_text.proofs.Utf8Tables.{looked_up}
use Rattle.rope_text.proofs.utf8.look_up.Goals as goal

pub swizzle : goal.swizzle
swizzle c =
    SwzOk-from_below w8 16 4 64 0 c.args.places refl (omega (arith, c.fits-places.0)) c.requires

pub returns : goal.returns
returns c =
    λ ks g long small places. looked_up c.args.table c.repeated.result ks g c.args.places long
    small c.repeated.ensures places
