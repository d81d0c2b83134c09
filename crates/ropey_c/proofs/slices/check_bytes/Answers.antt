use Rattle.std.proofs.Common.{refl}
use Rattle.ropey_c.proofs.slices.check_bytes.Goals as goal

pub returns : goal.returns
returns c = rw c.in-Ok.ensures.ok.0 refl
