use Rattle.rope_changes.proofs.Associative.{composed_twice}
use Rattle.rope_changes.proofs.laws.compositions_associate.Goals as goal

pub returns : goal.returns
returns c = composed_twice
