use Rattle.std.proofs.Common.{rules}
use Rattle.ropey_c.proofs.builders.ropey_builder_new.Goals as goal

pub returns : goal.returns
returns c = search rules
