use Rattle.std.proofs.Common.{refl}
use Rattle.std.specs.Str.{chars}
use Rattle.rope_changes.proofs.change_set.ChangeSet.push_deleted.Goals as goal

pub push-requires-clause-counted : goal.push-requires-clause-counted
unfolding chars
push-requires-clause-counted c = refl

pub returns-clause-ok : goal.returns-clause-ok
unfolding chars
returns-clause-ok c = c.push.ensures.ok
