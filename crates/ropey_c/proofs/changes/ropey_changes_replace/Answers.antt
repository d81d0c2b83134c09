use Rattle.std.proofs.Common.{ap}
use Rattle.std.specs.Prelude.{Some}
use Rattle.ropey_c.proofs.changes.ropey_changes_replace.Goals as goal

pub returns-clause-alters : goal.returns-clause-alters
returns-clause-alters c = let done = c.replace-status.ensures in
    rw (c.in-Some.ensures.taken, c.put.ensures, ← c.deref_mut.ensures.value)
    (done.status, done.err, done.ok)

pub returns-clause-empty : goal.returns-clause-empty
returns-clause-empty c = λ none same.
    rw (c.in-Some.ensures.taken, c.put.ensures, ← c.deref_mut.ensures.value) (λ order.
    let done = c.replace-status.ensures.empty none same order in (done.0, ap Some done.1))
