use Rattle.std.proofs.Common.{ap}
use Rattle.std.specs.Prelude.{Some}
use Rattle.ropey_c.proofs.char_edits.ropey_insert.Goals as goal

pub returns-clause-changes : goal.returns-clause-changes
returns-clause-changes c = let done = c.insert-status.ensures in
    rw (c.in-Some.ensures.taken, c.put.ensures, ← c.deref_mut.ensures.value)
    (done.status, done.err, λ ok. (done.ok ok, done.breaks))

pub returns-clause-empty : goal.returns-clause-empty
returns-clause-empty c = λ none.
    rw (c.in-Some.ensures.taken, c.put.ensures, ← c.deref_mut.ensures.value) (λ fine.
    let done = c.insert-status.ensures.empty none fine in (done.0, ap Some done.1))
