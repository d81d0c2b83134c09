use Rattle.ropey_c.proofs.Bounds.{bounds_are}
use Rattle.ropey_c.proofs.replace.replace_chars.Goals as goal

pub returns-clause-status : goal.returns-clause-status
returns-clause-status c =
    let found = bounds_are _ _ _ _ _ c.in-Ok.ensures in (
      (λ none. absurd (none c.in-Some.ensures.1)),
      (λ _. rw (rw c.len_chars.ensures.value at found.0)
          (rw (found.1, found.2, c.in-Some.ensures.0) at c.exchange.ensures.status)),
    )

pub returns-clause-ok : goal.returns-clause-ok
returns-clause-ok c =
    let found = bounds_are _ _ _ _ _ c.in-Ok.ensures in
    λ ok. rw (found.1, found.2, c.in-Some.ensures.0) at c.exchange.ensures.ok ok
