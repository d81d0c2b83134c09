use Rattle.std.proofs.Common.{◌≡◌}
use Rattle.ropey_c.specs.declared.status.TheConstants.{OK}
use Rattle.ropey_c.proofs.EditLists.{later_status}
use Rattle.ropey_c.proofs.change_edits.ropey_changes_of_edits.Goals as goal

pub returns-clause-status : goal.returns-clause-status
returns-clause-status c = λ _.
    let done : c.replace_all-status.result ≡ OK = c.if-status-ne-OK.false in
    rw c.in-Ok.ensures.keeps at
    (later_status c.in-Ok.value c.args.edits.now c.keep.result c.keep.ensures.status
    (rw done at c.replace_all-status.ensures.status))
