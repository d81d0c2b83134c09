-- Each turn writes one replacement.
use Rattle.std.proofs.Common.{◌≡◌, suc, length, ap}
use Rattle.ropey_c.specs.ChangeEdits.{shown_of}
use Rattle.ropey_c.proofs.EditLists.{next_listed, next_written, shown_edit}
use Rattle.ropey_c.proofs.change_edits.list.Goals as goal

pub loop-at-preserved : goal.loop-at-preserved
loop-at-preserved c =
    let i = c.loop-at.invariant.listing in
    let new = c.next.new.self in
    let next = c.in-Some.ensures in
    let splits = next_listed c.loop-at.left c.in-Some.edit new next in
    let one : length c.loop-at.left.edits ≡ suc (length new.edits) = ap length next.edits in
    let is : shown_of c.shown.result ≡ shown_edit c.in-Some.edit = cc in
    record {
      listing = next_written _ _ _ _ _ _ _ _ _ _ i (shown_edit c.in-Some.edit) splits one
          c.shown.result is c.loop-at-test.true;
      all = c.loop-at.invariant.all;
    }
