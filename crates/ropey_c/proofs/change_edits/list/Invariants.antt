-- The replacements before those that are left have been written.
use Rattle.std.proofs.Common.{◌≡◌, length}
use Rattle.ropey_c.proofs.EditLists.{IsListing}
use Rattle.ropey_c.proofs.change_edits.list.Given as goal

abbrev pub invariant-loop-at : goal.invariant-loop-at
invariant-loop-at l = record {
  listing : IsListing l.changes.edits l.left.edits l.left.end l.left.new_end l.fn.edits l.edits
      l.at;
  all : l.count ≡ length l.changes.edits;
}

abbrev pub decreases-loop-at : goal.decreases-loop-at
decreases-loop-at l = length l.left.edits
