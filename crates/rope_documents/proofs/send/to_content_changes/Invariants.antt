-- The changes of the replacements so far, from the last one on, come after those of the others.
use Rattle.std.proofs.Common.{◌≡◌, ◌+◌, ◌++◌, length}
use Rattle.std.specs.Prelude.{map, reverse}
use Rattle.rope_changes.specs.Ops.{len_before}
use Rattle.rope_changes.specs.Change.{ops_of}
use Rattle.rope_documents.specs.Received.{text_change}
use Rattle.rope_documents.specs.Sent.{from_last, is_copy, is_widened, sent}
use Rattle.rope_documents.proofs.send.to_content_changes.Given as goal

abbrev pub invariant-loop-edit : goal.invariant-loop-edit
invariant-loop-edit l = record {
  list : sent l.encoding l.rope.breaks l.rope.text l.edits.end l.edits.edits
      ++ reverse (map text_change l.changes.items)
      ≡ sent l.encoding l.rope.breaks l.rope.text 0 l.change.edits;
  copies : from_last (is_widened l.rope.text) l.edits.end l.edits.edits
      ++ reverse (map is_copy l.changes.items)
      ≡ from_last (is_widened l.rope.text) 0 l.change.edits;
  within : l.edits.end + len_before (ops_of l.edits.edits l.change.rest) ≡ length l.rope.text;
}

abbrev pub decreases-loop-edit : goal.decreases-loop-edit
decreases-loop-edit l = length l.edits.edits
