-- The characters before those that are left have been written, and Latin-1 has the others.
use Rattle.std.proofs.Common.{◌≡◌, length}
use Rattle.rope_text.specs.Sides.{ahead}
use Rattle.rope_files.specs.declared.encoding.Encoding.TheVariants.{Latin1}
use Rattle.ropey_c.proofs.FileWriting.{IsSpelled, CanSpell}
use Rattle.ropey_c.proofs.file_writing.fill_laid.Given as goal

abbrev pub invariant-loop-c : goal.invariant-loop-c
invariant-loop-c l = record {
  spelled : IsSpelled l.encoding l.fn.buffer l.buffer l.rope.text (ahead l.c-iterator) l.at;
  can_spell : l.encoding ≡ Latin1 → CanSpell (ahead l.c-iterator);
}

abbrev pub decreases-loop-c : goal.decreases-loop-c
decreases-loop-c l = length (ahead l.c-iterator)
