use Rattle.std.proofs.Common.{List, ℕ}
use Rattle.rope_text.specs.Sides.{ahead}
use Rattle.ropey_c.proofs.FileWriting.{next_fits, next_spelled, can_rest}
use Rattle.ropey_c.proofs.file_writing.fill_laid.Goals as goal

pub write_at-requires : goal.write_at-requires
write_at-requires c = rw c.spell-len.ensures.bytes
    (next_fits _ _ _ _ _ _ c.loop-c.invariant.spelled c.in-Some.c (ahead c.next.new.self)
    c.in-Some.ensures.steps c.requires.room)

pub loop-c-preserved : goal.loop-c-preserved
loop-c-preserved c =
    let more : List ℕ = ahead c.next.new.self in
    let written = rw c.spell-len.ensures.bytes at c.write_at.ensures in
    let count = rw c.spell-len.ensures.bytes at c.spell-len.ensures.count in
    record {
      spelled = rw count (next_spelled _ _ _ _ _ _ c.loop-c.invariant.spelled c.in-Some.c more
          c.in-Some.ensures.steps c.write_at.new.buffer written);
      can_spell = λ is. can_rest _ c.in-Some.c more c.in-Some.ensures.steps
          (c.loop-c.invariant.can_spell is);
    }
