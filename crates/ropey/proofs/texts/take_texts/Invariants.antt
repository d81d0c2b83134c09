-- The texts passed in are those that the iterator yielded.
use Rattle.std.specs.Iterator.{IsFinite, size}
use Rattle.ropey.proofs.TextsGiven.{Appended}
use Rattle.ropey.proofs.texts.take_texts.Given as goal

abbrev pub invariant-loop-text : goal.invariant-loop-text
invariant-loop-text g l = record {
  can_next : g.I.Iterator.can_next l.texts;
  is_finite : IsFinite (g.I.Iterator.remaining l.texts);
  appended : Appended g.I.Iterator.next_gives g.T.AsStr.text l.initial.texts l.texts l.builder;
}

abbrev pub decreases-loop-text : goal.decreases-loop-text
decreases-loop-text g l = size (g.I.Iterator.remaining l.texts)
