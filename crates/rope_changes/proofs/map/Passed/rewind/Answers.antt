use Rattle.rope_changes.proofs.map.Passed.rewind.Goals as goal

pub returns-then-char_idx-self-clause-reaches : goal.returns-then-char_idx-self-clause-reaches
returns-then-char_idx-self-clause-reaches c = c.new.ensures.reaches c.args.char_idx
