use Rattle.rope_slice.proofs.slice.RopeSlice.lines_at.Goals as goal

pub returns : goal.returns
returns c = c.lines_and_counts_at.ensures.lines
