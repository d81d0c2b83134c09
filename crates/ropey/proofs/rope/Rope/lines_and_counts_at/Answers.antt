use Rattle.std.proofs.Common.{ap, ◌∙◌}
use Rattle.rope_slice.specs.Edge.{line_info}
use Rattle.ropey.proofs.rope.Rope.lines_and_counts_at.Goals as goal

pub returns-clause-lines : goal.returns-clause-lines
returns-clause-lines c = rw c.whole.ensures.content at c.lines_and_counts_at.ensures.lines

pub returns-clause-counts : goal.returns-clause-counts
returns-clause-counts c = c.lines_and_counts_at.ensures.counts
    ∙ ap (λ x. line_info x.breaks x.text c.args.line_idx) c.whole.ensures.content
