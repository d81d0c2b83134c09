use Rattle.std.proofs.Common.{ap, ◌∙◌}
use Rattle.rope_text.specs.Sides.{at_start}
use Rattle.ropey.proofs.rope.Rope.chars.Goals as goal

pub returns : goal.returns
returns c = c.chars.ensures ∙ ap (λ x. at_start x.text) c.whole.ensures.content
