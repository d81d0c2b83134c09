use Rattle.std.proofs.Common.{refl}
use Rattle.ropey_c.proofs.texts.ropey_text_counts.Goals as goal

pub returns : goal.returns
returns c = rw (← c.in-Some.ensures) (
  λ none. absurd (none c.in-Some-text_of.ensures.1),
  λ _. (refl, rw c.in-Some-text_of.ensures.0 at c.counts_in.ensures),
)
