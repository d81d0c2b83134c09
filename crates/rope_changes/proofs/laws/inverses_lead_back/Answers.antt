use Rattle.rope_changes.proofs.InvertedLaws.{leads_back}
use Rattle.rope_changes.proofs.laws.inverses_lead_back.Goals as goal

pub returns : goal.returns
returns c = λ change text fits. leads_back change.edits change.rest text fits
