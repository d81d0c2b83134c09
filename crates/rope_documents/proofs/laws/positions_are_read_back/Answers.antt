use Rattle.rope_documents.proofs.Clamped.{clamped_returns}
use Rattle.rope_documents.proofs.laws.positions_are_read_back.Goals as goal

pub returns : goal.returns
returns c = λ encoding breaks text i within apart.
    clamped_returns breaks text i within apart encoding
