use Rattle.std.proofs.Common.{◌∙◌}
use Rattle.std.proofs.lemmas.Str.{encodes_same}
use Rattle.rope_io.proofs.Exact.{exact}
use Rattle.rope_io.proofs.laws.reading_is_exact.Goals as goal

pub returns-clause-back : goal.returns-clause-back
returns-clause-back g c = λ written read bytes e f. encodes_same read written (f ∙ e)

pub returns-clause-exact : goal.returns-clause-exact
returns-clause-exact g c = λ text_of bytes left result a n. exact text_of bytes left result a n
