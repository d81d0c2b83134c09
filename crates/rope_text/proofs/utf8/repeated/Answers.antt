use Rattle.rope_text.proofs.Utf8Tables.{spread}
use Rattle.rope_text.proofs.utf8.repeated.Goals as goal

pub returns : goal.returns
returns c = spread c.args.table c.fits-table.0
