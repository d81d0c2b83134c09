use Rattle.std.proofs.Common.{rules}
use Rattle.ropey_c.proofs.encodings.number_of_encoding.Goals as goal

pub returns-in-Utf8Bom : goal.returns-in-Utf8Bom
returns-in-Utf8Bom c = search rules
