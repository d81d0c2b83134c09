use Rattle.std.proofs.Common.{rules}
use Rattle.ropey_c.proofs.encodings.given_file_encoding.Goals as goal

pub returns-in-4 : goal.returns-in-4
returns-in-4 c = search rules
