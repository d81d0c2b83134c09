use Rattle.std.proofs.Common.{rules}
use Rattle.ropey_c.proofs.slices.ropey_byte_slice_with_before.Goals as goal

pub returns-in-Some-part_at_byte-clause-answer : goal.returns-in-Some-part_at_byte-clause-answer
returns-in-Some-part_at_byte-clause-answer c = search rules
