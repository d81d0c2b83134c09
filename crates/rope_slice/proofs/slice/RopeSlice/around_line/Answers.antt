use Rattle.rope_slice.proofs.InChunks.{in_single}
use Rattle.rope_slice.specs.Plain.{text_of}
use Rattle.rope_slice.proofs.slice.RopeSlice.around_line.Goals as goal

pub returns-in-Alone-clause-held : goal.returns-in-Alone-clause-held
returns-in-Alone-clause-held c =
    rw c.in-Alone.is (in_single (text_of c.in-Alone.plain) _ _ c.around_line-in-Alone.ensures.held)
