use Rattle.std.proofs.Common.{Err, inl, inr}
use Rattle.ropey_c.specs.declared.encodings.Fault.TheVariants.{OutOfMemory}
use Rattle.ropey_c.proofs.file_reading.ropey_from_bytes_as.Goals as goal

pub returns : goal.returns
returns c = rw (← c.in-Some.ensures, ← c.in-Some-encoding_of_bytes.ensures) (elim c.report.ensures [
  | inl reports ↦ (c.read-read.result, c.read-read.ensures, reports)
  | inr memory ↦ (Err OutOfMemory, tt, memory)
])
