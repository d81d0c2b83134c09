use Rattle.std.proofs.Common.{subst, sym, arith}
use Rattle.rope_files.specs.Layouts.{BeginsWith}
use Rattle.rope_files.proofs.Fronts.{begins_byte}
use Rattle.rope_files.proofs.layout.front_char.Goals as goal

pub returns-in-Bytes : goal.returns-in-Bytes
returns-in-Bytes c =
    let low = c.type_inv.bytes 0 in
    subst (λ l. BeginsWith l c.args.bytes.now c.from.result 1) (sym c.in-Bytes.is)
    (begins_byte c.args.bytes.now c.from.result (omega arith) (omega arith) (omega arith))
