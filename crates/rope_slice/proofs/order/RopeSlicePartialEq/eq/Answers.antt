use Rattle.rope_slice.proofs.Comparing.{ties_tell, same_by_bytes}
use Rattle.rope_slice.specs.Slice.{text_of}
use Rattle.rope_slice.proofs.order.RopeSlicePartialEq.eq.Goals as goal

pub returns-then-len_bytes : goal.returns-then-len_bytes
returns-then-len_bytes c =
    let s = text_of c.args.self.now in
    let t = text_of c.args.other.now in
    same_by_bytes c.is_eq.result s t
    (ties_tell s t c.order.result c.is_eq.result c.order.ensures c.is_eq.ensures)
