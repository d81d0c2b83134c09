use Rattle.std.proofs.Common.{◌+◌, ◌<◌, ◌^◌, refl, arith}
use Rattle.rope_documents.proofs.send.content_change.Goals as goal

pub overflow_add-end : goal.overflow_add-end
overflow_add-end c =
    let less = rw c.if-has_lf.true at c.is_inside_crlf-has_lf.ensures.less in
    let fits : c.args.edit.now.end + 1 < 2 ^ 64 = less refl in
    omega arith
