use Rattle.std.proofs.Common.{◌-◌, ap, get_or, sym, ◌∙◌, Some}
use Rattle.rope_tree.proofs.FoundLaws.{found_byte}
use Rattle.rope_tree.proofs.lookup.byte_at.Goals as goal

pub bounds-bytes-byte_idx : goal.bounds-bytes-byte_idx
bounds-bytes-byte_idx c =
    let f = found_byte c.args.byte_idx c.args.node.now c.leaf_at-found.result.leaf
    c.leaf_at-found.result.before c.leaf_at-found.ensures.found in
    let e = c.as_bytes-bytes.ensures.value ∙ c.as_str.ensures.bytes in
    rw e f.0

pub returns-clause-value : goal.returns-clause-value
returns-clause-value c =
    let f = found_byte c.args.byte_idx c.args.node.now c.leaf_at-found.result.leaf
    c.leaf_at-found.result.before c.leaf_at-found.ensures.found in
    let e = c.as_bytes-bytes.ensures.value ∙ c.as_str.ensures.bytes in
    f.1 ∙ ap (λ bs. Some (get_or bs (c.args.byte_idx - c.leaf_at-found.result.before.bytes) 0))
    (sym e)
