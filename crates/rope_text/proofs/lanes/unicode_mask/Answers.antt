use Rattle.std.proofs.Common.{◌+◌, eqb, get_or, drop, sym, ap, ◌∙◌, arith}
use Rattle.std.specs.List.{range_with_len}
use Rattle.std.proofs.lemmas.List.FromFn.{length-range_with_len}
use Rattle.rope_text.specs.declared.line_breaks.LineBreaks.TheVariants.{Unicode}
use Rattle.rope_text.specs.ByteBreaks.{byte_break_count}
use Rattle.rope_text.proofs.Blocks.{byte_break_count-block}
use Rattle.rope_text.proofs.Marks.{compared, set_where, both, either, counted_from, loaded, loaded_from}
use Rattle.rope_text.proofs.lanes.unicode_mask.Goals as goal

pub returns : goal.returns
returns c = λ n few.
    let s = c.args.bytes.now in
    let i = c.args.at in
    let long = length-range_with_len i 32 in
    let x = loaded s i 32 (omega arith) in
    let y = loaded_from s i 1 32 (omega arith) in
    let z = loaded_from s i 2 32 (omega arith) in
    let low =
    c.ones.ensures (range_with_len i 32) (λ k. get_or s k 0) (λ k. get_or s (k + 1) 0) long
    (λ k. (c.type_inv.bytes k).fits) x y in
    let nel = both (compared eqb 194 32 long x) (compared eqb 133 32 long y) in
    let separator = either (compared eqb 168 32 long z) (compared eqb 169 32 long z) in
    let ls_or_ps =
    both (compared eqb 226 32 long x) (both (compared eqb 128 32 long y) separator) in
    byte_break_count-block Unicode s i n (omega arith)
    ∙ ap (λ k. k + byte_break_count Unicode (drop (i + n) s))
    (sym (counted_from i n few (omega arith)
    (either (set_where 32 long low) (either nel ls_or_ps))))
