use Rattle.std.proofs.Common.{◌≡◌, ◌-◌, take, drop, length, length-drop, arith, subst}
use Rattle.std.proofs.lemmas.List.{take_all}
use Rattle.rope_files.specs.Layouts.{BeginsWith}
use Rattle.rope_files.proofs.Decodings.{decoded_more}
use Rattle.rope_files.proofs.decode.decode.Goals as goal

pub loop-at-preserved : goal.loop-at-preserved
loop-at-preserved c =
    let bytes = c.args.bytes.now in
    let at = c.loop-at.at in
    let whole : take (length bytes - at)
    (drop at bytes) ≡ drop at bytes = take_all _ (drop at bytes)
    (omega (arith, length-drop at bytes)) in
    decoded_more c.args.layout bytes c.loop-at.piece.bytes c.push.new.self.bytes at c.in-Char.c
    c.in-Char.len c.loop-at.invariant
    (subst (λ xs. BeginsWith c.args.layout xs c.in-Char.c c.in-Char.len) whole c.in-Char.ensures)
    c.push.ensures.bytes
