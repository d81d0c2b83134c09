use Rattle.std.proofs.Common.{◌-◌, ◌<◌, List, ℕ, All, ap, subst, sym, length, refl, arith}
use Rattle.std.specs.Str.{encode_utf8_all}
use Rattle.rope_text.proofs.SidesPlaces.{sides_at}
use Rattle.rope_slice.specs.Slice.{text_of}
use Rattle.rope_slice.specs.Point.{IsChunkAt}
use Rattle.rope_slice.proofs.ByteCursors as step
use Rattle.rope_slice.proofs.slice.RopeSlice.bytes_at.Goals as goal

pub invariant_of-result : goal.invariant_of-result
invariant_of-result c =
    let e = c.holding-span.ensures in
    let t = text_of c.args.self.now in
    let p = c.holding-span.result.0 in
    let before = c.holding-span.result.1.bytes in
    let chunk : IsChunkAt p c.chunk-chunk.result.now =
    record { utf8 = c.chunk-chunk.utf8; here = c.chunk-chunk.ensures } in
    step.cursor_at t p e.text c.chunk-chunk.result.now chunk (c.args.byte_idx - before) before
    c.info-total.result.bytes e.before.bytes_are (omega (arith, e.within))
    (ap (λ i. i.bytes) c.info-total.ensures.value)
    (λ (some : 0 < length t). subst (λ (xs : List (List ℕ)). All (λ leaf. 0 < length leaf) xs)
    (sym (e.chunks some)) c.info-total.ensures.kept.cut.nonempty)

pub returns : goal.returns
returns c =
    let e = c.holding-span.ensures in
    let t = text_of c.args.self.now in
    let p = c.holding-span.result.0 in
    let at : ℕ = c.args.byte_idx - c.holding-span.result.1.bytes in
    let chunk : IsChunkAt p c.chunk-chunk.result.now =
    record { utf8 = c.chunk-chunk.utf8; here = c.chunk-chunk.ensures } in
    let items = step.items_at t p e.text c.chunk-chunk.result.now chunk at in
    let place =
    step.place_at t p e.text c.chunk-chunk.result.now chunk at c.args.byte_idx
    (omega (arith, e.before.bytes_are, e.starts)) (omega (arith, e.within)) in
    sides_at _ (encode_utf8_all t) c.args.byte_idx items place refl
