use Rattle.std.proofs.Common.{◌≡◌, ◌-◌, ◌<◌, ◌∙◌, List, ℕ, All, ap, subst, sym, length, refl, arith}
use Rattle.std.specs.List.{concat}
use Rattle.std.specs.Str.{chars}
use Rattle.rope_text.specs.Conversions.{char_to_byte}
use Rattle.rope_slice.specs.Slice.{text_of}
use Rattle.rope_text.proofs.SidesPlaces.{sides_at}
use Rattle.rope_slice.specs.Point.{IsChunkAt}
use Rattle.rope_slice.proofs.CharCursors as step
use Rattle.rope_slice.proofs.slice.RopeSlice.chars_at.Goals.{After-chunk-chunk}
use Rattle.rope_slice.proofs.slice.RopeSlice.chars_at.Goals as goal

chunk_is : (c : After-chunk-chunk) → IsChunkAt c.at-span.result.0 c.chunk-chunk.result.now
chunk_is c = record { utf8 = c.chunk-chunk.utf8; here = c.chunk-chunk.ensures }

byte_is : (c : After-chunk-chunk) → c.at-span.result.1
    ≡ char_to_byte (chars c.chunk-chunk.result.now)
    (c.args.char_idx - length (concat c.at-span.result.0.before))
byte_is c = c.at-span.ensures.byte
    ∙ ap (λ t. char_to_byte t (c.args.char_idx - length (concat c.at-span.result.0.before)))
    (sym c.chunk-chunk.ensures)

pub invariant_of-result : goal.invariant_of-result
invariant_of-result c =
    let d = (goal.at.invariant_of-result c).After-chunk-chunk in
    let e = c.at-span.ensures in
    let t = text_of c.args.self.now in
    let p = c.at-span.result.0 in
    step.cursor_at t p e.text c.chunk-chunk.result.now (chunk_is d) c.at-span.result.1
    (c.args.char_idx - length (concat p.before)) (byte_is d) c.args.char_idx
    c.info-info.result.chars (omega (arith, e.starts)) (omega (arith, e.within))
    (ap (λ i. i.chars) c.info-info.ensures.value)
    (λ (some : 0 < length t). subst (λ (xs : List (List ℕ)). All (λ leaf. 0 < length leaf) xs)
    (sym (e.chunks some)) c.info-info.ensures.kept.cut.nonempty)

pub returns : goal.returns
returns c =
    let d = (goal.at.returns c).After-chunk-chunk in
    let e = c.at-span.ensures in
    let t = text_of c.args.self.now in
    let p = c.at-span.result.0 in
    let within : ℕ = c.args.char_idx - length (concat p.before) in
    let items =
    step.items_at t p e.text c.chunk-chunk.result.now (chunk_is d) c.at-span.result.1 within
    (byte_is d) in
    let place =
    step.place_at t p e.text c.chunk-chunk.result.now (chunk_is d) c.at-span.result.1 within
    (byte_is d) c.args.char_idx (omega (arith, e.starts)) (omega (arith, e.within)) in
    sides_at _ t c.args.char_idx items place refl
