use Rattle.std.specs.Str.{encode_utf8_all, chars}
use Rattle.rope_slice.specs.Slice.{text_of}
use Rattle.rope_slice.specs.Rest.{bytes_ahead}
use Rattle.rope_slice.proofs.Kept.{chunks_join}
use Rattle.rope_slice.proofs.Showing.{show_more, shown, shown_styled}
use Rattle.rope_slice.proofs.Taken.{chunk_taken, none_taken}
use Rattle.std.proofs.Common.{◌≡◌, ◌∙◌, [], ap, refl, rules}
use Rattle.rope_slice.proofs.text_out.RopeSliceDisplay.fmt.Goals as goal

pub loop-chunk-preserved : goal.loop-chunk-preserved
loop-chunk-preserved g c =
    let now = c.loop-chunk.chunk-iterator in
    let next = c.next.new.self in
    let bytes = encode_utf8_all (chars c.in-Some.chunk.now) in
    show_more g.W.Write.write_str_gives c.args.f.now c.loop-chunk.f c.show_chunk.new.f
    (encode_utf8_all (text_of c.args.self.now)) (bytes_ahead now) bytes (bytes_ahead next)
    c.loop-chunk.invariant (chunk_taken now next _ bytes c.in-Some.ensures.steps refl)
    (λ h. c.in_ok-show_chunk.ensures.writes h refl) (λ h. c.in_ok-show_chunk.ensures.styled h refl)

pub returns-clause-writes : goal.returns-clause-writes
returns-clause-writes g c = λ p q.
    shown g.W.Write.write_str_gives c.args.f.now c.loop-chunk.f
    (encode_utf8_all (text_of c.args.self.now)) (bytes_ahead c.loop-chunk.chunk-iterator)
    c.loop-chunk.invariant
    (none_taken c.loop-chunk.chunk-iterator c.in-None.ensures.steps.0) p

pub returns-clause-styled : goal.returns-clause-styled
returns-clause-styled g c = λ p q.
    shown_styled g.W.Write.write_str_gives c.args.f.now c.loop-chunk.f
    (encode_utf8_all (text_of c.args.self.now)) (bytes_ahead c.loop-chunk.chunk-iterator)
    c.loop-chunk.invariant
    (none_taken c.loop-chunk.chunk-iterator c.in-None.ensures.steps.0) p

pub loop-chunk-init : goal.loop-chunk-init
loop-chunk-init g c =
    let whole : bytes_ahead c.into_iter-chunk-iterator.result
    ≡ encode_utf8_all (text_of c.args.self.now) =
    ap bytes_ahead (c.into_iter-chunk-iterator.ensures.into_iter_gives
    ∙ c.chunks-chunk-items.ensures) ∙ ap encode_utf8_all (chunks_join c.args.self.now) in
    record { front = []; whole = whole; plain = search rules; styled = search rules }
