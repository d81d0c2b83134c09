use Rattle.std.proofs.lemmas.List.{length-take}
use Rattle.std.proofs.Common.{◌≡◌, ◌∙◌, ◌++◌, [], length, sym, take, ap, arith, tests, rules, fold}
use Rattle.std.specs.Hash as fed
use Rattle.std.specs.Str.{encode_utf8_all}
use Rattle.rope_text.specs.Compare.{blocks}
use Rattle.rope_slice.specs.Slice.{text_of}
use Rattle.rope_slice.proofs.Feeding.{feed_chunk, fed_last, fed_even}
use Rattle.rope_slice.proofs.Taken.{nothing_ahead}
use Rattle.rope_slice.proofs.hashing.RopeSliceHash.hash.Goals as goal
use Rattle.rope_slice.proofs.hashing.RopeSliceHash.hash.Goals.{then-held-gt0, else-held-gt0}

pub loop-piece-preserved : goal.loop-piece-preserved
loop-piece-preserved g c =
    let i = c.loop-piece.invariant in
    let piece = c.loop-piece.piece.now in
    let left = c.next_piece-piece.result.now ++ c.next_piece-piece.new.self in
    record {
      size = c.feed_piece-held.ensures.size;
      room = c.feed_piece-held.ensures.room;
      some = c.next_piece-piece.ensures.some;
      feeding =
          feed_chunk g.H.Hasher.write c.args.state.now c.loop-piece.state
          c.feed_piece-held.new.state (encode_utf8_all (text_of c.args.self.now))
          (take c.loop-piece.held c.loop-piece.block)
          (take c.feed_piece-held.result c.feed_piece-held.new.block) piece
          (piece ++ c.loop-piece.pieces) left
          i.feeding (ap (λ x. piece ++ x) (sym c.next_piece-piece.ensures.bytes))
          c.feed_piece-held.ensures.writes;
    }

pub returns : goal.returns
returns g c =
    let i = c.loop-piece.invariant in
    let write = g.H.Hasher.write in
    let all = encode_utf8_all (text_of c.args.self.now) in
    let left = c.loop-piece.piece.now ++ c.loop-piece.pieces in
    let empty : length c.loop-piece.piece.now ≡ 0 = search (rules, tests) in
    let none : left ≡ [] =
    nothing_ahead c.loop-piece.piece.now c.loop-piece.pieces empty (i.some empty) in
    let d : c.if-held-gt0.state ≡ fold write c.args.state.now (blocks all) =
    elim c.if-held-gt0.branch [
      | then-held-gt0 w ↦ w.state-is ∙ w.write.ensures
          ∙ fed_last write c.args.state.now c.loop-piece.state all c.loop-piece.block left
          c.loop-piece.held i.feeding none i.size w.if-held-gt0.true i.room
      | else-held-gt0 w ↦ w.state-is
          ∙ fed_even write c.args.state.now c.loop-piece.state all c.loop-piece.block left
          c.loop-piece.held i.feeding none (omega (arith, w.if-held-gt0.false))
    ] in
    fed.fed_then write _ _ _ (blocks all) (fed.u8 255) d c.write_u8.ensures

pub feed_piece-held-requires-clause-size : goal.feed_piece-held-requires-clause-size
feed_piece-held-requires-clause-size g c = c.loop-piece.invariant.size

pub feed_piece-held-requires-clause-room : goal.feed_piece-held-requires-clause-room
feed_piece-held-requires-clause-room g c = c.loop-piece.invariant.room

pub slice_bounds-write-end : goal.slice_bounds-write-end
slice_bounds-write-end g c =
    omega (
      arith,
      length-take c.loop-piece.held c.loop-piece.block,
      c.loop-piece.invariant.size,
      c.loop-piece.invariant.room,
    )

pub slice_bounds-block-end : goal.slice_bounds-block-end
slice_bounds-block-end g c = omega (arith, c.loop-piece.invariant.size, c.loop-piece.invariant.room)
