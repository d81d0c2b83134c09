use Rattle.std.proofs.Common.{◌≡◌, ◌+◌, ◌++◌, List, ℕ, length, take, sym, ap, ◌∙◌, arith, fold, append_assoc, ◌-◌, ◌<◌, min}
use Rattle.std.proofs.lemmas.List.{take_all}
use Rattle.rope_text.specs.Compare.{blocks}
use Rattle.rope_slice.proofs.Feeding.{held_block, none_held, feed_block}
use Rattle.rope_slice.proofs.hashing.feed_piece.Goals.{then-held-gt0+else-held-count-lt-BLOCK_BYTES, else-held-gt0}
use Rattle.rope_slice.proofs.hashing.feed_piece.Goals as goal

pub loop-rest-init : goal.loop-rest-init
loop-rest-init g c =
    let write = g.H.Hasher.write in
    elim c.if-held-gt0.branch [
      | then-held-gt0+else-held-count-lt-BLOCK_BYTES w ↦
          let front = w.split_at.result.0.now in
          let block = w.put.new.block in
          let size : length block ≡ 256 = w.put.ensures.size ∙ c.requires.size in
          let whole : block ≡ take c.args.held c.args.block.now ++ front =
          sym (take_all (c.args.held + length front) block
          (omega (
            arith,
            size,
            w.split_at.ensures.front_len,
            w.min-count.ensures,
            w.if-held-count-lt-BLOCK_BYTES.false,
          ))) ∙ w.put.ensures.bytes in
          rw (w.state-is, w.rest-is, w.write.ensures)
          (held_block write c.args.state.now c.args.block.now block front w.split_at.result.1.now
          c.args.bytes.now c.args.held size whole w.split_at.ensures.by_index.0)
      | else-held-gt0 w ↦ rw (w.state-is, w.rest-is)
          (none_held write c.args.state.now c.args.block.now c.args.bytes.now c.args.held
          (omega (arith, w.if-held-gt0.false)))
    ]

pub loop-rest-preserved : goal.loop-rest-preserved
loop-rest-preserved g c =
    rw c.write-in-loop-rest.ensures
    (feed_block g.H.Hasher.write _ _ _ _ _ _ c.loop-rest.invariant
    c.split_at-in-loop-rest.ensures.by_index.0 c.split_at-in-loop-rest.ensures.front_len)

pub returns-clause-writes : goal.returns-clause-writes
returns-clause-writes g c = λ more.
    let write = g.H.Hasher.write in
    let size : length c.loop-rest.rest.now ≡ 0 + length c.loop-rest.rest.now = omega arith in
    ap (λ n. fold write c.loop-rest.state (blocks (take n c.put-2.new.block ++ more))) size
    ∙ ap (λ (xs : List ℕ). fold write c.loop-rest.state (blocks (xs ++ more))) c.put-2.ensures.bytes
    ∙ c.loop-rest.invariant.writes more
    ∙ ap (λ xs. fold write c.args.state.now (blocks xs))
    (append_assoc (take c.args.held c.args.block.now) c.args.bytes.now more)

-- bytes that don't fill the block are all put in
all_fit : (bytes front : List ℕ) (count room : ℕ) → front ≡ take count bytes
    → count ≡ min (length bytes) room → count < room → front ≡ bytes
all_fit bytes front count room is least less =
    is ∙ take_all count bytes (omega (arith, least, less))

pub overflow_sub-held : goal.overflow_sub-held
overflow_sub-held g c = omega (arith, c.requires.room)

pub returns-then-held-count-lt-BLOCK_BYTES-clause-size :
    goal.returns-then-held-count-lt-BLOCK_BYTES-clause-size
returns-then-held-count-lt-BLOCK_BYTES-clause-size g c = c.put.ensures.size ∙ c.requires.size

pub returns-then-held-count-lt-BLOCK_BYTES-clause-writes :
    goal.returns-then-held-count-lt-BLOCK_BYTES-clause-writes
returns-then-held-count-lt-BLOCK_BYTES-clause-writes g c =
    λ more.
    let write = g.H.Hasher.write in
    let front = c.split_at.result.0.now in
    let all : front ≡ c.args.bytes.now =
    all_fit c.args.bytes.now front c.min-count.result (256 - c.args.held) c.split_at.ensures.front
    c.min-count.ensures (omega (arith, c.if-held-count-lt-BLOCK_BYTES.true)) in
    let size : c.args.held + c.min-count.result ≡ c.args.held + length front =
    omega (arith, ap length all, c.min-count.ensures, c.if-held-count-lt-BLOCK_BYTES.true) in
    let kept : take (c.args.held + c.min-count.result) c.put.new.block
    ≡ take c.args.held c.args.block.now ++ c.args.bytes.now =
    ap (λ n. take n c.put.new.block) size ∙ c.put.ensures.bytes
    ∙ ap (λ xs. take c.args.held c.args.block.now ++ xs) all in
    ap (λ xs. fold write c.args.state.now (blocks xs))
    (ap (λ (xs : List ℕ). xs ++ more) kept
    ∙ append_assoc (take c.args.held c.args.block.now) c.args.bytes.now more)
