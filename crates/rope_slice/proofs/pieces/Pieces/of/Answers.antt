use Rattle.std.proofs.Common.{◌≡◌, ◌-◌, ◌<◌, length, drop, ap, sym, ◌∙◌, arith}
use Rattle.std.specs.Str.{encode_utf8_all}
use Rattle.rope_text.specs.Text.{byte_len}
use Rattle.rope_slice.proofs.Measured.{measured}
use Rattle.rope_slice.proofs.PiecesAhead.{bytes_of, starts_here, excerpt_bytes, some_here, solid_after, none_left}
use Rattle.rope_slice.proofs.pieces.Pieces.of.Goals.{After-split_at-in-InTree}
use Rattle.rope_slice.proofs.pieces.Pieces.of.Goals as goal

front_is : (c : After-split_at-in-InTree)
    → c.split_at.result.1.now
    ≡ drop (c.in-InTree.excerpt.start.bytes - c.at-path.result.1.before.bytes)
    (encode_utf8_all c.at-path.result.0.here)
front_is c = c.split_at.ensures.back
    ∙ ap (drop (c.in-InTree.excerpt.start.bytes - c.at-path.result.1.before.bytes))
    ((bytes_of c.leaf.result.now c.as_bytes.result.now c.as_bytes.ensures.utf8
    c.as_bytes.ensures.value) ∙ ap encode_utf8_all c.leaf.ensures)

pub overflow_sub-size : goal.overflow_sub-size
overflow_sub-size c = let m = measured _ _ _ _ c.in-InTree.excerpt.is_excerpt in
    omega (arith, m.some_bytes)

pub at-path-requires-clause-within : goal.at-path-requires-clause-within
at-path-requires-clause-within c = let m = measured _ _ _ _ c.in-InTree.excerpt.is_excerpt in
    omega (arith, m.some_bytes, m.all_bytes)

pub split_at-requires : goal.split_at-requires
split_at-requires c =
    let s = c.in-InTree.excerpt in
    let h = c.at-path.ensures in
    omega (
      arith,
      ap length (bytes_of c.leaf.result.now c.as_bytes.result.now
          c.as_bytes.ensures.utf8 c.as_bytes.ensures.value),
      ap byte_len c.leaf.ensures,
      starts_here s.node.now s.start s.end c.at-path.result.0 c.at-path.result.1.before
          s.is_low.tree s.is_excerpt h.leaves h.holds,
    )

pub invariant_of-result : goal.invariant_of-result
invariant_of-result c =
    let s = c.in-InTree.excerpt in
    let h = c.at-path.ensures in
    solid_after s.node.now s.start s.end c.at-path.result.0 c.at-path.result.1.before s.is_low.tree
    s.is_excerpt h.leaves h.holds

pub returns-in-InTree-clause-bytes : goal.returns-in-InTree-clause-bytes
returns-in-InTree-clause-bytes c =
    let s = c.in-InTree.excerpt in
    let h = c.at-path.ensures in
    let front = front_is (goal.at.returns-in-InTree-clause-bytes c).After-split_at-in-InTree in
    rw (c.in-InTree.is, c.split_at-in-InTree.ensures.front, front)
    (excerpt_bytes s.node.now s.start s.end c.at-path.result.0 c.at-path.result.1.before
    s.is_low.tree s.is_excerpt h.leaves h.holds c.min-count.result
    (rw front at c.min-count.ensures))

pub returns-in-InTree-clause-some : goal.returns-in-InTree-clause-some
returns-in-InTree-clause-some c none =
    let s = c.in-InTree.excerpt in
    let h = c.at-path.ensures in
    let front = front_is (goal.at.returns-in-InTree-clause-some c).After-split_at-in-InTree in
    let some : 0 < length c.split_at.result.1.now =
    rw front (some_here s.node.now s.start s.end c.at-path.result.0 c.at-path.result.1.before
    s.is_low.tree s.is_excerpt h.leaves h.holds) in
    none_left c.split_at.result.1.now _ (s.end.bytes - s.start.bytes) c.min-count.result
    c.min-count.ensures some (ap length (sym c.split_at-in-InTree.ensures.front) ∙ none)

pub overflow_sub-start : goal.overflow_sub-start
overflow_sub-start c = c.at-path.ensures.holds.not_past

pub split_at-requires-in-InTree : goal.split_at-requires-in-InTree
split_at-requires-in-InTree c = omega (arith, c.min-count.ensures)

pub overflow_sub-left : goal.overflow_sub-left
overflow_sub-left c = omega (arith, c.min-count.ensures)

pub returns-in-Alone-clause-bytes : goal.returns-in-Alone-clause-bytes
returns-in-Alone-clause-bytes c = rw c.in-Alone.is c.of_text.ensures.bytes

pub returns-in-Alone-clause-some : goal.returns-in-Alone-clause-some
returns-in-Alone-clause-some c = c.of_text.ensures.some
