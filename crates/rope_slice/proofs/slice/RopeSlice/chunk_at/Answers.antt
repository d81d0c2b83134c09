use Rattle.std.proofs.Common.{◌≡◌, ◌+◌, ◌-◌, ◌∙◌, ℕ, min, length, refl, ap, sym, arith}
use Rattle.std.specs.Str.{chars}
use Rattle.rope_text.specs.Text.{byte_len}
use Rattle.rope_text.proofs.Measures.{IsMeasure-byte_len, size_le}
use Rattle.rope_text.proofs.Walks.{byte_len-chars}
use Rattle.rope_leaf.specs.Search.{count_of}
use Rattle.rope_slice.proofs.ChunkParts.{chars_of_part, boundary_of}
use Rattle.rope_slice.proofs.LeafParts.{LeafIn, leaf_in}
use Rattle.rope_slice.proofs.FoundChunks.{found_single}
use Rattle.rope_slice.proofs.Places.{small_end}
use Rattle.rope_slice.proofs.Kept.{excerpt_kept}
use Rattle.rope_slice.proofs.ChunksAt.{HoldsIt, some_in, place_in, holds_in, index_single}
use Rattle.rope_slice.proofs.slice.RopeSlice.chunk_at.Goals.{After-min-place, After-as_str-leaf, After-saturating_sub-from, After-min-to}
use Rattle.rope_slice.proofs.slice.RopeSlice.chunk_at.Goals as goal

pub count-requires : goal.count-requires
count-requires c = small_end _ _ _ _ c.in-InTree.excerpt.is_excerpt c.place.ensures.tree.fits

pub overflow_sub-count : goal.overflow_sub-count
overflow_sub-count c =
    let s = c.in-InTree.excerpt in
    let some =
    some_in s.node.now s.start s.end s.is_excerpt c.args.idx c.args.unit
    (rw c.in-InTree.is at c.requires) in
    omega (arith, some, c.count.ensures)

-- the index in the tree
place_is : (c : After-min-place) → let s = c.in-InTree.excerpt in
    c.min-place.result ≡ min (count_of c.args.unit s.start + c.args.idx)
    (count_of c.args.unit s.end - 1)
place_is c = rw (c.place.ensures.value, c.count.ensures) at c.min-place.ensures

holds : (c : After-as_str-leaf) → let s = c.in-InTree.excerpt in
    HoldsIt c.args.unit s.node.now s.start s.end c.at-found.result.1.leaf
    c.at-found.result.1.before c.args.idx
holds c =
    let s = c.in-InTree.excerpt in
    holds_in s.node.now s.start s.end s.is_excerpt c.args.idx c.min-place.result c.args.unit
    (rw c.in-InTree.is at c.requires)
    (rw (c.place.ensures.value, c.count.ensures) at c.min-place.ensures)
    c.at-found.result.1.leaf c.at-found.result.1.before c.place.ensures.tree
    c.at-found.ensures.found

pub at-found-requires-clause-within : goal.at-found-requires-clause-within
at-found-requires-clause-within c =
    let s = c.in-InTree.excerpt in
    place_in s.node.now s.start s.end s.is_excerpt c.args.idx c.min-place.result c.args.unit
    (rw c.in-InTree.is at c.requires)
    (place_is (goal.at.at-found-requires-clause-within c).After-min-place)

part : (c : After-as_str-leaf)
    → LeafIn c.in-InTree.excerpt.node.now c.in-InTree.excerpt.start c.in-InTree.excerpt.end
    c.at-found.result.1.leaf c.at-found.result.1.before
part c =
    let s = c.in-InTree.excerpt in
    let f = c.at-found.ensures.found in
    let h = holds c in
    leaf_in s.node.now s.start s.end c.at-found.result.1.leaf c.at-found.result.1.before
    c.place.ensures.tree s.is_excerpt f.index f.within f.leaf_is f.before_is h.starts h.ends

size : (c : After-as_str-leaf) → length c.as_str-leaf.result.now
    ≡ byte_len c.at-found.result.1.leaf
size c = sym (byte_len-chars c.as_str-leaf.result.now c.as_str-leaf.utf8)
    ∙ ap byte_len c.as_str-leaf.ensures.chars

pub overflow_sub-excerpt : goal.overflow_sub-excerpt
overflow_sub-excerpt c = (part (goal.at.overflow_sub-excerpt c).After-as_str-leaf).in_order

pub range-requires-clause-start_le_end : goal.range-requires-clause-start_le_end
range-requires-clause-start_le_end c =
    let p = part (goal.at.range-requires-clause-start_le_end c).After-as_str-leaf in
    let long = size (goal.at.range-requires-clause-start_le_end c).After-as_str-leaf in
    omega (
      arith,
      p.some,
      p.from_bytes,
      p.to_bytes,
      c.saturating_sub-from.ensures,
      c.min-to.ensures,
      size_le byte_len IsMeasure-byte_len c.at-found.result.1.leaf
          (c.in-InTree.excerpt.start.chars - c.at-found.result.1.before.chars)
          (c.in-InTree.excerpt.end.chars - c.at-found.result.1.before.chars) (omega arith),
    )

pub range-requires-clause-start_boundary : goal.range-requires-clause-start_boundary
range-requires-clause-start_boundary c =
    let p = part (goal.at.range-requires-clause-start_boundary c).After-as_str-leaf in
    λ _. boundary_of c.as_str-leaf.result.now c.at-found.result.1.leaf
    (c.in-InTree.excerpt.start.chars - c.at-found.result.1.before.chars)
    c.saturating_sub-from.result c.as_str-leaf.utf8 c.as_str-leaf.ensures.chars
    (c.saturating_sub-from.ensures ∙ sym p.from_bytes)

pub range-requires-clause-end_boundary : goal.range-requires-clause-end_boundary
range-requires-clause-end_boundary c =
    let p = part (goal.at.range-requires-clause-end_boundary c).After-as_str-leaf in
    let long = size (goal.at.range-requires-clause-end_boundary c).After-as_str-leaf in
    boundary_of c.as_str-leaf.result.now c.at-found.result.1.leaf
    (c.in-InTree.excerpt.end.chars - c.at-found.result.1.before.chars) c.min-to.result
    c.as_str-leaf.utf8 c.as_str-leaf.ensures.chars
    (omega (arith, c.min-to.ensures, p.to_bytes))

pub returns-in-InTree : goal.returns-in-InTree
returns-in-InTree c =
    let s = c.in-InTree.excerpt in
    let h = holds (goal.at.returns-in-InTree c).After-as_str-leaf in
    let p = part (goal.at.returns-in-InTree c).After-as_str-leaf in
    let long = size (goal.at.returns-in-InTree c).After-as_str-leaf in
    let i : ℕ = c.in-InTree.excerpt.start.chars - c.at-found.result.1.before.chars in
    let j : ℕ = c.in-InTree.excerpt.end.chars - c.at-found.result.1.before.chars in
    let some = p.some in
    rw c.in-InTree.is (rw (h.index_is
    (excerpt_kept s.node.now s.start s.end c.place.ensures.tree s.is_excerpt).cut.nonempty)
    (p.found _ _ _ _
    (chars_of_part c.as_str-leaf.result.now c.at-found.result.1.leaf c.range.result.now i j
    c.saturating_sub-from.result c.min-to.result c.as_str-leaf.utf8 c.as_str-leaf.ensures.chars
    (omega arith)
    (c.saturating_sub-from.ensures ∙ sym p.from_bytes) (omega (arith, c.min-to.ensures, p.to_bytes))
    c.range.ensures.value)
    c.since-passed.ensures.bytes c.since-passed.ensures.chars c.since-passed.ensures.break_count))

pub returns-in-Alone : goal.returns-in-Alone
returns-in-Alone c =
    rw c.in-Alone.is (found_single c.in-Alone.plain.breaks (chars c.in-Alone.plain.text.now)
    (chars c.in-Alone.plain.text.now) _
    (index_single c.args.unit c.in-Alone.plain.breaks (chars c.in-Alone.plain.text.now) c.args.idx
    (rw c.in-Alone.is at c.requires)) refl)
