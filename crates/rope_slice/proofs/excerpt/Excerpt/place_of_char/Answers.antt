use Rattle.std.proofs.Common.{arith}
use Rattle.rope_tree.proofs.FoundLaws.{found_char}
use Rattle.rope_slice.proofs.Measured.{measured}
use Rattle.rope_slice.proofs.excerpt.Excerpt.place_of_char.Goals as goal

pub leaf_at-found-requires-clause-within : goal.leaf_at-found-requires-clause-within
leaf_at-found-requires-clause-within c =
    let m = measured _ _ _ _ c.args.self.now.is_excerpt in
    omega (arith, c.place-place.ensures.value, c.requires)

pub overflow_sub-chars : goal.overflow_sub-chars
overflow_sub-chars c = c.leaf_at-found.ensures.found.not_past

pub char_to_byte_idx-bytes-requires : goal.char_to_byte_idx-bytes-requires
char_to_byte_idx-bytes-requires c =
    let within =
    found_char c.place-place.result c.args.self.now.node.now c.leaf_at-found.result.leaf
    c.leaf_at-found.result.before c.leaf_at-found.ensures.found in
    omega (arith, within.0)

pub returns-clause-place : goal.returns-clause-place
returns-clause-place c = record {
  found = rw c.place-place.ensures.value at c.leaf_at-found.ensures.found;
  place = omega (arith, c.place-place.ensures.value, c.leaf_at-found.ensures.found.not_past);
  bytes_are = c.char_to_byte_idx-bytes.ensures.value;
}

pub returns-clause-inside : goal.returns-clause-inside
returns-clause-inside c = c.leaf_at-found.ensures.inside
