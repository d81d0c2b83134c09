use Rattle.std.proofs.Common.{◌≡◌, ◌+◌, ◌-◌, ◌∙◌, true, refl, ap, arith}
use Rattle.rope_text.specs.Conversions.{byte_to_char}
use Rattle.rope_text.specs.Edit.{is_char_boundary}
use Rattle.rope_slice.proofs.LeafPlaces.{ByteAt, byte_at, cut_of_boundary, boundary_of_cut}
use Rattle.rope_slice.proofs.Measured.{measured}
use Rattle.rope_slice.proofs.excerpt.Excerpt.place_of_byte.Goals.{After-leaf_at-found, Else-not-is_char_boundary}
use Rattle.rope_slice.proofs.excerpt.Excerpt.place_of_byte.Goals as goal

pub leaf_at-found-requires-clause-within : goal.leaf_at-found-requires-clause-within
leaf_at-found-requires-clause-within c = let m = measured _ _ _ _ c.args.self.now.is_excerpt in
    omega (arith, c.place-place.ensures.value, m.bytes, m.all_bytes, c.requires)

at : (c : After-leaf_at-found)
    → ByteAt c.args.self.now.node.now c.args.self.now.start c.args.self.now.end
    c.leaf_at-found.result.leaf c.leaf_at-found.result.before c.args.byte_idx
at c =
    let s = c.args.self.now in
    byte_at s.node.now s.start s.end c.leaf_at-found.result.leaf c.leaf_at-found.result.before
    c.args.byte_idx s.is_low.tree s.is_excerpt c.requires
    (rw c.place-place.ensures.value at c.leaf_at-found.ensures.found)

pub returns-then-not-is_char_boundary-clause-whole :
    goal.returns-then-not-is_char_boundary-clause-whole
returns-then-not-is_char_boundary-clause-whole c =
    let here =
    at (goal.at.returns-then-not-is_char_boundary-clause-whole c).After-leaf_at-found in (
      (λ h. absurd (cc)),
      (λ h. (c.if-not-is_char_boundary.ensures.test.1
          (rw c.place-place.ensures.value
          (cut_of_boundary c.as_str-leaf.result.now c.leaf_at-found.result.leaf _ c.as_str-leaf.utf8
          c.as_str-leaf.ensures.chars (here.whole.0 h))))),
    )

-- the leaf may be cut there
begins : (c : Else-not-is_char_boundary)
    → is_char_boundary c.leaf_at-found.result.leaf
    ((c.args.self.now.start.bytes + c.args.byte_idx) - c.leaf_at-found.result.before.bytes) ≡ true
begins c =
    boundary_of_cut c.as_str-leaf.result.now c.leaf_at-found.result.leaf _ c.as_str-leaf.utf8
    c.as_str-leaf.ensures.chars
    (rw c.place-place.ensures.value at (c.if-not-is_char_boundary.ensures.test.0 refl))

pub returns-clause-some : goal.returns-clause-some
returns-clause-some c =
    let here = at (goal.at.returns-clause-some c).After-leaf_at-found in
    let cut = begins (goal.at.returns-clause-some c).Else-not-is_char_boundary in
    let k = c.convert_in-chars.ensures
    ∙ ap (λ s. byte_to_char s (c.place-place.result - c.leaf_at-found.result.before.bytes))
    c.as_str-leaf.ensures.chars in
    rw (k, c.place-place.ensures.value) (here.place cut)

pub returns-clause-whole : goal.returns-clause-whole
returns-clause-whole c =
    let here = at (goal.at.returns-clause-whole c).After-leaf_at-found in (
      (λ h. here.whole.1 (begins (goal.at.returns-clause-whole c).Else-not-is_char_boundary)),
      (λ h. refl),
    )
