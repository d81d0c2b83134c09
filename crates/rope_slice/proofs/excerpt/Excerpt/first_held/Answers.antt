use Rattle.std.proofs.Common.{◌≡◌, ◌+◌, ◌-◌, ◌∙◌, ℕ, List, take, sym, ap, subst, arith}
use Rattle.std.specs.Str.{chars, IsCharBoundary}
use Rattle.rope_text.specs.Text.{byte_len}
use Rattle.rope_text.proofs.TextParts.{chars_back, byte_len_boundary}
use Rattle.rope_leaf.specs.Tree.{text}
use Rattle.rope_leaf.specs.declared.search.Unit.TheVariants.{Byte}
use Rattle.rope_slice.proofs.InChunks.{in_found, in_clip}
use Rattle.rope_slice.proofs.LeafParts.{StartsIn, starts_in}
use Rattle.rope_slice.proofs.Measured.{measured}
use Rattle.rope_slice.proofs.excerpt.Excerpt.first_held.Goals.{After-as_str}
use Rattle.rope_slice.proofs.excerpt.Excerpt.first_held.Goals as goal

pub at-found-requires-clause-within : goal.at-found-requires-clause-within
at-found-requires-clause-within c = let m = measured _ _ _ _ c.args.self.now.is_excerpt in
    omega (arith, m.some_bytes, m.all_bytes)

starts : (c : After-as_str)
    → StartsIn c.args.self.now.start c.at-found.result.1.leaf c.at-found.result.1.before
starts c =
    let s = c.args.self.now in
    starts_in s.node.now s.start s.end c.at-found.result.1.leaf c.at-found.result.1.before
    s.is_low.tree s.is_excerpt c.at-found.ensures.found

-- the number of characters of the leaf before the excerpt
skipped : After-as_str → ℕ
skipped c = c.args.self.now.start.chars - c.at-found.result.1.before.chars

bytes_are : (c : After-as_str) → c.args.self.now.start.bytes - c.at-found.result.1.before.bytes
    ≡ byte_len (take (skipped c) (chars c.as_str.result.now))
unfolding skipped
bytes_are c = (starts c).bytes
    ∙ ap (λ s. byte_len (take (skipped c) s)) (sym c.as_str.ensures.chars)

pub range_from-requires : goal.range_from-requires
range_from-requires c = λ some.
    let here = (goal.at.range_from-requires c).After-as_str in
    subst (IsCharBoundary c.as_str.result.now) (sym (bytes_are here))
    (byte_len_boundary c.as_str.result.now (skipped here) c.as_str.utf8)

pub returns : goal.returns
unfolding skipped
returns c =
    let here = (goal.at.returns c).After-as_str in
    let s = c.args.self.now in
    let t = starts here in
    let leaf : List ℕ = c.at-found.result.1.leaf in
    let held =
    chars_back c.as_str.result.now c.range_from.result.now leaf (skipped here)
    (s.start.bytes - c.at-found.result.1.before.bytes) c.as_str.utf8 c.as_str.ensures.chars
    (bytes_are here) c.range_from.ensures.value in
    let m = measured _ _ _ _ s.is_excerpt in
    in_clip (text s.node.now) s.node.now.leaves s.start.chars s.end.chars 0
    (chars c.range_from.result.now)
    (in_found Byte s.start.bytes s.node.now leaf c.at-found.result.1.before
    c.at-found.ensures.found (skipped here) (s.start.chars + 0) (chars c.range_from.result.now)
    t.within (omega (arith, t.place)) held)
    (omega (arith, m.some)) m.within
