use Rattle.std.proofs.Common.{ℕ, List, ◌≡◌, ◌++◌, take, drop, false, ◌-◌, ◌<◌, ◌≤◌, ◌∙◌, inl, inr, length, refl, ap, sym, arith}
use Rattle.rope_text.specs.Cutting.{single_chunk}
use Rattle.rope_text.specs.TextInfo.{info_sum, HasSum}
use Rattle.rope_text.proofs.ClipLaws.{slice_range_empty}
use Rattle.rope_text.specs.LineParts.{part_between}
use Rattle.rope_leaf.specs.Tree.{text}
use Rattle.rope_slice.specs.declared.excerpt.Excerpt.{Excerpt}
use Rattle.rope_slice.specs.Edge.{IsExcerpt}
use Rattle.rope_slice.specs.Excerpt as of_excerpt
use Rattle.rope_slice.proofs.Measured.{measured}
use Rattle.rope_slice.proofs.Excerpts.{length_part}
use Rattle.rope_slice.proofs.Clips.{part_of_part, clip_of_clip, single_chunk-clip}
use Rattle.rope_slice.proofs.PartsBetween.{between_sum, same_content, excerpt_between, sums_between}
use Rattle.rope_slice.specs.Slice.{content_of, text_of, chunks_of, breaks_of}
use Rattle.rope_text.specs.Text.{byte_len}
use Rattle.rope_text.specs.declared.text_info.TextInfo.{TextInfo}
use Rattle.rope_text.specs.Content.{Content}
use Rattle.rope_text.specs.declared.line_breaks.LineBreaks.{LineBreaks}
use Rattle.rope_text.specs.Cutting.{parts_crlf}
use Rattle.std.specs.List.{slice_range}
use Rattle.std.specs.Str.{chars}
use Rattle.rope_text.specs.TextInfo.{info_of}
use Rattle.rope_text.proofs.LineSeams.{parts_crlf-take}
use Rattle.rope_slice.specs.Plain as of_plain
use Rattle.std.proofs.lemmas.Bool.{cases_lt}
use Rattle.rope_text.proofs.TextParts.{chars_front}
use Rattle.rope_text.proofs.Walks.{byte_len-chars}
use Rattle.rope_slice.proofs.InChunks.{EndsInChunk, ends_in_chunk}
use Rattle.rope_slice.proofs.ChunkParts.{chars_of_part, boundary_of}
use Rattle.rope_slice.proofs.slice.RopeSlice.between.Goals.{Then-info-held, In-InTree, After-range-text, After-range-text-in-Alone}
use Rattle.rope_text.proofs.InfoLaws.{part_of_sum}
use Rattle.rope_text.proofs.LinesJoin.{take-slice_range}
use Rattle.rope_slice.proofs.slice.RopeSlice.between.Goals as goal

-- the counts of the part
pub minus-info-requires : goal.minus-info-requires
minus-info-requires c =
    let own = content_of c.args.self.now in
    part_of_sum _ _ _ (between_sum own.breaks own.text c.args.from c.args.to c.requires.from_is
    c.requires.to_is c.requires.ordered c.requires.apart)

counts_are : (own : Content) (from to info : TextInfo)
    → from ≡ info_of own.breaks (take from.chars own.text)
    → to ≡ info_of own.breaks (take to.chars own.text) → from.chars ≤ to.chars
    → parts_crlf (take from.chars own.text) (drop from.chars own.text) ≡ false
    → ((breaks : LineBreaks) (s t : List ℕ) → to ≡ info_of breaks (s ++ t) → from ≡ info_of breaks s
    → parts_crlf s t ≡ false → info ≡ info_of breaks t)
    → info ≡ info_of own.breaks (slice_range own.text from.chars to.chars)
counts_are own from to info first last ordered apart rest =
    let i : ℕ = from.chars in
    rest own.breaks (take i own.text) (slice_range own.text i to.chars) (last
    ∙ ap (info_of own.breaks) (sym (take-slice_range own.text i to.chars ordered))) first
    (parts_crlf-take (take i own.text) (drop i own.text) (to.chars - i) apart)

-- a part that ends in the chunk
ends : (c : Then-info-held)
    → EndsInChunk (text_of c.args.self.now) (chunks_of c.args.self.now) c.args.from.chars
    c.args.to.chars (chars c.args.held.now)
ends c =
    ends_in_chunk (text_of c.args.self.now) (chunks_of c.args.self.now) c.args.from.chars
    (chars c.args.held.now) c.requires.held c.args.to.chars c.requires.ordered c.requires.within
    (omega (
      arith,
      ap (λ x. x.bytes)
          (counts_are (content_of c.args.self.now) c.args.from c.args.to c.minus-info.result
          c.requires.from_is c.requires.to_is c.requires.ordered c.requires.apart
          c.minus-info.ensures.rest),
      c.if-info-held.true,
      byte_len-chars c.args.held.now c.utf8.held,
    ))

bytes_are : (c : Then-info-held) → c.minus-info.result.bytes
    ≡ byte_len (take (c.args.to.chars - c.args.from.chars) (chars c.args.held.now))
bytes_are c =
    ap (λ x. x.bytes) (counts_are (content_of c.args.self.now) c.args.from c.args.to
    c.minus-info.result c.requires.from_is c.requires.to_is c.requires.ordered c.requires.apart
    c.minus-info.ensures.rest) ∙ ap byte_len (ends c).text_is

pub range-text-requires-clause-end_boundary : goal.range-text-requires-clause-end_boundary
range-text-requires-clause-end_boundary c =
    boundary_of c.args.held.now (chars c.args.held.now) (c.args.to.chars - c.args.from.chars)
    c.minus-info.result.bytes c.utf8.held refl
    (bytes_are (goal.at.range-text-requires-clause-end_boundary c).Then-info-held)

part_is : (c : After-range-text) → c.minus-info.result.bytes
    ≡ byte_len (take (c.args.to.chars - c.args.from.chars) (chars c.args.held.now))
    → EndsInChunk (text_of c.args.self.now) (chunks_of c.args.self.now) c.args.from.chars
    c.args.to.chars (chars c.args.held.now) → chars c.range-text.result.now
    ≡ slice_range (text_of c.args.self.now) c.args.from.chars c.args.to.chars
part_is c then_bytes then_ends =
    chars_front c.args.held.now c.range-text.result.now (chars c.args.held.now)
    (c.args.to.chars - c.args.from.chars) c.minus-info.result.bytes c.utf8.held refl then_bytes
    c.range-text.ensures.value
    ∙ sym then_ends.text_is

pub invariant_of-result : goal.invariant_of-result
invariant_of-result c =
    let here = (goal.at.invariant_of-result c).After-range-text in
    let counts =
    counts_are (content_of c.args.self.now) c.args.from c.args.to c.minus-info.result
    c.requires.from_is c.requires.to_is c.requires.ordered c.requires.apart
    c.minus-info.ensures.rest in
    record {
      counted = counts
          ∙ ap (info_of (breaks_of c.args.self.now))
          (sym (part_is here (bytes_are (goal.at.invariant_of-result c).Then-info-held)
          (ends (goal.at.invariant_of-result c).Then-info-held)))
          ∙ ap (λ b. info_of b (chars c.range-text.result.now)) (sym c.requires.breaks_is);
    }

pub returns-then-info-held : goal.returns-then-info-held
returns-then-info-held c =
    let here = (goal.at.returns-then-info-held c).After-range-text in
    let e = ends (goal.at.returns-then-info-held c).Then-info-held in
    let text = part_is here (bytes_are (goal.at.returns-then-info-held c).Then-info-held) e in
    let chunks = ap single_chunk (text ∙ e.text_is) ∙ sym e.chunks_are in
    same_content _ (part_between (content_of c.args.self.now) c.args.from.chars c.args.to.chars)
    text chunks c.requires.breaks_is

-- a slice that continues after the chunk has a character
some : (c : In-InTree) → c.args.from.chars < c.args.to.chars
some c = elim (cases_lt c.args.from.chars c.args.to.chars) [
  | inl less ↦ less
  | inr none ↦ absurd (
      let nothing =
      ap byte_len (slice_range_empty (text_of c.args.self.now) c.args.from.chars c.args.to.chars
      none) in
      omega (
        arith,
        c.if-info-held.false,
        ap (λ x. x.bytes)
            (counts_are (content_of c.args.self.now) c.args.from c.args.to c.minus-info.result
            c.requires.from_is c.requires.to_is c.requires.ordered c.requires.apart
            c.minus-info.ensures.rest),
        nothing,
      ))
]

kept : (c : In-InTree)
    → IsExcerpt c.in-InTree.excerpt.node.now.breaks (text c.in-InTree.excerpt.node.now)
    (info_sum c.in-InTree.excerpt.start c.args.from) (info_sum c.in-InTree.excerpt.start c.args.to)
kept c =
    let s = c.in-InTree.excerpt in
    excerpt_between s.node.now.breaks (text s.node.now) s.start s.end s.is_excerpt c.args.from
    c.args.to (rw c.in-InTree.is at c.requires.from_is) (rw c.in-InTree.is at c.requires.to_is)
    (some c) (rw c.in-InTree.is at c.requires.within) (rw c.in-InTree.is at c.requires.apart)

sums : (c : In-InTree) → HasSum c.in-InTree.excerpt.start c.args.from
    × HasSum c.in-InTree.excerpt.start c.args.to
sums c =
    let s = c.in-InTree.excerpt in
    sums_between s.node.now.breaks (text s.node.now) s.start c.args.from c.args.to (kept c)
    s.is_low.tree.fits

inside : (s : Excerpt) (j : ℕ) → j ≤ length (of_excerpt.text_of s) → j ≤ s.end.chars - s.start.chars
inside s j l = let m = measured _ _ _ _ s.is_excerpt in
    omega (arith, length_part (text s.node.now) s.start.chars s.end.chars m.within)

pub plus-start-requires : goal.plus-start-requires
plus-start-requires c = (sums (goal.at.plus-start-requires c).In-InTree).0

pub plus-end-requires : goal.plus-end-requires
plus-end-requires c = (sums (goal.at.plus-end-requires c).In-InTree).1

pub invariant_of-result-in-InTree : goal.invariant_of-result-in-InTree
invariant_of-result-in-InTree c = record {
  is_low = c.in-InTree.excerpt.is_low;
  is_excerpt =
      rw (c.plus-start.ensures.sum, c.plus-end.ensures.sum)
      (kept (goal.at.invariant_of-result-in-InTree c).In-InTree);
}

pub returns-in-InTree : goal.returns-in-InTree
returns-in-InTree c =
    let s = c.in-InTree.excerpt in
    let i = c.args.from.chars in
    let j = c.args.to.chars in
    let within = inside s j (rw c.in-InTree.is at c.requires.within) in
    let start = ap (λ x. x.chars) c.plus-start.ensures.sum in
    let end = ap (λ x. x.chars) c.plus-end.ensures.sum in
    let t = part_of_part (text s.node.now) s.start.chars s.end.chars i j c.plus-start.result.chars
    c.plus-end.result.chars within start end in
    let chunks =
    clip_of_clip s.node.now.leaves s.start.chars s.end.chars i j c.plus-start.result.chars
    c.plus-end.result.chars within start end in
    rw c.in-InTree.is (same_content _ (part_between (of_excerpt.content_of s) i j) t chunks refl)

-- the part of a plain text
own_part : (c : After-range-text-in-Alone)
    → chars c.range-text-in-Alone.result.now
    ≡ slice_range (of_plain.text_of c.in-Alone.plain) c.args.from.chars c.args.to.chars
own_part c =
    chars_of_part c.as_str.result.now (of_plain.text_of c.in-Alone.plain)
    c.range-text-in-Alone.result.now c.args.from.chars c.args.to.chars c.args.from.bytes
    c.args.to.bytes c.as_str.utf8 c.as_str.ensures c.requires.ordered
    (ap (λ x. x.bytes) (rw c.in-Alone.is at c.requires.from_is))
    (ap (λ x. x.bytes) (rw c.in-Alone.is at c.requires.to_is)) c.range-text-in-Alone.ensures.value

pub range-text-requires-in-Alone-clause-start_boundary :
    goal.range-text-requires-in-Alone-clause-start_boundary
range-text-requires-in-Alone-clause-start_boundary c =
    λ _. boundary_of c.as_str.result.now (of_plain.text_of c.in-Alone.plain) c.args.from.chars
    c.args.from.bytes c.as_str.utf8 c.as_str.ensures
    (ap (λ x. x.bytes) (rw c.in-Alone.is at c.requires.from_is))

pub range-text-requires-in-Alone-clause-end_boundary :
    goal.range-text-requires-in-Alone-clause-end_boundary
range-text-requires-in-Alone-clause-end_boundary c =
    boundary_of c.as_str.result.now (of_plain.text_of c.in-Alone.plain) c.args.to.chars
    c.args.to.bytes c.as_str.utf8 c.as_str.ensures
    (ap (λ x. x.bytes) (rw c.in-Alone.is at c.requires.to_is))

pub invariant_of-result-in-Alone : goal.invariant_of-result-in-Alone
invariant_of-result-in-Alone c =
    let counts =
    rw c.in-Alone.is at (counts_are (content_of c.args.self.now) c.args.from c.args.to
    c.minus-info.result c.requires.from_is c.requires.to_is c.requires.ordered c.requires.apart
    c.minus-info.ensures.rest) in
    record {
      counted = counts
          ∙ ap (info_of c.in-Alone.plain.breaks)
          (sym (own_part (goal.at.invariant_of-result-in-Alone c).After-range-text-in-Alone));
    }

pub returns-in-Alone : goal.returns-in-Alone
returns-in-Alone c =
    let plain = c.in-Alone.plain in
    let i = c.args.from.chars in
    let j = c.args.to.chars in
    let part = own_part (goal.at.returns-in-Alone c).After-range-text-in-Alone in
    rw c.in-Alone.is (same_content _ (part_between (of_plain.content_of plain) i j) part
    (ap single_chunk part ∙ single_chunk-clip (of_plain.text_of plain) i j) refl)
