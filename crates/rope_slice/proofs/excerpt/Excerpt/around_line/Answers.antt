use Rattle.std.proofs.Common.{◌≡◌, ◌+◌, ◌-◌, ◌<◌, ◌∙◌, ℕ, take, sym, ap, arith, inl, inr}
use Rattle.std.specs.Str.{chars}
use Rattle.rope_text.specs.Text.{byte_len}
use Rattle.rope_text.specs.TextInfo.{info_of, info_sum}
use Rattle.rope_text.specs.Lines.{line_start}
use Rattle.rope_text.specs.Breaks.{break_count}
use Rattle.std.proofs.lemmas.Str.{length-le-encodes}
use Rattle.rope_text.proofs.InfoLaws.{break_count-le-length}
use Rattle.rope_text.proofs.LineSeams.{break_count-front}
use Rattle.rope_text.proofs.Measures.{IsMeasure-byte_len, size_le_all}
use Rattle.rope_leaf.specs.Tree.{text}
use Rattle.rope_leaf.specs.Search.{IsSmall}
use Rattle.rope_leaf.proofs.Infos.{small_info, small_sum}
use Rattle.rope_slice.specs.Excerpt.{text_of, breaks_of}
use Rattle.rope_slice.proofs.LeafLines.{line_in_leaf}
use Rattle.rope_slice.proofs.Measured.{measured}
use Rattle.rope_slice.proofs.InChunks.{in_clip, in_chunk_end}
use Rattle.rope_slice.specs.InChunk.{IsInChunk}
use Rattle.rope_slice.specs.Excerpt.{chunks_of}
use Rattle.std.proofs.lemmas.Bool.{cases_lt}
use Rattle.std.proofs.lemmas.List.{length-take, length-take-le}
use Rattle.rope_text.proofs.LineLaws.{line_start-le-length, line_start_first}
use Rattle.rope_slice.proofs.ExcerptLines.{line_later, line_place_within, line_counts, own_line}
use Rattle.rope_slice.proofs.excerpt.Excerpt.around_line.Goals.{After-line_start_at, After-counts_to-start, Else-line-eq0}
use Rattle.rope_slice.proofs.excerpt.Excerpt.around_line.Goals as goal

sum_is : (c : Else-line-eq0) → info_sum c.line_start_at.result.0 c.of_first_line-line.result
    ≡ info_of c.args.self.now.node.now.breaks
    (take (line_start c.args.self.now.node.now.breaks (text c.args.self.now.node.now)
    (c.place.result + 1)) (text c.args.self.now.node.now))
sum_is c =
    let rest = chars c.line_start_at.result.1.now in
    let breaks = c.line_breaks.result in
    let m = measured _ _ _ _ c.args.self.now.is_excerpt in
    let some : 0 < break_count breaks rest =
    omega (
      arith,
      ap (λ x. x.break_count) c.of_first_line-line.ensures,
      c.if-line-eq0.false,
      break_count-front breaks rest 1 (omega arith),
    ) in
    line_in_leaf c.args.self.now.node.now c.place.result rest c.line_start_at.result.0
    c.of_first_line-line.result breaks c.line_breaks.ensures (omega (arith, c.place.ensures.value))
    c.line_start_at.ensures.rest some c.line_start_at.ensures.before c.of_first_line-line.ensures

small : (c : Else-line-eq0)
    → IsSmall (info_of c.args.self.now.node.now.breaks
    (take (line_start c.args.self.now.node.now.breaks (text c.args.self.now.node.now)
    (c.place.result + 1)) (text c.args.self.now.node.now)))
small c =
    let t = text c.args.self.now.node.now in
    let next = line_start c.args.self.now.node.now.breaks t (c.place.result + 1) in
    small_info c.args.self.now.node.now.breaks (take next t)
    (omega (arith, size_le_all byte_len IsMeasure-byte_len t next, c.place.ensures.tree.fits))

pub returns-then-line_idx-eq0-clause-start : goal.returns-then-line_idx-eq0-clause-start
returns-then-line_idx-eq0-clause-start c =
    let breaks = breaks_of c.args.self.now in
    let t = text_of c.args.self.now in
    c.new.ensures breaks ∙ sym (ap (λ n. info_of breaks (take n t))
    (ap (line_start breaks t) c.if-line_idx-eq0.true ∙ line_start_first breaks t))

pub returns-then-line_idx-eq0-clause-end : goal.returns-then-line_idx-eq0-clause-end
returns-then-line_idx-eq0-clause-end c =
    let breaks = breaks_of c.args.self.now in
    let t = text_of c.args.self.now in
    c.before_line.ensures ∙ sym (ap (λ l. info_of breaks (take (line_start breaks t (l + 1)) t))
    c.if-line_idx-eq0.true)

pub line_start_at-requires-clause-within : goal.line_start_at-requires-clause-within
line_start_at-requires-clause-within c = let m = measured _ _ _ _ c.args.self.now.is_excerpt in
    omega (arith, c.place.ensures.value)

pub plus-requires : goal.plus-requires
plus-requires c = let here = (goal.at.plus-requires c).Else-line-eq0 in
    small_sum _ _ (rw (sum_is here) (small here))

pub counts_to-start-requires-clause-later : goal.counts_to-start-requires-clause-later
counts_to-start-requires-clause-later c =
    line_later _ _ _ _ _ c.args.self.now.is_excerpt c.args.line_idx _ (omega arith)
    c.place.ensures.value c.line_start_at.ensures.before

pub counts_to-start-requires-clause-within : goal.counts_to-start-requires-clause-within
counts_to-start-requires-clause-within c =
    line_place_within _ _ _ _ _ c.args.self.now.is_excerpt c.args.line_idx _ (omega arith)
    c.place.ensures.value c.line_start_at.ensures.before

pub counts_to-start-requires-clause-counts : goal.counts_to-start-requires-clause-counts
counts_to-start-requires-clause-counts c =
    line_counts _ _ _ _ _ c.args.self.now.is_excerpt c.args.line_idx _ (omega arith)
    c.place.ensures.value c.line_start_at.ensures.before

pub overflow_add-line_idx : goal.overflow_add-line_idx
overflow_add-line_idx c =
    let t = text c.args.self.now.node.now in
    let m = measured _ _ _ _ c.args.self.now.is_excerpt in
    omega (
      arith,
      c.place.ensures.value,
      break_count-le-length c.args.self.now.node.now.breaks t,
      length-le-encodes t,
      c.place.ensures.tree.fits,
    )

pub counts_to-end-requires-clause-later : goal.counts_to-end-requires-clause-later
counts_to-end-requires-clause-later c =
    let end =
    c.plus.ensures.sum ∙ sum_is (goal.at.counts_to-end-requires-clause-later c).Else-line-eq0 in
    line_later _ _ _ _ _ c.args.self.now.is_excerpt (c.args.line_idx + 1)
    (c.place.result + 1) (omega arith) (omega (arith, c.place.ensures.value)) end

pub counts_to-end-requires-clause-within : goal.counts_to-end-requires-clause-within
counts_to-end-requires-clause-within c =
    let end =
    c.plus.ensures.sum ∙ sum_is (goal.at.counts_to-end-requires-clause-within c).Else-line-eq0 in
    line_place_within _ _ _ _ _ c.args.self.now.is_excerpt (c.args.line_idx + 1)
    (c.place.result + 1) (omega arith) (omega (arith, c.place.ensures.value)) end

pub counts_to-end-requires-clause-counts : goal.counts_to-end-requires-clause-counts
counts_to-end-requires-clause-counts c =
    let end =
    c.plus.ensures.sum ∙ sum_is (goal.at.counts_to-end-requires-clause-counts c).Else-line-eq0 in
    line_counts _ _ _ _ _ c.args.self.now.is_excerpt (c.args.line_idx + 1)
    (c.place.result + 1) (omega arith) (omega (arith, c.place.ensures.value)) end

pub returns-then-line-eq0-clause-start : goal.returns-then-line-eq0-clause-start
returns-then-line-eq0-clause-start c =
    c.counts_to-start.ensures.value
    ∙ own_line _ _ _ _ _ c.args.self.now.is_excerpt c.args.line_idx _ (omega arith)
    c.place.ensures.value c.line_start_at.ensures.before

pub returns-clause-start : goal.returns-clause-start
returns-clause-start c = c.counts_to-start.ensures.value
    ∙ own_line _ _ _ _ _ c.args.self.now.is_excerpt c.args.line_idx _ (omega arith)
    c.place.ensures.value c.line_start_at.ensures.before

pub returns-clause-end : goal.returns-clause-end
returns-clause-end c =
    let end = c.plus.ensures.sum ∙ sum_is (goal.at.returns-clause-end c).Else-line-eq0 in
    c.counts_to-end.ensures.value
    ∙ own_line _ _ _ _ _ c.args.self.now.is_excerpt (c.args.line_idx + 1)
    (c.place.result + 1) (omega arith) (omega (arith, c.place.ensures.value)) end

-- the rest of the leaf is inside the chunk there, or the line starts at the end
held_in : (c : After-counts_to-start)
    → IsInChunk (text_of c.args.self.now) (chunks_of c.args.self.now) c.counts_to-start.result.chars
    (chars c.line_start_at.result.1.now)
held_in c =
    let s = c.args.self.now in
    let t = text s.node.now in
    let m = measured _ _ _ _ s.is_excerpt in
    let place : ℕ = c.line_start_at.result.0.chars in
    let here : place ≡ line_start s.node.now.breaks t c.place.result =
    ap (λ x. x.chars) c.line_start_at.ensures.before
    ∙ length-take-le (line_start s.node.now.breaks t c.place.result) t
    (line_start-le-length s.node.now.breaks t c.place.result) in
    let later =
    line_later _ _ _ _ _ s.is_excerpt c.args.line_idx _ (omega arith) c.place.ensures.value
    c.line_start_at.ensures.before in
    let size = ap (λ x. x.chars) c.counts_to-start.ensures.value
    ∙ length-take (place - s.start.chars) (text_of s) in
    elim (cases_lt place s.end.chars) [
      | inr past ↦ in_chunk_end (text_of s) (chunks_of s) c.counts_to-start.result.chars
          (chars c.line_start_at.result.1.now) (omega (arith, size, m.chars))
      | inl inside ↦
          let from : s.start.chars + c.counts_to-start.result.chars
          ≡ line_start s.node.now.breaks t c.place.result =
          omega (arith, size, m.chars, here, later) in
          in_clip t s.node.now.leaves s.start.chars s.end.chars c.counts_to-start.result.chars
          (chars c.line_start_at.result.1.now) (rw from c.line_start_at.ensures.chunk)
          (omega (arith, m.some)) m.within
    ]

pub returns-then-line-eq0-clause-held : goal.returns-then-line-eq0-clause-held
returns-then-line-eq0-clause-held c =
    held_in (goal.at.returns-then-line-eq0-clause-held c).After-counts_to-start

pub returns-clause-held : goal.returns-clause-held
returns-clause-held c =
    held_in (goal.at.returns-clause-held c).After-counts_to-start
