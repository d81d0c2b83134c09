use Rattle.std.proofs.Common.{ℕ, ◌==◌, false, ap, sym, subst, arith}
use Rattle.rope_text.specs.Lookup.{StandsAt, chunk_index_at_line_break}
use Rattle.rope_text.proofs.InfoLaws.{break_count-le-length}
use Rattle.rope_slice.specs.Chunks.{at_chunk}
use Rattle.rope_slice.specs.Slice.{text_of, chunks_of, breaks_of}
use Rattle.rope_slice.proofs.ChunkStarts.{no_break_place, break_place, line_break_end, stands_before}
use Rattle.rope_slice.proofs.slice.RopeSlice.chunks_at_line_break.Goals as goal

pub returns-then-line_break_idx-eq0 : goal.returns-then-line_break_idx-eq0
returns-then-line_break_idx-eq0 c =
    let part = c.args.self.now in
    let r = c.chunks_from in
    rw c.if-line_break_idx-eq0.true
    (subst (λ (n : ℕ). StandsAt (breaks_of part) (chunks_of part) n r.result.0 r.result.1 r.result.2
    r.result.3)
    (no_break_place (breaks_of part) (text_of part) (chunks_of part) c.info-info.ensures.kept.cut)
    r.ensures.stands)

pub returns-then-line_break_idx-info : goal.returns-then-line_break_idx-info
returns-then-line_break_idx-info c =
    let part = c.args.self.now in
    let r = c.chunks_from-then-line_break_idx-info in
    subst (λ (n : ℕ). StandsAt (breaks_of part) (chunks_of part) n r.result.0 r.result.1 r.result.2
    r.result.3)
    (line_break_end (breaks_of part) (text_of part) (chunks_of part) c.info-info.ensures.kept.cut
    c.args.line_break_idx c.info-info.result.chars
    (omega (
      arith,
      c.requires,
      c.if-line_break_idx-info.true,
      ap (λ i. i.break_count) c.info-info.ensures.value,
    ))
    (ap (λ i. i.chars) c.info-info.ensures.value)) r.ensures.stands

pub returns : goal.returns
returns c =
    let part = c.args.self.now in
    let i = c.info-info.ensures in
    let e = c.at_break-span.ensures in
    let breaks = ap (λ i. i.break_count) i.value in
    let k : ℕ =
    chunk_index_at_line_break (breaks_of part) (chunks_of part) c.args.line_break_idx in
    subst (λ (n : ℕ). StandsAt (breaks_of part) (chunks_of part) n
    (at_chunk c.at_break-span.result.0 (c.info-info.result.chars == 0) false false)
    c.at_break-span.result.1.bytes c.at_break-span.result.1.chars
    c.at_break-span.result.1.break_count)
    (sym (break_place (breaks_of part) (text_of part) (chunks_of part) i.kept.cut
    c.args.line_break_idx (omega (arith, breaks, c.if-line_break_idx-info.false))))
    (stands_before (breaks_of part) c.at_break-span.result.0 (text_of part) (chunks_of part)
    i.kept.cut e.text (λ _. e.chunks) c.info-info.result i.value k c.at_break-span.result.1.bytes
    c.at_break-span.result.1.chars c.at_break-span.result.1.break_count
    (omega (
      arith,
      break_count-le-length (breaks_of part) (text_of part),
      breaks,
      c.if-line_break_idx-info.false,
      c.if-line_break_idx-eq0.false,
    )) e.index e.before)
