use Rattle.std.proofs.Common.{◌≡◌, ◌-◌, ◌∙◌, length, ap, arith}
use Rattle.rope_text.specs.Lines.{line_start}
use Rattle.rope_text.specs.Lookup.{chunk_index_at_char}
use Rattle.rope_text.proofs.LineLaws.{line_start_first, line_start_past}
use Rattle.rope_slice.specs.Slice.{text_of, chunks_of, breaks_of}
use Rattle.rope_slice.proofs.FoundChunks.{line_break_index}
use Rattle.rope_slice.proofs.slice.RopeSlice.chunk_at_line_break.Goals as goal

pub returns-then-line_break_idx-eq0 : goal.returns-then-line_break_idx-eq0
returns-then-line_break_idx-eq0 c =
    let cut = c.info-info.ensures.kept.cut in
    rw c.if-line_break_idx-eq0.true
    (rw (line_break_index (breaks_of c.args.self.now) (chunks_of c.args.self.now) 0 cut.nonempty
    ∙ ap (λ n. chunk_index_at_char (chunks_of c.args.self.now) (n - 1))
    (line_start_first (breaks_of c.args.self.now) _)) c.chunk_apart.ensures)

pub returns-then-line_break_idx-info : goal.returns-then-line_break_idx-info
returns-then-line_break_idx-info c =
    let cut = c.info-info.ensures.kept.cut in
    let chunks = chunks_of c.args.self.now in
    let past =
    line_start_past (breaks_of c.args.self.now) (text_of c.args.self.now) c.args.line_break_idx
    (omega (arith, ap (λ x. x.break_count) c.info-info.ensures.value)) in
    let place : length (text_of c.args.self.now) - 1 ≡ c.saturating_sub.result =
    omega (arith, c.saturating_sub.ensures, ap (λ x. x.chars) c.info-info.ensures.value) in
    let end = c.chunk_apart-then-line_break_idx-info in
    rw (line_break_index (breaks_of c.args.self.now) chunks c.args.line_break_idx cut.nonempty
    ∙ ap (λ n. chunk_index_at_char chunks (n - 1))
    (ap (λ t. line_start (breaks_of c.args.self.now) t c.args.line_break_idx) cut.joined ∙ past)
    ∙ ap (chunk_index_at_char chunks) place) end.ensures
