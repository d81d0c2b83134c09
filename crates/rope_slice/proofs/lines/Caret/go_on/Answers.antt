use Rattle.std.proofs.Common.{arith}
use Rattle.std.proofs.lemmas.Str.{length-le-encodes}
use Rattle.rope_text.proofs.InfoLaws.{break_count-le-length}
use Rattle.rope_slice.specs.Slice.{content_of, text_of, breaks_of}
use Rattle.rope_slice.proofs.LineMoves.{next_sum, next_start}
use Rattle.rope_slice.proofs.lines.Caret.go_on.Goals as goal

pub pass_line-requires : goal.pass_line-requires
pass_line-requires c = next_sum (content_of c.args.slice.now) c.args.self.now c.args.before.now
    c.args.line_idx _ c.args.breaks c.requires.start c.requires.within c.requires.breaks_is

pub returns-then-pass_line-clause-start : goal.returns-then-pass_line-clause-start
returns-then-pass_line-clause-start c =
    let e = c.if-pass_line.ensures in
    next_start (content_of c.args.slice.now) c.args.self.now c.args.before.now c.args.line_idx _
    c.args.breaks c.requires.start c.requires.within c.requires.breaks_is
    c.pass_line.new.self e.front e.back e.chunks c.pass_line.new.before e.counts

pub overflow_add-line_idx : goal.overflow_add-line_idx
overflow_add-line_idx c =
    let t = text_of c.args.slice.now in
    omega (
      arith,
      c.requires.within,
      break_count-le-length (breaks_of c.args.slice.now) t,
      length-le-encodes t,
      c.requires.start.fits,
    )
