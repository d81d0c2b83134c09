use Rattle.std.specs.Str.{chars}
use Rattle.rope_slice.proofs.LeafStarts.{holds_alone}
use Rattle.rope_slice.proofs.span.Span.holding.Goals as goal

pub returns-in-Alone : goal.returns-in-Alone
returns-in-Alone c =
    let e = c.alone.ensures in
    rw (c.in-Alone.is, e.span, e.bytes, e.chars, e.break_count)
    (holds_alone c.in-Alone.plain.breaks (chars c.in-Alone.plain.text.now) c.args.idx c.args.unit
    c.requires.unit (rw c.in-Alone.is at c.requires.within))
