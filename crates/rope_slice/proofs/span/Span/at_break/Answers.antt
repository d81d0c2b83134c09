use Rattle.std.proofs.Common.{arith}
use Rattle.std.specs.Str.{chars}
use Rattle.rope_text.proofs.InfoLaws.{break_count-le-length}
use Rattle.rope_leaf.specs.declared.search.Unit.TheVariants.{Char}
use Rattle.rope_slice.proofs.FoundChunks.{break_index_single}
use Rattle.rope_slice.proofs.LeafStarts.{holds_alone}
use Rattle.rope_slice.proofs.span.Span.at_break.Goals as goal

pub at_break-descent-requires-clause-within : goal.at_break-descent-requires-clause-within
at_break-descent-requires-clause-within c = rw c.in-InTree.is at c.requires.within

pub returns-in-InTree-clause-text : goal.returns-in-InTree-clause-text
returns-in-InTree-clause-text c = rw c.in-InTree.is c.at_break-descent.ensures.text

pub returns-in-InTree-clause-chunks : goal.returns-in-InTree-clause-chunks
returns-in-InTree-clause-chunks c = rw c.in-InTree.is c.at_break-descent.ensures.chunks

pub returns-in-InTree-clause-before : goal.returns-in-InTree-clause-before
returns-in-InTree-clause-before c =
    let e = c.since-before.ensures in
    rw (c.in-InTree.is, e.bytes, e.chars, e.break_count) c.at_break-descent.ensures.before

pub returns-in-InTree-clause-index : goal.returns-in-InTree-clause-index
returns-in-InTree-clause-index c = rw c.in-InTree.is c.at_break-descent.ensures.index

pub returns-in-Alone-clause-chunks : goal.returns-in-Alone-clause-chunks
returns-in-Alone-clause-chunks c =
    let own = chars c.in-Alone.plain.text.now in
    let some = rw c.in-Alone.is at c.requires.within in
    rw (c.in-Alone.is, c.alone.ensures.span)
    ((holds_alone c.in-Alone.plain.breaks own 0 Char tt (omega arith)).chunks
    (omega (
      arith,
      break_count-le-length c.in-Alone.plain.breaks own,
      some,
      c.requires.later,
    )))

pub returns-in-Alone-clause-before : goal.returns-in-Alone-clause-before
returns-in-Alone-clause-before c =
    let e = c.alone.ensures in
    let own = chars c.in-Alone.plain.text.now in
    rw (c.in-Alone.is, e.span, e.bytes, e.chars, e.break_count)
    (holds_alone c.in-Alone.plain.breaks own 0 Char tt (omega arith)).before

pub returns-in-Alone-clause-index : goal.returns-in-Alone-clause-index
returns-in-Alone-clause-index c =
    rw (c.in-Alone.is, c.alone.ensures.span)
    (break_index_single c.in-Alone.plain.breaks (chars c.in-Alone.plain.text.now) c.args.line_idx)
