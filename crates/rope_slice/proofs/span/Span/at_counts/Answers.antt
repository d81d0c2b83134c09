use Rattle.std.proofs.Common.{arith}
use Rattle.rope_slice.specs.Slice.{text_of}
use Rattle.rope_slice.proofs.Carets.{size_front}
use Rattle.rope_slice.proofs.KnownPlaces as known
use Rattle.rope_slice.proofs.span.Span.at_counts.Goals.{After-holding-span}
use Rattle.rope_slice.proofs.span.Span.at_counts.Goals as goal

pub holding-span-requires-clause-within : goal.holding-span-requires-clause-within
holding-span-requires-clause-within c =
    omega (arith, c.requires.bytes, size_front c.args.before.chars (text_of c.args.slice.now))

pub returns-clause-starts : goal.returns-clause-starts
returns-clause-starts c =
    let e = c.holding-span.ensures in
    known.known_starts c.holding-span.result.0 (text_of c.args.slice.now) c.args.before.chars
    c.args.before.bytes c.holding-span.result.1.bytes e.text c.requires.within c.requires.bytes
    e.before.bytes_are e.starts e.within

pub returns-clause-within : goal.returns-clause-within
returns-clause-within c =
    let e = c.holding-span.ensures in
    known.known_within c.holding-span.result.0 (text_of c.args.slice.now) c.args.before.chars
    c.args.before.bytes c.holding-span.result.1.bytes e.text c.requires.within c.requires.bytes
    e.before.bytes_are e.starts e.within

pub returns-clause-byte : goal.returns-clause-byte
returns-clause-byte c =
    let e = c.holding-span.ensures in
    known.known_byte c.holding-span.result.0 (text_of c.args.slice.now) c.args.before.chars
    c.args.before.bytes c.holding-span.result.1.bytes e.text c.requires.within c.requires.bytes
    e.before.bytes_are e.starts e.within
