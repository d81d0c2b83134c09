use Rattle.std.proofs.Common.{◌≡◌, ◌+◌, ◌≤◌, ◌∙◌, take, length, sym, ap, arith}
use Rattle.std.specs.List.{concat}
use Rattle.rope_text.specs.Text.{byte_len}
use Rattle.rope_text.specs.Lines.{line_start}
use Rattle.rope_text.proofs.LineLaws.{line_start-le-length}
use Rattle.rope_slice.specs.Excerpt.{text_of, breaks_of}
use Rattle.rope_slice.proofs.PartsBetween.{counts_at}
use Rattle.rope_slice.proofs.KnownPlaces as known
use Rattle.rope_slice.proofs.span.Span.at_line.Goals.{After-before_line_in-before}
use Rattle.rope_slice.specs.Slice.{text_of as text_in, breaks_of as breaks_in}
use Rattle.rope_slice.proofs.span.Span.at_line.Goals as goal

chars_are : (c : After-before_line_in-before) → c.before_line_in-before.result.chars
    ≡ line_start (breaks_of c.in-InTree.excerpt) (text_of c.in-InTree.excerpt) c.args.line_idx
chars_are c =
    let s = c.in-InTree.excerpt in
    (counts_at (breaks_of s) (text_of s) (line_start (breaks_of s) (text_of s) c.args.line_idx)
    c.before_line_in-before.result
    (line_start-le-length (breaks_of s) (text_of s) c.args.line_idx)
    c.before_line_in-before.ensures.value).0

within : (c : After-before_line_in-before) → c.before_line_in-before.result.chars
    ≤ length (text_of c.in-InTree.excerpt)
within c =
    let s = c.in-InTree.excerpt in
    rw (chars_are c) (line_start-le-length (breaks_of s) (text_of s) c.args.line_idx)

bytes_are : (c : After-before_line_in-before) → c.before_line_in-before.result.bytes
    ≡ byte_len (take c.before_line_in-before.result.chars (text_of c.in-InTree.excerpt))
bytes_are c = ap (λ x. x.bytes) c.before_line_in-before.ensures.value
    ∙ ap (λ n. byte_len (take n (text_of c.in-InTree.excerpt))) (sym (chars_are c))

front_is : (c : After-before_line_in-before)
    → c.saturating_sub-front.result ≡ byte_len (concat c.at_break-descent.result.0.before)
front_is c = c.saturating_sub-front.ensures ∙ c.at_break-descent.ensures.before.bytes_are

starts : (c : After-before_line_in-before)
    → byte_len (concat c.at_break-descent.result.0.before) ≤ c.before_line_in-before.result.bytes
starts c =
    let e = c.at_break-descent.ensures in
    omega (arith, e.before.bytes_are, e.in_order, c.before_line_in-before.ensures.from)

ends : (c : After-before_line_in-before) → c.before_line_in-before.result.bytes
    ≤ byte_len (concat c.at_break-descent.result.0.before)
    + byte_len c.at_break-descent.result.0.here
ends c = omega (arith, c.at_break-descent.ensures.upto, c.before_line_in-before.ensures.upto)

pub returns-clause-starts : goal.returns-clause-starts
returns-clause-starts c =
    let d = (goal.at.returns-clause-starts c).After-before_line_in-before in
    known.known_starts c.at_break-descent.result.0 (text_of c.in-InTree.excerpt)
    c.before_line_in-before.result.chars c.before_line_in-before.result.bytes
    c.saturating_sub-front.result c.at_break-descent.ensures.text (within d) (bytes_are d)
    (front_is d) (starts d) (ends d)

pub returns-clause-within : goal.returns-clause-within
returns-clause-within c =
    let d = (goal.at.returns-clause-within c).After-before_line_in-before in
    known.known_within c.at_break-descent.result.0 (text_of c.in-InTree.excerpt)
    c.before_line_in-before.result.chars c.before_line_in-before.result.bytes
    c.saturating_sub-front.result c.at_break-descent.ensures.text (within d) (bytes_are d)
    (front_is d) (starts d) (ends d)

pub returns-clause-byte : goal.returns-clause-byte
returns-clause-byte c =
    let d = (goal.at.returns-clause-byte c).After-before_line_in-before in
    known.known_byte c.at_break-descent.result.0 (text_of c.in-InTree.excerpt)
    c.before_line_in-before.result.chars c.before_line_in-before.result.bytes
    c.saturating_sub-front.result c.at_break-descent.ensures.text (within d) (bytes_are d)
    (front_is d) (starts d) (ends d)

pub at_break-descent-requires-clause-within : goal.at_break-descent-requires-clause-within
at_break-descent-requires-clause-within c = rw c.info.ensures.value at c.if-line_idx-info.true

pub before_line_in-before-requires-clause-within : goal.before_line_in-before-requires-clause-within
before_line_in-before-requires-clause-within c = rw c.info.ensures.value at c.if-line_idx-info.true

pub before_line_in-before-requires-clause-found : goal.before_line_in-before-requires-clause-found
before_line_in-before-requires-clause-found c = c.at_break-descent.ensures.found

pub before_line_in-before-requires-clause-inside : goal.before_line_in-before-requires-clause-inside
before_line_in-before-requires-clause-inside c = c.at_break-descent.ensures.inside_is

pub invariant_of-result : goal.invariant_of-result
invariant_of-result c = sym c.chunk-chunk.ensures

pub returns-clause-line : goal.returns-clause-line
returns-clause-line c = rw c.in-InTree.is c.before_line_in-before.ensures.value

pub returns-clause-text : goal.returns-clause-text
returns-clause-text c = rw c.in-InTree.is c.at_break-descent.ensures.text

pub returns-clause-chunks : goal.returns-clause-chunks
returns-clause-chunks c = λ _. rw c.in-InTree.is c.at_break-descent.ensures.chunks

pub overflow_sub-result : goal.overflow_sub-result
overflow_sub-result c =
    omega (
      arith,
      c.saturating_sub-front.ensures,
      c.at_break-descent.ensures.in_order,
      c.before_line_in-before.ensures.from,
    )

pub at_counts-span-requires-clause-within : goal.at_counts-span-requires-clause-within
at_counts-span-requires-clause-within c =
    let breaks = breaks_in c.args.slice.now in
    let t = text_in c.args.slice.now in
    rw (counts_at breaks t (line_start breaks t c.args.line_idx) c.before_line-before.result
    (line_start-le-length breaks t c.args.line_idx) c.before_line-before.ensures).0
    (line_start-le-length breaks t c.args.line_idx)

pub at_counts-span-requires-clause-bytes : goal.at_counts-span-requires-clause-bytes
at_counts-span-requires-clause-bytes c =
    let breaks = breaks_in c.args.slice.now in
    let t = text_in c.args.slice.now in
    ap (λ x. x.bytes) c.before_line-before.ensures ∙ ap (λ n. byte_len (take n t))
    (sym (counts_at breaks t (line_start breaks t c.args.line_idx) c.before_line-before.result
    (line_start-le-length breaks t c.args.line_idx) c.before_line-before.ensures).0)

pub returns-2-clause-line : goal.returns-2-clause-line
returns-2-clause-line c = c.before_line-before.ensures

pub returns-2-clause-text : goal.returns-2-clause-text
returns-2-clause-text c = c.at_counts-span.ensures.text

pub returns-2-clause-chunks : goal.returns-2-clause-chunks
returns-2-clause-chunks c = c.at_counts-span.ensures.chunks

pub returns-2-clause-starts : goal.returns-2-clause-starts
returns-2-clause-starts c = c.at_counts-span.ensures.starts

pub returns-2-clause-within : goal.returns-2-clause-within
returns-2-clause-within c = c.at_counts-span.ensures.within

pub returns-2-clause-byte : goal.returns-2-clause-byte
returns-2-clause-byte c = c.at_counts-span.ensures.byte
