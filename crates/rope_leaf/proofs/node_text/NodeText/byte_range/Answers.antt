-- In a text with as many bytes as characters, the byte index is the character index.
use Rattle.std.proofs.Common.{◌≡◌, ℕ, take, length, ap, sym, subst, ◌∙◌, arith, ◌+◌, ◌-◌, drop}
use Rattle.std.specs.Str.{IsCharBoundary}
use Rattle.std.proofs.lemmas.Str.{length-le-encodes, IsCharBoundary-from_rest}
use Rattle.rope_text.specs.Text.{byte_len}
use Rattle.rope_text.proofs.TextParts.{byte_len_boundary, chars_back}
use Rattle.rope_text.proofs.AsciiTexts.{ascii_front}
use Rattle.std.proofs.lemmas.List.{length-drop}
use Rattle.std.proofs.Math.Seq.{take-add}
use Rattle.rope_text.proofs.Measures.{IsMeasure-byte_len}
use Rattle.rope_leaf.proofs.node_text.NodeText.byte_range.Goals.{After-min-then-chars-text}
use Rattle.rope_leaf.proofs.node_text.NodeText.byte_range.Goals as goal

ascii : (c : After-min-then-chars-text) → byte_len c.args.self.now ≡ length c.args.self.now
ascii c =
    omega (
      arith,
      c.if-chars-text.true,
      ap length c.as_str-text.ensures.bytes,
      c.requires.chars,
      length-le-encodes c.args.self.now,
    )

from_is : (c : After-min-then-chars-text)
    → c.min.result ≡ byte_len (take c.args.start c.args.self.now)
from_is c =
    omega (
      arith,
      c.min.ensures,
      c.requires.chars,
      ascii_front c.args.self.now (ascii c) c.args.start,
    )

to_is : (c : After-min-then-chars-text) → c.min-then-chars-text.result
    ≡ byte_len (take c.args.end c.args.self.now)
to_is c =
    omega (
      arith,
      c.min-then-chars-text.ensures,
      c.requires.chars,
      ascii_front c.args.self.now (ascii c) c.args.end,
    )

-- the bytes of a character begin at a boundary
boundary : (c : After-min-then-chars-text) (i n : ℕ) → n ≡ byte_len (take i c.args.self.now)
    → IsCharBoundary c.as_str-text.result.now n
boundary c i n is =
    let bs = c.as_str-text.result.now in
    subst (IsCharBoundary bs) (ap (λ s. byte_len (take i s)) c.as_str-text.ensures.chars ∙ sym is)
    (byte_len_boundary bs i c.as_str-text.utf8)

pub returns-then-chars-text-clause-from : goal.returns-then-chars-text-clause-from
returns-then-chars-text-clause-from c =
    from_is (goal.at.returns-then-chars-text-clause-from c).After-min-then-chars-text

pub returns-then-chars-text-clause-to : goal.returns-then-chars-text-clause-to
returns-then-chars-text-clause-to c =
    to_is (goal.at.returns-then-chars-text-clause-to c).After-min-then-chars-text

pub returns-then-chars-text-clause-from_boundary : goal.returns-then-chars-text-clause-from_boundary
returns-then-chars-text-clause-from_boundary c =
    let e = (goal.at.returns-then-chars-text-clause-from_boundary c).After-min-then-chars-text in
    subst (λ bs. IsCharBoundary bs c.min.result) c.as_str-text.ensures.bytes
    (boundary e c.args.start c.min.result (from_is e))

pub returns-then-chars-text-clause-to_boundary : goal.returns-then-chars-text-clause-to_boundary
returns-then-chars-text-clause-to_boundary c =
    let e = (goal.at.returns-then-chars-text-clause-to_boundary c).After-min-then-chars-text in
    subst (λ bs. IsCharBoundary bs c.min-then-chars-text.result) c.as_str-text.ensures.bytes
    (boundary e c.args.end c.min-then-chars-text.result (to_is e))

-- the number of characters after the first ones is the difference
pub char_to_byte_idx_of-requires : goal.char_to_byte_idx_of-requires
char_to_byte_idx_of-requires c =
    let old = c.as_str-text in
    let back =
    chars_back old.result.now _ _ c.args.start _ old.utf8 old.ensures.chars
    c.char_to_byte_idx_of-from.ensures.value c.range_from.ensures.value in
    omega (
      arith,
      ap length back,
      length-drop c.args.start c.args.self.now,
      c.requires.chars,
      c.saturating_sub-rest.ensures,
    )

pub returns-clause-to : goal.returns-clause-to
returns-clause-to c =
    let cs = c.args.self.now in
    let more = c.args.end - c.args.start in
    let old = c.as_str-text in
    let from = c.char_to_byte_idx_of-from.ensures.value in
    let back =
    chars_back old.result.now _ _ c.args.start _ old.utf8 old.ensures.chars from
    c.range_from.ensures.value in
    let first = from ∙ ap (λ l. byte_len (take c.args.start l)) old.ensures.chars in
    let second = c.char_to_byte_idx_of.ensures.value ∙ ap (λ l. byte_len (take more l)) back in
    let order : c.args.start + more ≡ c.args.end = omega arith in
    let parts = ap (λ n. byte_len (take n cs)) (sym order)
    ∙ ap byte_len (take-add c.args.start more cs) in
    omega (
      arith,
      first,
      second,
      parts,
      IsMeasure-byte_len.joined (take c.args.start cs)
          (take more (drop c.args.start cs)),
    )

pub returns-clause-from_boundary : goal.returns-clause-from_boundary
returns-clause-from_boundary c =
    subst (λ bs. IsCharBoundary bs c.char_to_byte_idx_of-from.result) c.as_str-text.ensures.bytes
    c.char_to_byte_idx_of-from.ensures.boundary

pub returns-clause-to_boundary : goal.returns-clause-to_boundary
returns-clause-to_boundary c =
    let bs = c.as_str-text.result.now in
    let from = c.char_to_byte_idx_of-from.result in
    let rest : IsCharBoundary (drop from bs) c.char_to_byte_idx_of.result =
    subst (λ x. IsCharBoundary x c.char_to_byte_idx_of.result) c.range_from.ensures.value
    c.char_to_byte_idx_of.ensures.boundary in
    subst (λ x. IsCharBoundary x (from + c.char_to_byte_idx_of.result)) c.as_str-text.ensures.bytes
    (IsCharBoundary-from_rest bs from c.char_to_byte_idx_of.result
    c.char_to_byte_idx_of-from.ensures.boundary.0 rest)
