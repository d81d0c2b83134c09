use Rattle.std.proofs.Common.{◌≡◌, take, subst, sym, ap, ◌∙◌, arith}
use Rattle.std.specs.Str.{chars, encode_utf8_all, IsCharBoundary}
use Rattle.std.proofs.lemmas.Str.{encodes-chars, IsUtf8-from_is_utf8}
use Rattle.rope_text.specs.Text.{byte_len}
use Rattle.rope_text.proofs.TextParts.{byte_len_boundary}
use Rattle.rope_text.proofs.AsciiTexts.{ascii_front}
use Rattle.rope_leaf.proofs.ShortTexts.{ascii, as_many}
use Rattle.rope_leaf.proofs.short_text.ShortText.char_to_byte_idx.Goals as goal

pub returns-then-self-clause-value : goal.returns-then-self-clause-value
returns-then-self-clause-value c =
    let e = ascii c.self.inside c.args.self.now c.self.invariant c.self.view_is c.if-self.true in
    omega (
      arith,
      c.min.ensures,
      as_many c.self.inside c.args.self.now c.self.invariant
          c.self.view_is c.if-self.true,
      ascii_front c.args.self.now e c.args.char_idx,
    )

pub returns-then-self-clause-boundary : goal.returns-then-self-clause-boundary
returns-then-self-clause-boundary c =
    let bs = c.self.inside.text.now in
    let u = IsUtf8-from_is_utf8 bs c.self.invariant.utf8 in
    let e = ascii c.self.inside c.args.self.now c.self.invariant c.self.view_is c.if-self.true in
    let place : byte_len (take c.args.char_idx (chars bs)) ≡ c.min.result =
    ap (λ s. byte_len (take c.args.char_idx s)) c.self.view_is
    ∙ omega (
      arith,
      c.min.ensures,
      as_many c.self.inside c.args.self.now c.self.invariant
          c.self.view_is c.if-self.true,
      ascii_front c.args.self.now e c.args.char_idx,
    ) in
    let bytes = encodes-chars bs u in
    subst (λ s. IsCharBoundary (encode_utf8_all s) c.min.result) c.self.view_is
    (subst (λ x. IsCharBoundary x c.min.result) (sym bytes)
    (subst (IsCharBoundary bs) place (byte_len_boundary bs c.args.char_idx u)))

pub returns-then-self-2-clause-boundary : goal.returns-then-self-2-clause-boundary
returns-then-self-2-clause-boundary c =
    let bs = c.self.inside.text.now in
    let bytes = encodes-chars bs (IsUtf8-from_is_utf8 bs c.self.invariant.utf8) in
    subst (λ s. IsCharBoundary (encode_utf8_all s) c.char_to_byte_idx_of.result) c.self.view_is
    (subst (λ x. IsCharBoundary x c.char_to_byte_idx_of.result) (sym bytes)
    c.char_to_byte_idx_of.ensures.boundary)

pub returns-else-self-2-clause-boundary : goal.returns-else-self-2-clause-boundary
returns-else-self-2-clause-boundary c =
    let bs = c.self.inside.text.now in
    let bytes = encodes-chars bs (IsUtf8-from_is_utf8 bs c.self.invariant.utf8) in
    subst (λ s. IsCharBoundary (encode_utf8_all s) c.char_to_byte_idx.result) c.self.view_is
    (subst (λ x. IsCharBoundary x c.char_to_byte_idx.result) (sym bytes)
    c.char_to_byte_idx.ensures.boundary)
