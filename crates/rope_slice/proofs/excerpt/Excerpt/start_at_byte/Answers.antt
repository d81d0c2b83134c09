use Rattle.std.proofs.Common.{◌≡◌, ◌∙◌, ℕ, true, sym, ap, refl, subst, arith}
use Rattle.rope_text.specs.Conversions.{byte_to_char}
use Rattle.rope_text.specs.Edit.{is_char_boundary}
use Rattle.rope_text.proofs.ByteSlices.{start_is_boundary}
use Rattle.rope_text.proofs.ConversionLaws.{byte_to_char-char_to_byte}
use Rattle.rope_leaf.specs.Tree.{text}
use Rattle.rope_slice.specs.Edge.{start_info}
use Rattle.rope_slice.specs.Excerpt.{text_of}
use Rattle.rope_slice.proofs.excerpt.Excerpt.start_at_byte.Goals as goal

pub returns-then-byte_idx-eq0-clause-some : goal.returns-then-byte_idx-eq0-clause-some
returns-then-byte_idx-eq0-clause-some c =
    let e = c.args.self.now in
    let first : byte_to_char (text_of e) c.args.byte_idx ≡ 0 =
    ap (byte_to_char (text_of e)) c.if-byte_idx-eq0.true
    ∙ byte_to_char-char_to_byte (text_of e) 0 (omega arith) in
    e.is_excerpt.start_is ∙ ap (λ n. start_info e.node.now.breaks (text e.node.now) n)
    (omega (arith, first))

pub returns-then-byte_idx-eq0-clause-whole : goal.returns-then-byte_idx-eq0-clause-whole
returns-then-byte_idx-eq0-clause-whole c =
    let start =
    subst (λ (b : ℕ). is_char_boundary (text_of c.args.self.now) b ≡ true)
    (sym c.if-byte_idx-eq0.true) (start_is_boundary (text_of c.args.self.now)) in
    (λ _. start, λ _. refl)

pub start_at-requires-clause-place : goal.start_at-requires-clause-place
start_at-requires-clause-place c =
    rw c.in_ok-place_of_byte.ensures.some.place at c.in_ok-place_of_byte.ensures.some

pub start_at-requires-clause-inside : goal.start_at-requires-clause-inside
start_at-requires-clause-inside c = c.in_ok-place_of_byte.ensures.inside

pub returns-clause-some : goal.returns-clause-some
returns-clause-some c =
    let e = c.args.self.now in
    c.start_at.ensures ∙ ap (start_info e.node.now.breaks (text e.node.now))
    (sym c.in_ok-place_of_byte.ensures.some.place)

pub returns-clause-whole : goal.returns-clause-whole
returns-clause-whole c = ((λ _. c.in_ok-place_of_byte.ensures.whole.0 refl), (λ _. refl))

pub returns-in_err-place_of_byte-clause-whole : goal.returns-in_err-place_of_byte-clause-whole
returns-in_err-place_of_byte-clause-whole c =
    rw c.from_residual.ensures c.in_err-place_of_byte.ensures.whole
