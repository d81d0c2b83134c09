use Rattle.std.proofs.Common.{◌≡◌, ◌+◌, ◌∙◌, refl, sym, ap, arith}
use Rattle.rope_text.specs.Edit.{is_char_boundary}
use Rattle.rope_text.specs.Conversions.{byte_to_char}
use Rattle.rope_text.specs.Text.{byte_len}
use Rattle.rope_text.proofs.ByteSlices.{end_is_boundary}
use Rattle.rope_text.proofs.ConversionLaws.{byte_to_char-byte_len}
use Rattle.rope_leaf.specs.Tree.{text}
use Rattle.rope_slice.specs.Edge.{end_info}
use Rattle.rope_slice.specs.Excerpt.{text_of}
use Rattle.rope_slice.proofs.Measured.{measured}
use Rattle.rope_slice.proofs.excerpt.Excerpt.end_at_byte.Goals as goal

pub returns-then-byte_idx-info-clause-some : goal.returns-then-byte_idx-info-clause-some
returns-then-byte_idx-info-clause-some c =
    let s = c.args.self.now in
    let own = text_of s in
    let m = measured _ _ _ _ s.is_excerpt in
    let size : c.args.byte_idx ≡ byte_len own = c.if-byte_idx-info.true
    ∙ ap (λ x. x.bytes) c.info.ensures.value in
    let last = ap (byte_to_char own) size ∙ byte_to_char-byte_len own in
    let end : s.end.chars ≡ s.start.chars + byte_to_char own c.args.byte_idx =
    omega (arith, last, m.chars) in
    s.is_excerpt.end_is ∙ ap (end_info s.node.now.breaks (text s.node.now)) end

pub returns-then-byte_idx-info-clause-whole : goal.returns-then-byte_idx-info-clause-whole
returns-then-byte_idx-info-clause-whole c =
    let own = text_of c.args.self.now in (
      (λ h. ap (is_char_boundary own) (c.if-byte_idx-info.true
          ∙ ap (λ x. x.bytes) c.info.ensures.value) ∙ end_is_boundary own),
      (λ h. refl),
    )

pub end_at-requires-clause-place : goal.end_at-requires-clause-place
end_at-requires-clause-place c =
    rw c.in_ok-place_of_byte.ensures.some.place at c.in_ok-place_of_byte.ensures.some

pub end_at-requires-clause-inside : goal.end_at-requires-clause-inside
end_at-requires-clause-inside c = c.in_ok-place_of_byte.ensures.inside

pub returns-clause-some : goal.returns-clause-some
returns-clause-some c =
    let e = c.args.self.now in
    c.end_at.ensures ∙ ap (end_info e.node.now.breaks (text e.node.now))
    (sym c.in_ok-place_of_byte.ensures.some.place)

pub returns-clause-whole : goal.returns-clause-whole
returns-clause-whole c = ((λ _. c.in_ok-place_of_byte.ensures.whole.0 refl), (λ _. refl))

pub returns-in_err-place_of_byte-clause-whole : goal.returns-in_err-place_of_byte-clause-whole
returns-in_err-place_of_byte-clause-whole c =
    rw c.from_residual.ensures c.in_err-place_of_byte.ensures.whole
