use Rattle.std.proofs.Common.{◌∙◌, ap, arith}
use Rattle.rope_text.specs.Text.{byte_len}
use Rattle.rope_text.proofs.Measures.{IsMeasure-byte_len, size_le}
use Rattle.rope_leaf.specs.Tree.{text}
use Rattle.rope_slice.proofs.Measured.{measured}
use Rattle.rope_slice.proofs.ExcerptLines.{up_to, counts_up_to, counts_of_all}
use Rattle.rope_slice.proofs.excerpt.Excerpt.counts_to.Goals as goal

pub returns-then-place-self-clause-value : goal.returns-then-place-self-clause-value
returns-then-place-self-clause-value c = c.info.ensures.value
    ∙ counts_of_all _ _ _ _ c.args.place c.args.self.now.is_excerpt
    (omega (arith, c.if-place-self.true))

pub returns-then-place-self-clause-bytes : goal.returns-then-place-self-clause-bytes
returns-then-place-self-clause-bytes c =
    let s = c.args.self.now in
    let m = measured _ _ _ _ s.is_excerpt in
    omega (
      arith,
      ap (λ x. x.bytes) c.info.ensures.value,
      ap (λ x. x.bytes) c.requires.counts,
      m.bytes,
      m.end_bytes,
      size_le byte_len IsMeasure-byte_len (text s.node.now) s.end.chars c.args.place.chars
          (omega (arith, c.if-place-self.true)),
    )

pub minus-requires : goal.minus-requires
minus-requires c =
    let m = measured _ _ _ _
    (up_to _ _ _ _ _ c.args.self.now.is_excerpt c.requires.later c.requires.counts
    (omega (arith, c.if-place-self.false))) in
    record { bytes = omega arith; chars = omega arith; pairs = omega arith; breaks = omega arith }

pub returns-clause-value : goal.returns-clause-value
returns-clause-value c =
    counts_up_to _ _ _ _ _ c.args.self.now.is_excerpt c.minus.result c.requires.later
    c.requires.counts (omega (arith, c.if-place-self.false)) c.minus.ensures.sum

pub returns-clause-bytes : goal.returns-clause-bytes
returns-clause-bytes c =
    let s = c.args.self.now in
    let m = measured _ _ _ _ s.is_excerpt in
    omega (
      arith,
      ap (λ x. x.bytes) c.minus.ensures.sum,
      ap (λ x. x.bytes) c.requires.counts,
      m.end_bytes,
      size_le byte_len IsMeasure-byte_len (text s.node.now) c.args.place.chars s.end.chars
          (omega (arith, c.if-place-self.false)),
    )
