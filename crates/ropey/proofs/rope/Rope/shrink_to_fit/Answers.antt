-- The texts passed in and the next chunk are a prefix of the text; the new tree is a rope.
use Rattle.std.proofs.Common.{◌∙◌, ◌++◌, length, ap, sym, arith, subst}
use Rattle.std.specs.List.{concat}
use Rattle.std.proofs.lemmas.List.{append_assoc}
use Rattle.std.specs.Str.{chars}
use Rattle.rope_text.specs.Text.{byte_len}
use Rattle.rope_text.specs.Sides.{ahead}
use Rattle.rope_text.proofs.Measures.{IsMeasure-byte_len}
use Rattle.rope_text.proofs.Walks.{byte_len-chars}
use Rattle.ropey.specs.View.{RopeView, IsRope}
use Rattle.ropey.proofs.Ropes.{rope_of}
use Rattle.ropey.proofs.rope.Rope.shrink_to_fit.Goals as goal

pub append-requires : goal.append-requires
append-requires c =
    let had = c.loop-chunk.builder.text in
    let chunk = chars c.in-Some.chunk.now in
    let more = concat (ahead c.next.new.self) in
    let all =
    ap byte_len (ap (λ x. had ++ concat x) (sym c.in-Some.ensures.steps)
    ∙ c.loop-chunk.invariant.text) in
    let bytes = ap (λ b. byte_len (chars b)) (sym c.as_bytes.ensures.value)
    ∙ byte_len-chars c.as_bytes.result.now c.as_bytes.ensures.utf8
    ∙ ap length c.as_bytes.ensures.value in
    omega (
      arith,
      all,
      bytes,
      IsMeasure-byte_len.joined had (chunk ++ more),
      IsMeasure-byte_len.joined chunk more,
      c.self.invariant.fits,
      ap (λ (r : RopeView). byte_len r.text) c.self.view_is,
    )

pub loop-chunk-preserved : goal.loop-chunk-preserved
loop-chunk-preserved c =
    let had = c.loop-chunk.builder.text in
    let chunk = chars c.in-Some.chunk.now in
    let more = concat (ahead c.next.new.self) in record {
      text = ap (λ t. t ++ more) c.in_ok-append.ensures.ok ∙ append_assoc had chunk more
          ∙ ap (λ x. had ++ concat x) (sym c.in-Some.ensures.steps) ∙ c.loop-chunk.invariant.text;
      breaks = c.append.ensures.breaks ∙ c.loop-chunk.invariant.breaks;
    }

pub returns-in_err-append-clause-kept : goal.returns-in_err-append-clause-kept
returns-in_err-append-clause-kept c =
    subst IsRope c.self.view_is (rope_of c.self.inside.root c.self.invariant)

pub returns-in_err-self-inside-clause-kept : goal.returns-in_err-self-inside-clause-kept
returns-in_err-self-inside-clause-kept c =
    subst IsRope c.self.view_is (rope_of c.self.inside.root c.self.invariant)

pub returns-clause-kept : goal.returns-clause-kept
returns-clause-kept c = rope_of _ c.in_ok-self-inside.ensures.tree
