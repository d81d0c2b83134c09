use Rattle.std.proofs.Common.{◌∷◌, [], refl, sym, ap, ◌∙◌}
use Rattle.std.specs.List.{concat}
use Rattle.std.specs.Str.{chars}
use Rattle.rope_text.specs.Sides.{ahead}
use Rattle.ropey_c.proofs.Copying.{next_fits, next_copied, all_copied}
use Rattle.ropey_c.proofs.copies.copy_chunks.Goals as goal

pub loop-chunk-init : goal.loop-chunk-init
loop-chunk-init c = record {
  before = [];
  whole = sym c.len_bytes.ensures.kept.cut.joined
      ∙ ap (λ x. concat (ahead x))
      (sym (c.into_iter-chunk-iterator.ensures.into_iter_gives ∙ c.chunks-chunk-items.ensures));
  place = refl;
  written = refl;
}

pub write_at-requires : goal.write_at-requires
write_at-requires c =
    let s = c.as_bytes-bytes.result.now in
    let more = ahead c.next.new.self in
    next_fits _ _ _ _ _ c.loop-chunk.invariant s more (c.in-Some.ensures.steps
    ∙ ap (λ b. chars b ∷ more) (sym c.as_bytes-bytes.ensures.value)) c.as_bytes-bytes.ensures.utf8
    c.requires

pub loop-chunk-preserved : goal.loop-chunk-preserved
loop-chunk-preserved c =
    let s = c.as_bytes-bytes.result.now in
    let more = ahead c.next.new.self in
    next_copied _ _ _ _ _ c.loop-chunk.invariant s more (c.in-Some.ensures.steps
    ∙ ap (λ b. chars b ∷ more) (sym c.as_bytes-bytes.ensures.value)) c.as_bytes-bytes.ensures.utf8 _
    c.write_at.ensures

pub returns : goal.returns
returns c = all_copied _ _ _ _ _ c.loop-chunk.invariant c.in-None.ensures.steps.0
