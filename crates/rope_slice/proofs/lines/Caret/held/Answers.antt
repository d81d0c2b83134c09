use Rattle.std.proofs.Common.{◌∙◌, ap, sym}
use Rattle.std.specs.Str.{chars}
use Rattle.rope_text.specs.Conversions.{byte_to_char}
use Rattle.rope_text.specs.LineParts.{after_byte}
use Rattle.rope_leaf.proofs.NodeTexts.{boundary_at}
use Rattle.rope_slice.proofs.Carets.{between_after}
use Rattle.rope_slice.proofs.CaretSteps.{holds_ahead}
use Rattle.rope_slice.proofs.lines.Caret.held.Goals as goal

pub range_from-requires : goal.range_from-requires
range_from-requires c = λ _. boundary_at c.chunk.result.now
    (byte_to_char (chars c.chunk.result.now) c.self.inside.inside) c.self.inside.inside c.chunk.utf8
    (sym (rw c.chunk.ensures c.self.invariant.between))

pub returns : goal.returns
returns c =
    let b = c.self.inside.inside in
    rw (← c.self.view_is) (holds_ahead c.self.inside.span b (chars c.range_from.result.now)
    (between_after c.chunk.result.now c.range_from.result.now b c.chunk.utf8
    (rw c.chunk.ensures c.self.invariant.between) c.range_from.ensures.value ∙ ap
    (λ t. after_byte t b) c.chunk.ensures))
