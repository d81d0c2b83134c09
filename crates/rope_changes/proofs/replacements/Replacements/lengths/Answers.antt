use Rattle.std.proofs.Common.{List, sym, subst}
use Rattle.std.specs.String.{string_bytes}
use Rattle.rope_changes.specs.Change.{Edit}
use Rattle.rope_changes.specs.Packed.{edits_of, AreLengths}
use Rattle.rope_changes.specs.declared.replacements.Lengths.{Lengths}
use Rattle.rope_changes.proofs.Parts.{all_lengths}
use Rattle.rope_changes.proofs.replacements.Replacements.lengths.Goals as goal

pub returns : goal.returns
returns c =
    let ls = c.self.inside.lengths.items in
    let bytes = string_bytes c.self.inside.text in
    subst (λ (es : List Edit). AreLengths es c.as_slice.result.now) c.self.view_is
    (subst (λ (xs : List Lengths). AreLengths (edits_of ls bytes) xs) (sym c.as_slice.ensures.value)
    (all_lengths ls bytes c.self.invariant))
