use Rattle.std.proofs.Common.{◌≡◌, ◌∷◌, List, subst}
use Rattle.std.proofs.lemmas.Str.{IsCharBoundary-from_take}
use Rattle.rope_changes.specs.Packed.{AreCounted}
use Rattle.rope_changes.specs.declared.replacements.Lengths.{Lengths}
use Rattle.rope_changes.proofs.replacements.Reader.next.Goals as goal

pub split_at-requires : goal.split_at-requires
split_at-requires c =
    let first = c.in-Some.first.now in
    let text = c.self.inside.text.now in
    let is : c.self.inside.lengths.now ≡ first ∷ c.in-Some.rest.now = c.in-Some.ensures.cases.0 in
    let counted = subst (λ (ls : List Lengths). AreCounted ls text) is c.self.invariant in
    let begins = counted.0 in
    IsCharBoundary-from_take text first.bytes c.self.ranges.1.0.1 begins.within begins.utf8
