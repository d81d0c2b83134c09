use Rattle.std.proofs.Common.{◌≡◌, ◌∙◌, sym, ap, length, rules}
use Rattle.std.specs.String.{string_bytes}
use Rattle.rope_changes.specs.Applied.{inserted_bytes}
use Rattle.rope_changes.proofs.Parts.{bytes_of_all}
use Rattle.rope_changes.proofs.replacements.Replacements.len_bytes.Goals as goal

pub returns : goal.returns
returns c =
    (let n : c.len.result ≡ length (string_bytes c.self.inside.text) = search rules in n)
    ∙ sym
    (bytes_of_all c.self.inside.lengths.items (string_bytes c.self.inside.text) c.self.invariant)
    ∙ ap inserted_bytes c.self.view_is
