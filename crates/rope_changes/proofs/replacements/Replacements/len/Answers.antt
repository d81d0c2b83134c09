use Rattle.std.proofs.Common.{◌≡◌, ◌∙◌, sym, ap, length, rules}
use Rattle.std.specs.String.{string_bytes}
use Rattle.rope_changes.proofs.Parts.{count_edits}
use Rattle.rope_changes.proofs.replacements.Replacements.len.Goals as goal

pub returns : goal.returns
returns c =
    (let n : c.len.result ≡ length c.self.inside.lengths.items = search rules in n)
    ∙ sym (count_edits c.self.inside.lengths.items (string_bytes c.self.inside.text))
    ∙ ap length c.self.view_is
