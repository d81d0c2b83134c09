use Rattle.std.proofs.Common.{sym, ap, length, ◌∙◌}
use Rattle.rope_changes.proofs.Parts.{count_edits}
use Rattle.rope_changes.proofs.replacements.Reader.len.Goals as goal

pub returns : goal.returns
returns c =
    sym (count_edits c.self.inside.lengths.now c.self.inside.text.now) ∙ ap length c.self.view_is
