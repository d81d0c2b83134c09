use Rattle.std.proofs.Common.{ap, sym, ◌∙◌, arith}
use Rattle.rope_changes.specs.Left.{Left, left}
use Rattle.rope_changes.proofs.NormalLaws.{keeping_split}
use Rattle.rope_changes.proofs.cursor.Cursor.skip_kept.Goals as goal

pub returns : goal.returns
returns c =
    sym (ap left c.self.view_is)
    ∙ keeping_split c.self.inside.kept c.args.count _
    (omega (arith, ap (λ (x : Left). x.kept) c.self.view_is))
