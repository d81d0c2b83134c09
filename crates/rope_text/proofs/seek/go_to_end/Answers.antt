use Rattle.std.proofs.Common.{arith, sym, ap, ◌∙◌, ◌+◌}
use Rattle.rope_text.proofs.Blocks.{one_where}
use Rattle.rope_text.proofs.Scans.{front_step}
use Rattle.rope_text.proofs.seek.go_to_end.Goals as goal

pub loop-at-preserved : goal.loop-at-preserved
loop-at-preserved c =
    let s = c.loop-at in
    front_step c.args.breaks c.args.bytes.now s.chars s.at s.pairs _ _ s.invariant (omega arith)
    (sym c.is_mark.ensures ∙ c.if-not-is_mark.true)
    (ap (λ n. s.chars + n) (one_where _ _ c.is_mark-in-loop-at.ensures))
    (ap (λ n. s.pairs + n) (one_where _ _ c.is_mark-in-loop-at-2.ensures))
