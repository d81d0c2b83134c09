use Rattle.rope_script.proofs.RunLaws.{IsRunning}
use Rattle.rope_script.proofs.session.Session.run.Given as goal

abbrev pub invariant-loop-command : goal.invariant-loop-command
invariant-loop-command l =
    IsRunning l.fn.self l.commands l.fn.replies.items l.replies.items l.self l.command-index
