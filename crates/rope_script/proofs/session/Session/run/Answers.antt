use Rattle.rope_script.proofs.RunLaws.{running_more}
use Rattle.rope_script.proofs.session.Session.run.Goals as goal

pub loop-command-preserved : goal.loop-command-preserved
loop-command-preserved c =
    let pushed = rw c.unwrap.ensures at c.push.ensures.items in
    rw (pushed, c.reserve.ensures.items)
    (running_more c.args.self.now c.loop-command.self c.step.new.self c.args.commands.now
    c.args.replies.now.items c.loop-command.replies.items c.loop-command.command-index
    c.command-item.result c.in_ok-reply.reply c.loop-command-test.true c.command-item.is
    c.loop-command.invariant c.in_ok-reply.ensures.step)
