-- The bytes written when lines are served.
use Rattle.std.specs.Prelude.{◌≡◌, ℕ, List, [], ◌++◌, Option}
use Rattle.std.specs.Io.KnownBytes.{Appends}
use Rattle.rope_text.specs.Content.{Content}
use Rattle.rope_script.specs.declared.script.Command.{Command}
use Rattle.rope_script.specs.declared.script.Reply.{Reply}
use Rattle.rope_protocol.specs.ReplyLine.{reply_lines}
use Rattle.rope_script.specs.Step.{Runs}

-- bytes were put, the last of which are still buffered: the writer's bytes and the buffered ones,
-- before and after
pub record Puts (old new : Option (List ℕ)) (before after bytes : List ℕ) : Type 0 where
  pub out : List ℕ
  pub appended : Appends old new out
  pub joined : out ++ after ≡ before ++ bytes

-- a run of some commands changed the ropes from one list to another, and the lines of its replies
-- were put
pub record PutsRun (ropes left : List Content) (old new : Option (List ℕ))
    (before after : List ℕ) : Type 0 where
  pub commands : List Command
  pub replies : List Reply
  pub run : Runs ropes commands replies left
  pub put : Puts old new before after (reply_lines replies)

-- the bytes written are the lines of the replies of a run that begins without ropes, in order and
-- complete
pub record WritesReplies (old new : Option (List ℕ)) : Type 0 where
  pub commands : List Command
  pub replies : List Reply
  pub left : List Content
  pub run : Runs [] commands replies left
  pub appended : Appends old new (reply_lines replies)
