use Rattle.std.proofs.Common.{Some, None}
use Rattle.rope_slice.specs.Slice.{content_of}
use Rattle.rope_script.specs.declared.script.Item.TheVariants.{Text}
use Rattle.rope_script.specs.Walk.{IsLineItem}
use Rattle.rope_script.proofs.Steps.{gives_next}
use Rattle.rope_script.proofs.walker.LinesWalker.next_item.Goals as goal

pub returns-in_ok-try_to_string-in-Some-clause-item :
    goal.returns-in_ok-try_to_string-in-Some-clause-item
returns-in_ok-try_to_string-in-Some-clause-item c =
    λ moves items g. gives_next IsLineItem content_of c.args.self.now c.next.new.self
    (Some c.in-Some.line) (Some (Text c.in_ok-try_to_string-in-Some.field-0))
    c.in-Some.ensures.goes.moves c.in_ok-try_to_string-in-Some.ensures.text moves items g

pub returns-in-None-clause-item : goal.returns-in-None-clause-item
returns-in-None-clause-item c =
    λ moves items g. gives_next IsLineItem content_of c.args.self.now c.next.new.self None None
    c.in-None.ensures.goes.moves tt moves items g
