use Rattle.std.proofs.Common.{ℕ, List, Some, None}
use Rattle.std.specs.Str.{chars}
use Rattle.rope_script.specs.declared.script.Item.TheVariants.{Text}
use Rattle.rope_script.specs.Walk.{IsTextItem}
use Rattle.rope_script.proofs.Steps.{gives_next}
use Rattle.rope_script.proofs.walker.ChunksWalker.next_item.Goals as goal

pub returns-in_ok-copy_of-in-Some-clause-item : goal.returns-in_ok-copy_of-in-Some-clause-item
returns-in_ok-copy_of-in-Some-clause-item c =
    λ moves items g. gives_next IsTextItem (λ x. chars x.now) c.args.self.now c.next.new.self
    (Some c.in-Some.chunk) (Some (Text c.in_ok-copy_of-in-Some.field-0))
    c.in-Some.ensures.goes.moves c.in_ok-copy_of-in-Some.ensures.text moves items g

pub returns-in-None-clause-item : goal.returns-in-None-clause-item
returns-in-None-clause-item c =
    λ moves items g. gives_next IsTextItem (λ (x : List ℕ). x) c.args.self.now c.next.new.self None
    None c.in-None.ensures.goes.moves tt moves items g
