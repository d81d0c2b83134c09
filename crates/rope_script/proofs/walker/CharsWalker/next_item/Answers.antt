use Rattle.std.proofs.Common.{Some, None, refl}
use Rattle.rope_script.specs.declared.script.Item.TheVariants.{Char}
use Rattle.rope_script.specs.Walk.{IsCharItem}
use Rattle.rope_script.proofs.Steps.{gives_next}
use Rattle.rope_script.proofs.walker.CharsWalker.next_item.Goals as goal

pub returns-in-Some-clause-item : goal.returns-in-Some-clause-item
returns-in-Some-clause-item c =
    λ moves items g. gives_next IsCharItem (λ x. x) c.args.self.now c.next.new.self
    (Some c.in-Some.c) (Some (Char c.in-Some.c)) c.in-Some.ensures.goes.moves refl moves items g

pub returns-in-None-clause-item : goal.returns-in-None-clause-item
returns-in-None-clause-item c =
    λ moves items g. gives_next IsCharItem (λ x. x) c.args.self.now c.next.new.self None None
    c.in-None.ensures.goes.moves tt moves items g
