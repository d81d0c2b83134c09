use Rattle.std.proofs.Common.{Some, None, refl}
use Rattle.rope_script.specs.declared.script.Item.TheVariants.{Byte}
use Rattle.rope_script.specs.Walk.{IsByteItem}
use Rattle.rope_script.proofs.Steps.{gives_prev}
use Rattle.rope_script.proofs.walker.BytesWalker.prev_item.Goals as goal

pub returns-in-Some-clause-item : goal.returns-in-Some-clause-item
returns-in-Some-clause-item c =
    λ moves items g. gives_prev IsByteItem (λ x. x) c.args.self.now c.prev.new.self
    (Some c.in-Some.byte) (Some (Byte c.in-Some.byte)) c.in-Some.ensures refl moves items g

pub returns-in-None-clause-item : goal.returns-in-None-clause-item
returns-in-None-clause-item c =
    λ moves items g. gives_prev IsByteItem (λ x. x) c.args.self.now c.prev.new.self None None
    c.in-None.ensures tt moves items g
