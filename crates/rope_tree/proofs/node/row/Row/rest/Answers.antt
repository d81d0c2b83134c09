use Rattle.std.proofs.Common.{◌≡◌, ◌+◌, ◌-◌, length, take, drop, sym, ap, ◌∙◌, subst, arith}
use Rattle.std.proofs.lemmas.List.{take_all, length-drop, drop_min}
use Rattle.std.proofs.lemmas.Option.{IfSome_then}
use Rattle.rope_tree.specs.Rows.{IsPart}
use Rattle.rope_tree.proofs.PartLaws.{part_within, part_rest}
use Rattle.rope_tree.proofs.node.row.Row.rest.Goals as goal

pub returns-clause-row : goal.returns-clause-row
returns-clause-row c = IfSome_then c.args.self.totals c.requires (λ totals p.
    let ts = c.args.self.nodes.now in
    let few = part_within ts totals.now c.args.self.from p in
    let from : c.args.self.from + c.min-past.result ≡ c.saturating_add.result =
    omega (arith, few, p.few, c.min-past.ensures, c.saturating_add.ensures) in
    let is : take (length ts - c.min-past.result) (drop c.min-past.result ts)
    ≡ drop c.args.past ts =
    take_all (length ts - c.min-past.result) (drop c.min-past.result ts)
    (omega (arith, length-drop c.min-past.result ts)) ∙ ap (λ k. drop k ts) c.min-past.ensures
    ∙ drop_min c.args.past ts in
    subst (λ us. IsPart us totals.now c.saturating_add.result) (sym is)
    (subst (IsPart (drop c.args.past ts) totals.now) from
    (part_rest ts totals.now c.args.self.from p c.args.past c.min-past.result c.min-past.ensures)))
