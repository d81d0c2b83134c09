use Rattle.std.proofs.Common.{◌+◌, ◌∷◌, refl, ap, arith}
use Rattle.rope_text.specs.Text.{byte_len}
use Rattle.rope_leaf.specs.Tree.{text}
use Rattle.rope_leaf.proofs.NodeLaws.{joined_one, byte_len-joined}
use Rattle.rope_tree.proofs.FirstLaws.{narrow_info, small_before, few_with, first_seen, first_listed}
use Rattle.rope_tree.proofs.node.Children.push_front.Goals as goal

pub push_front-requires-clause-small : goal.push_front-requires-clause-small
push_front-requires-clause-small c =
    small_before c.self.inside c.args.self.now c.args.node c.info.result c.self.invariant
    c.self.view_is c.requires.level c.info.ensures.value

pub push_front-requires-clause-narrow : goal.push_front-requires-clause-narrow
push_front-requires-clause-narrow c =
    rw c.info.ensures.value (narrow_info c.args.node.breaks (text c.args.node)
    (omega (
      arith,
      c.requires.few,
      byte_len-joined (c.args.node ∷ c.args.self.now) 1,
      ap byte_len (joined_one c.args.node),
    )))

pub push_front-requires-clause-fits : goal.push_front-requires-clause-fits
push_front-requires-clause-fits c =
    few_with c.self.inside c.args.self.now c.args.node c.info.result c.self.invariant
    c.self.view_is c.requires.level c.info.ensures.value c.requires.few

pub invariant_of-self : goal.invariant_of-self
invariant_of-self c =
    first_listed c.self.inside c.args.self.now c.args.node c.info.result c.self.invariant
    c.self.view_is c.requires.level c.info.ensures.value _ c.len-len.result c.put_first.new.nodes
    c.len-len.ensures c.requires.room c.push_front.ensures.len c.push_front.ensures.first
    c.push_front.ensures.later c.put_first.ensures refl
    (ap (λ m. m + 1) c.height.ensures.value) c.line_breaks-self-inside.ensures

pub returns : goal.returns
returns c =
    first_seen c.self.inside c.args.self.now c.args.node c.info.result c.self.invariant
    c.self.view_is c.requires.level c.info.ensures.value
    (record { height = _; breaks = _; last = c.self.inside.last; totals = _; nodes = _ })
    c.len-len.result c.put_first.new.nodes
    c.len-len.ensures c.requires.room c.push_front.ensures.len c.push_front.ensures.first
    c.push_front.ensures.later c.put_first.ensures refl
    (ap (λ m. m + 1) c.height.ensures.value) c.line_breaks-self-inside.ensures
