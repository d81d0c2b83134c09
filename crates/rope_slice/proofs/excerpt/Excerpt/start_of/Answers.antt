use Rattle.std.proofs.Common.{◌∙◌, sym, ap, arith}
use Rattle.rope_leaf.specs.Tree.{text}
use Rattle.rope_slice.specs.Edge.{start_info}
use Rattle.rope_slice.proofs.excerpt.Excerpt.start_of.Goals as goal

pub returns-then-char_idx-eq0 : goal.returns-then-char_idx-eq0
returns-then-char_idx-eq0 c =
    let e = c.args.self.now in
    e.is_excerpt.start_is ∙ ap (start_info e.node.now.breaks (text e.node.now)) (omega arith)

pub start_at-requires-clause-place : goal.start_at-requires-clause-place
start_at-requires-clause-place c =
    rw c.place_of_char.ensures.place.place at c.place_of_char.ensures.place

pub start_at-requires-clause-inside : goal.start_at-requires-clause-inside
start_at-requires-clause-inside c = c.place_of_char.ensures.inside

pub returns : goal.returns
returns c =
    let e = c.args.self.now in
    c.start_at.ensures ∙ ap (start_info e.node.now.breaks (text e.node.now))
    (sym c.place_of_char.ensures.place.place)
