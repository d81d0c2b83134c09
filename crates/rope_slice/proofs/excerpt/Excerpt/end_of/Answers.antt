use Rattle.std.proofs.Common.{◌≡◌, ◌+◌, ◌∙◌, sym, ap, arith}
use Rattle.rope_leaf.specs.Tree.{text}
use Rattle.rope_slice.specs.Edge.{end_info}
use Rattle.rope_slice.proofs.Measured.{measured}
use Rattle.rope_slice.proofs.excerpt.Excerpt.end_of.Goals as goal

pub returns-then-char_idx-info : goal.returns-then-char_idx-info
returns-then-char_idx-info c =
    let e = c.args.self.now in
    let m = measured _ _ _ _ e.is_excerpt in
    let all : e.end.chars ≡ e.start.chars + c.args.char_idx =
    omega (arith, ap (λ x. x.chars) c.info.ensures.value) in
    e.is_excerpt.end_is ∙ ap (end_info e.node.now.breaks (text e.node.now)) all

pub end_at-requires-clause-place : goal.end_at-requires-clause-place
end_at-requires-clause-place c =
    rw c.place_of_char.ensures.place.place at c.place_of_char.ensures.place

pub end_at-requires-clause-inside : goal.end_at-requires-clause-inside
end_at-requires-clause-inside c = c.place_of_char.ensures.inside

pub returns : goal.returns
returns c =
    let e = c.args.self.now in
    c.end_at.ensures ∙ ap (end_info e.node.now.breaks (text e.node.now))
    (sym c.place_of_char.ensures.place.place)
