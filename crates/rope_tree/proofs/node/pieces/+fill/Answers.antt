use Rattle.std.proofs.Common.{◌∷◌, [], ◌++◌, ap, ◌∙◌}
use Rattle.rope_tree.proofs.PieceLaws.{pieces_more}
use Rattle.rope_tree.proofs.node.pieces.+fill.Goals as goal

pub returns-then-text-le-MAX_BYTES-clause-ok : goal.returns-then-text-le-MAX_BYTES-clause-ok
returns-then-text-le-MAX_BYTES-clause-ok t c =
    let node = c.in_ok-last_piece.field-0 in
    rw (c.push.ensures.items ∙ ap (λ xs. xs ++ (node ∷ [])) c.requires.1.1.0)
    c.in_ok-last_piece.ensures.ok

pub returns-clause-ok : goal.returns-clause-ok
returns-clause-ok t c =
    let first = c.in_ok-first.ensures in
    rw c.insert.ensures.items
    (pieces_more c.args.breaks c.args.text.now _ _ c.in_ok-first.first c.fill.new.pieces.items
    c.split_first.ensures first.ok first.tree c.in_ok-fill.ensures.ok)
