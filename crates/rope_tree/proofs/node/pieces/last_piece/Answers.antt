use Rattle.std.proofs.Common.{◌∷◌, []}
use Rattle.std.specs.Str.{chars}
use Rattle.rope_tree.specs.Pieces.{ArePieces}
use Rattle.rope_tree.proofs.LastCalls.{both_ok}
use Rattle.rope_tree.proofs.PieceLaws.{piece_alone}
use Rattle.rope_tree.proofs.node.pieces.last_piece.Goals as goal

pub returns-clause-ok : goal.returns-clause-ok
returns-clause-ok c =
    both_ok c.leaf_of.result _ _
    (λ node. ArePieces c.args.breaks (chars c.args.text.now) (node ∷ []))
    (λ node is tree. piece_alone c.args.breaks c.args.text.now node c.utf8.text c.requires.least is
    tree) c.leaf_of.ensures.ok c.leaf_of.ensures.tree
