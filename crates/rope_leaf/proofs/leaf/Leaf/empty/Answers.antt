use Rattle.std.proofs.Common.{[], arith}
use Rattle.rope_text.specs.declared.line_breaks.LineBreaks.TheVariants.{Lf}
use Rattle.rope_leaf.proofs.Infos.{info_within}
use Rattle.rope_leaf.proofs.leaf.Leaf.empty.Goals as goal

pub new-requires-2 : goal.new-requires-2
new-requires-2 c = rw (c.new.ensures Lf) (info_within Lf [] 984 (omega arith))
