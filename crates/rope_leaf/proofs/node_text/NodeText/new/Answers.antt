-- The empty leaf.
use Rattle.std.proofs.Common.{ap, ◌∙◌, arith, length}
use Rattle.std.specs.Str.{chars, is_utf8}
use Rattle.std.proofs.lemmas.Str.{chars-nil, IsUtf8-nil, is_utf8-from_IsUtf8}
use Rattle.rope_leaf.proofs.node_text.NodeText.new.Goals as goal

pub invariant_of-result : goal.invariant_of-result
invariant_of-result c = (
  ap is_utf8 c.new.ensures ∙ is_utf8-from_IsUtf8 _ IsUtf8-nil,
  omega (arith, ap length c.new.ensures),
)

pub returns : goal.returns
returns c = ap chars c.new.ensures ∙ chars-nil
