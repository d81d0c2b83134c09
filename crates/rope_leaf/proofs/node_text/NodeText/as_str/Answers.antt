-- The text of a leaf.
use Rattle.std.proofs.Common.{ap, ◌∙◌, sym, subst, arith}
use Rattle.std.proofs.lemmas.Str.{scalars-chars, IsUtf8-from_is_utf8}
use Rattle.std.specs.Str.{chars, all_scalars, IsUtf8}
use Rattle.rope_leaf.proofs.LeafTexts.{bytes_of, len_of}
use Rattle.rope_leaf.proofs.node_text.NodeText.as_str.Goals as goal

pub from_utf8_unchecked-requires : goal.from_utf8_unchecked-requires
from_utf8_unchecked-requires c =
    subst IsUtf8 (sym c.as_slice.ensures.value)
    (IsUtf8-from_is_utf8 c.self.inside.bytes.items c.self.invariant.0)

pub returns-clause-bytes : goal.returns-clause-bytes
returns-clause-bytes c = c.from_utf8_unchecked.ensures ∙ c.as_slice.ensures.value
    ∙ sym (bytes_of c.self.inside.bytes.items c.args.self.now c.self.invariant.0 c.self.view_is)

pub returns-clause-chars : goal.returns-clause-chars
returns-clause-chars c = ap chars (c.from_utf8_unchecked.ensures ∙ c.as_slice.ensures.value)
    ∙ c.self.view_is

pub returns-clause-fits : goal.returns-clause-fits
returns-clause-fits c =
    omega (
      arith,
      len_of c.self.inside.bytes.items c.args.self.now c.self.invariant.0
          c.self.view_is,
      c.self.invariant.1,
    )

pub returns-clause-scalars : goal.returns-clause-scalars
returns-clause-scalars c = ap all_scalars (sym c.self.view_is)
    ∙ scalars-chars c.self.inside.bytes.items
    (IsUtf8-from_is_utf8 c.self.inside.bytes.items c.self.invariant.0)
