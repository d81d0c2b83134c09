-- The bytes and characters of a text.
use Rattle.std.proofs.Common.{ap, ◌∙◌, sym, arith}
use Rattle.std.proofs.lemmas.Str.{encodes-chars, scalars-chars, IsUtf8-from_is_utf8}
use Rattle.std.specs.Str.{encode_utf8_all, all_scalars}
use Rattle.rope_text.proofs.Walks.{byte_len-chars}
use Rattle.rope_text.specs.Text.{byte_len}
use Rattle.rope_leaf.proofs.short_text.MediumText.as_str.Goals as goal

pub returns-clause-bytes : goal.returns-clause-bytes
returns-clause-bytes c =
    sym (encodes-chars c.self.inside.text.now
    (IsUtf8-from_is_utf8 c.self.inside.text.now c.self.invariant.utf8))
    ∙ ap encode_utf8_all c.self.view_is

pub returns-clause-fits : goal.returns-clause-fits
returns-clause-fits c =
    omega (
      arith,
      ap byte_len (sym c.self.view_is),
      byte_len-chars c.self.inside.text.now
          (IsUtf8-from_is_utf8 c.self.inside.text.now c.self.invariant.utf8),
      c.self.invariant.fits,
    )

pub returns-clause-scalars : goal.returns-clause-scalars
returns-clause-scalars c = ap all_scalars (sym c.self.view_is)
    ∙ scalars-chars c.self.inside.text.now
    (IsUtf8-from_is_utf8 c.self.inside.text.now c.self.invariant.utf8)
