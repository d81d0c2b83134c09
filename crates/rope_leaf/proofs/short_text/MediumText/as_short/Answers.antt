use Rattle.std.proofs.Common.{ap, arith}
use Rattle.std.proofs.lemmas.Str.{IsUtf8-from_is_utf8}
use Rattle.rope_text.proofs.Walks.{byte_len-chars}
use Rattle.rope_text.specs.Text.{byte_len}
use Rattle.rope_leaf.proofs.short_text.MediumText.as_short.Goals as goal

pub new-requires : goal.new-requires
new-requires c =
    let bytes =
    byte_len-chars c.self.inside.text.now
    (IsUtf8-from_is_utf8 c.self.inside.text.now c.self.invariant.utf8) in
    omega (arith, ap byte_len c.self.view_is, bytes, c.requires)
