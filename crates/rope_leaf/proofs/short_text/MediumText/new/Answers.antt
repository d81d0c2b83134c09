use Rattle.std.proofs.lemmas.Str.{is_utf8-from_IsUtf8}
use Rattle.rope_text.proofs.Walks.{byte_len-chars}
use Rattle.rope_leaf.proofs.short_text.MediumText.new.Goals as goal

pub invariant_of-result : goal.invariant_of-result
invariant_of-result c = record { utf8 = is_utf8-from_IsUtf8 _ c.utf8.text; fits = c.requires }

pub returns-clause-len : goal.returns-clause-len
returns-clause-len c = byte_len-chars c.args.text.now c.utf8.text
