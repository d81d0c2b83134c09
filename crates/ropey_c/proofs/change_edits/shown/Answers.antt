use Rattle.std.proofs.Common.{rules, ap, sym, ◌∙◌}
use Rattle.std.specs.Str.{chars, encode_utf8_all}
use Rattle.std.proofs.lemmas.Str.{encodes-chars}
use Rattle.ropey_c.proofs.change_edits.shown.Goals as goal

pub returns-clause-text : goal.returns-clause-text
returns-clause-text c =
    sym (encodes-chars c.as_bytes.result.now c.as_bytes.ensures.utf8)
    ∙ ap (λ bytes. encode_utf8_all (chars bytes)) c.as_bytes.ensures.value

pub returns-clause-new_end : goal.returns-clause-new_end
returns-clause-new_end c = search rules
