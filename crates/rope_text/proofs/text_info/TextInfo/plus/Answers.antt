use Rattle.std.proofs.Common.{ap₂, ◌∙◌, sym}
use Rattle.rope_text.specs.TextInfo.{info_sum}
use Rattle.rope_text.proofs.InfoLaws.{info_of-append_apart}
use Rattle.rope_text.proofs.text_info.TextInfo.plus.Goals as goal

pub returns-clause-joined : goal.returns-clause-joined
returns-clause-joined c breaks s t p q apart = ap₂ info_sum p q
    ∙ sym (info_of-append_apart breaks s t apart)
