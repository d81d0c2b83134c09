use Rattle.std.proofs.Common.{[]}
use Rattle.rope_text.specs.TextInfo.{info_of}
use Rattle.rope_text.proofs.InfoLaws.{same_info}
use Rattle.rope_text.specs.Breaks.{break_ends}
use Rattle.rope_text.proofs.text_info.TextInfo.new.Goals as goal

pub returns : goal.returns
unfolding break_ends
returns c breaks =
    let none = c.default.ensures in
    same_info _ (info_of breaks []) none.1.1.1 none.0 none.1.0 none.1.1.0
