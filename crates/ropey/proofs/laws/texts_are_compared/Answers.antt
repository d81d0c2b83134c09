use Rattle.std.specs.Cmp.{on_total}
use Rattle.rope_text.proofs.CompareLaws.{text_cmp_total, same_from_text_cmp, text_cmp_same}
use Rattle.rope_slice.proofs.Comparing.{bytes_tell}
use Rattle.ropey.specs.View.{text_of}
use Rattle.ropey.proofs.laws.texts_are_compared.Goals as goal

pub returns-clause-equal : goal.returns-clause-equal
returns-clause-equal c = λ a b. bytes_tell a.text b.text

pub returns-clause-total : goal.returns-clause-total
returns-clause-total c = on_total text_of text_cmp_total

pub returns-clause-ties : goal.returns-clause-ties
returns-clause-ties c = λ a b.
    let tell = bytes_tell a.text b.text in
    (λ h. tell.1 (same_from_text_cmp a.text b.text h), λ h. text_cmp_same a.text b.text (tell.0 h))
