use Rattle.std.specs.Cmp.{on_total}
use Rattle.rope_text.proofs.CompareLaws.{text_cmp_total, same_from_text_cmp, text_cmp_same}
use Rattle.rope_slice.proofs.Comparing.{bytes_tell}
use Rattle.rope_slice.specs.Slice.{text_of}
use Rattle.rope_slice.proofs.laws.texts_are_compared.Goals as goal

pub returns-clause-equal : goal.returns-clause-equal
returns-clause-equal c = λ a b. bytes_tell (text_of a) (text_of b)

pub returns-clause-total : goal.returns-clause-total
returns-clause-total c = on_total text_of text_cmp_total

pub returns-clause-ties : goal.returns-clause-ties
returns-clause-ties c = λ a b.
    let tell = bytes_tell (text_of a) (text_of b) in (
      λ h. tell.1 (same_from_text_cmp (text_of a) (text_of b) h),
      λ h. text_cmp_same (text_of a) (text_of b) (tell.0 h),
    )
