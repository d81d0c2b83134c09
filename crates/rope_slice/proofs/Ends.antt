-- The index of the end of a text fits.
use Rattle.std.proofs.Common.{◌+◌, ◌<◌, ◌^◌, arith}
use Rattle.rope_text.specs.declared.text_info.TextInfo.{TextInfo}
use Rattle.rope_leaf.specs.declared.search.Unit.{Unit}
use Rattle.rope_leaf.specs.declared.search.Unit.TheVariants.{Byte, Char, CodeUnit, LineBreak}
use Rattle.rope_leaf.specs.Search.{count_of, IsSmall}
use Rattle.rope_tree.specs.Conversions.{first_sought}

pub end_fits : (unit : Unit) (info : TextInfo) → IsSmall info
    → count_of unit info + first_sought unit < 2 ^ 64
end_fits Byte info small = omega arith
end_fits Char info small = omega arith
end_fits CodeUnit info small = omega arith
end_fits LineBreak info small = omega arith
