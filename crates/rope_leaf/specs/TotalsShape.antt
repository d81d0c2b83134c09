-- The model of running totals of either width.
use Rattle.std.specs.Prelude.{List}
use Rattle.rope_text.specs.declared.text_info.TextInfo.{TextInfo}
use Rattle.rope_leaf.specs.declared.search.Totals.TheInside.{Inside}
use Rattle.rope_leaf.specs.declared.search.Width.{Width}
use Rattle.rope_leaf.specs.declared.search.Width.TheVariants.{Narrow, Wide}

abbrev pub totals_in : Width → List TextInfo
totals_in (Narrow totals) = totals
totals_in (Wide totals) = totals.value.items

abbrev pub totals_of : Inside → List TextInfo
totals_of a = totals_in a.width
