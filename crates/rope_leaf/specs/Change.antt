-- Differences of the counts of texts.
use Rattle.std.specs.Prelude.{◌≡◌, ◌^◌, List}
use Rattle.rope_text.specs.declared.text_info.TextInfo.{TextInfo}
use Rattle.rope_text.specs.TextInfo.{info_of, info_sum, HasPart}
use Rattle.rope_leaf.specs.Tree.{Tree, text, joined, breaks_of}
use Rattle.rope_leaf.specs.Narrow.{IsBelow}

-- the counts of an empty text
abbrev pub no_counts : TextInfo
no_counts = record { chars = 0; utf16_surrogates = 0; break_count = 0; bytes = 0 }

-- the counts change from `old` to `new` by the difference between those of a slice before and after
pub record IsChange (before after old new : TextInfo) : Type 0 where
  pub sum : info_sum new before ≡ info_sum old after
  pub part : HasPart old before
  pub low : IsBelow (2 ^ 63) after

-- the counts of a tree grew by a value, or fell by it
abbrev pub GrowsBy : TextInfo → Tree → Tree → Type 0
GrowsBy more old new =
    IsChange no_counts more (info_of old.breaks (text old)) (info_of old.breaks (text new))

abbrev pub FallsBy : TextInfo → Tree → Tree → Type 0
FallsBy less old new =
    IsChange less no_counts (info_of old.breaks (text old)) (info_of old.breaks (text new))

-- the counts of adjacent trees grew by a value, or fell by it
abbrev pub GrowBy : TextInfo → List Tree → List Tree → Type 0
GrowBy more old new =
    IsChange no_counts more (info_of (breaks_of old) (joined old))
    (info_of (breaks_of old) (joined new))

abbrev pub FallBy : TextInfo → List Tree → List Tree → Type 0
FallBy less old new =
    IsChange less no_counts (info_of (breaks_of old) (joined old))
    (info_of (breaks_of old) (joined new))
