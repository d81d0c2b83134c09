-- The model of running totals kept in rows, one for each kind of count.
use Rattle.std.specs.Prelude.{◌≡◌, ℕ, ◌<◌, ◌≤◌, List, length, map, slice_index}
use Rattle.std.specs.List.{range_with_len}
use Rattle.rope_text.specs.declared.TheConstants.{MAX_CHILDREN}
use Rattle.rope_text.specs.declared.text_info.TextInfo.{TextInfo}
use Rattle.rope_leaf.specs.declared.search.count_rows.CountRows.TheInside.{Inside}
use Rattle.rope_leaf.specs.Narrow.{IsNarrow}

-- the counts at an index
abbrev pub counts_at : Inside → ℕ → TextInfo
counts_at a k = record {
  bytes = slice_index a.bytes k;
  chars = slice_index a.chars k;
  utf16_surrogates = slice_index a.pairs k;
  break_count = slice_index a.breaks k;
}

abbrev pub all_totals : Inside → List TextInfo
all_totals a = map (counts_at a) (range_with_len 0 a.len)

-- each row has 24 entries; the first `len` are in use, with counts below 2^32
pub record IsTotals (a : Inside) : Type 0 where
  pub few : a.len ≤ MAX_CHILDREN
  pub bytes : length a.bytes ≡ MAX_CHILDREN
  pub chars : length a.chars ≡ MAX_CHILDREN
  pub pairs : length a.pairs ≡ MAX_CHILDREN
  pub breaks : length a.breaks ≡ MAX_CHILDREN
  pub below : (k : ℕ) → k < a.len → IsNarrow (counts_at a k)
