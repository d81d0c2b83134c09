-- Counts that change by the difference of those of a slice.
use Rattle.std.proofs.Common.{◌≡◌, ℕ, ◌+◌, ◌-◌, ◌<◌, ◌≤◌, List, [], length, get_or, set, take, refl, sym, ap, subst, ◌∙◌, arith}
use Rattle.std.proofs.lemmas.List.{length-set, take_all}
use Rattle.rope_text.specs.declared.line_breaks.LineBreaks.{LineBreaks}
use Rattle.rope_text.specs.declared.line_breaks.LineBreaks.TheVariants.{Lf}
use Rattle.rope_text.specs.declared.text_info.TextInfo.{TextInfo}
use Rattle.rope_text.proofs.BreakLaws.{break_ends-nil}
use Rattle.rope_text.specs.TextInfo.{info_of, info_sum, HasPart}
use Rattle.rope_text.proofs.InfoLaws.{same_info}
use Rattle.rope_leaf.specs.Tree.{Tree, text, joined, AreChildren}
use Rattle.rope_leaf.specs.Search.{IsSmall}
use Rattle.rope_leaf.specs.Narrow.{FitsWith}
use Rattle.rope_leaf.specs.Change.{IsChange, no_counts}
use Rattle.rope_leaf.proofs.TotalLaws.{has_part, even}

-- the counts of an empty text, as a call returns them
pub no_counts_are : (none : TextInfo) → ((breaks : LineBreaks) → none ≡ info_of breaks [])
    → none ≡ no_counts
no_counts_are none is = is Lf
    ∙ same_info (info_of Lf []) no_counts refl refl refl (ap length (break_ends-nil Lf))

pub change_from : (none more old new : TextInfo)
    → ((breaks : LineBreaks) → none ≡ info_of breaks []) → IsChange no_counts more old new
    → IsChange none more old new
change_from none more old new is c =
    subst (λ n. IsChange n more old new) (sym (no_counts_are none is)) c

pub change_seen : (none more old new : TextInfo)
    → ((breaks : LineBreaks) → none ≡ info_of breaks []) → IsChange none more old new
    → IsChange no_counts more old new
change_seen none more old new is c = subst (λ n. IsChange n more old new) (no_counts_are none is) c

pub change_to : (none less old new : TextInfo) → ((breaks : LineBreaks) → none ≡ info_of breaks [])
    → IsChange less no_counts old new → IsChange less none old new
change_to none less old new is c =
    subst (λ n. IsChange less n old new) (sym (no_counts_are none is)) c

-- the growth of the counts of a text
pub grown_change : (old new more : TextInfo) → info_sum old more ≡ new → IsSmall new
    → IsChange no_counts more old new
grown_change old new more sum small =
    let bytes = ap (λ x. x.bytes) sum in
    let chars = ap (λ x. x.chars) sum in
    let pairs = ap (λ x. x.utf16_surrogates) sum in
    let breaks = ap (λ x. x.break_count) sum in
    record {
      sum = same_info (info_sum new no_counts) (info_sum old more) (omega (arith, bytes))
          (omega (arith, chars)) (omega (arith, pairs)) (omega (arith, breaks));
      part = record {
        bytes = omega arith;
        chars = omega arith;
        pairs = omega arith;
        breaks = omega arith;
      };
      low = record {
        bytes = omega (arith, bytes, small.bytes);
        chars = omega (arith, chars, small.chars, small.bytes);
        pairs = omega (arith, pairs, small.pairs, small.chars, small.bytes);
        breaks = omega (arith, breaks, small.breaks, small.chars, small.bytes);
      };
    }

-- the decrease of the counts of a text
pub fallen_change : (old new less : TextInfo) → info_sum new less ≡ old
    → IsChange less no_counts old new
fallen_change old new less sum =
    let bytes = ap (λ x. x.bytes) sum in
    let chars = ap (λ x. x.chars) sum in
    let pairs = ap (λ x. x.utf16_surrogates) sum in
    let breaks = ap (λ x. x.break_count) sum in
    record {
      sum = same_info (info_sum new less) (info_sum old no_counts) (omega (arith, bytes))
          (omega (arith, chars)) (omega (arith, pairs)) (omega (arith, breaks));
      part = record {
        bytes = omega (arith, bytes);
        chars = omega (arith, chars);
        pairs = omega (arith, pairs);
        breaks = omega (arith, breaks);
      };
      low = record {
        bytes = omega arith;
        chars = omega arith;
        pairs = omega arith;
        breaks = omega arith;
      };
    }

module _ (before after old new : TextInfo) (c : IsChange before after old new) where
  -- a slice of a slice is a slice of the whole
  pub part_of_part : (t : TextInfo) → HasPart t old → HasPart t before
  part_of_part t p = record {
    bytes = omega (arith, p.bytes, c.part.bytes);
    chars = omega (arith, p.chars, c.part.chars);
    pairs = omega (arith, p.pairs, c.part.pairs);
    breaks = omega (arith, p.breaks, c.part.breaks);
  }

  -- counts that fit with one change fit with the other
  pub part_fits : (t : TextInfo) → FitsWith t old new → FitsWith t before after
  part_fits t f = record {
    bytes = omega (arith, f.bytes, ap (λ x. x.bytes) c.sum);
    chars = omega (arith, f.chars, ap (λ x. x.chars) c.sum);
    pairs = omega (arith, f.pairs, ap (λ x. x.utf16_surrogates) c.sum);
    breaks = omega (arith, f.breaks, ap (λ x. x.break_count) c.sum);
  }

  -- totals in which the slice was changed are those in which the text was
  pub whole_changed : (t u : TextInfo) → info_sum u before ≡ info_sum t after
      → info_sum u old ≡ info_sum t new
  whole_changed t u e =
      same_info (info_sum u old) (info_sum t new)
      (omega (arith, ap (λ x. x.bytes) e, ap (λ x. x.bytes) c.sum))
      (omega (arith, ap (λ x. x.chars) e, ap (λ x. x.chars) c.sum))
      (omega (arith, ap (λ x. x.utf16_surrogates) e, ap (λ x. x.utf16_surrogates) c.sum))
      (omega (arith, ap (λ x. x.break_count) e, ap (λ x. x.break_count) c.sum))

  -- the counts of each text that includes it change too
  pub change_above : (t u : TextInfo) → HasPart t old → info_sum u old ≡ info_sum t new
      → IsChange before after t u
  change_above t u p e = record {
    sum = same_info (info_sum u before) (info_sum t after)
        (omega (arith, ap (λ x. x.bytes) e, ap (λ x. x.bytes) c.sum))
        (omega (arith, ap (λ x. x.chars) e, ap (λ x. x.chars) c.sum))
        (omega (arith, ap (λ x. x.utf16_surrogates) e, ap (λ x. x.utf16_surrogates) c.sum))
        (omega (arith, ap (λ x. x.break_count) e, ap (λ x. x.break_count) c.sum));
    part = part_of_part t p;
    low = c.low;
  }

-- by an equal set of line breaks
pub change_by : (br : LineBreaks) (child u : Tree) (before after : TextInfo) → child.breaks ≡ br
    → IsChange before after (info_of child.breaks (text child)) (info_of child.breaks (text u))
    → IsChange before after (info_of br (text child)) (info_of br (text u))
change_by br child u before after same c =
    subst (λ b. IsChange before after (info_of b (text child)) (info_of b (text u))) same c

pub change_own : (child u : Tree) (before after : TextInfo) → u.breaks ≡ child.breaks
    → IsChange before after (info_of child.breaks (text child)) (info_of child.breaks (text u))
    → IsChange before after (info_of child.breaks (text child)) (info_of u.breaks (text u))
change_own child u before after same c =
    subst (λ b. IsChange before after (info_of child.breaks (text child)) (info_of b (text u)))
    (sym same) c

-- the counts of all children change by the difference of those of one
pub change_of_list : (br : LineBreaks) (h : ℕ) (ts : List Tree) (k : ℕ) (child u : Tree)
    → AreChildren br h ts → k < length ts → get_or ts k child ≡ child
    → AreChildren br h (set ts k u) → (before after : TextInfo)
    → IsChange before after (info_of br (text child)) (info_of br (text u))
    → IsChange before after (info_of br (joined ts)) (info_of br (joined (set ts k u)))
change_of_list br h ts k child u a within child_is b before after c =
    let us = set ts k u in
    let m : ℕ = length ts - 1 in
    let some : m + 1 ≡ length ts = omega (arith, a.at_least_two) in
    let here : m < length ts = omega (arith, some) in
    let from : k ≤ m = omega (arith, some, within) in
    let all : take (m + 1) ts ≡ ts = take_all (m + 1) ts (omega (arith, some)) in
    let all_us : take (m + 1) us ≡ us =
    take_all (m + 1) us (omega (arith, some, length-set ts k u)) in
    let p = subst (λ l. HasPart (info_of br (joined l)) (info_of br (text child))) all
    (has_part br h ts us k child u a within child_is m from here) in
    let e = subst (λ l. info_sum (info_of br (joined l)) (info_of br (text child))
    ≡ info_sum (info_of br (joined ts)) (info_of br (text u))) all_us
    (subst (λ l. info_sum (info_of br (joined (take (m + 1) us))) (info_of br (text child))
    ≡ info_sum (info_of br (joined l)) (info_of br (text u))) all
    (even br h ts us k child u a within child_is b refl m from here)) in
    change_above before after (info_of br (text child)) (info_of br (text u)) c
    (info_of br (joined ts)) (info_of br (joined us)) p e
