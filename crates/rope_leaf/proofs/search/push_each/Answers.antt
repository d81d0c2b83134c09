use Rattle.std.proofs.Common.{◌≡◌, ◌+◌, ◌-◌, ◌<◌, inl, inr, length, get_or, ap, sym, subst, ◌∙◌, arith}
use Rattle.std.proofs.lemmas.Bool.{cases_lt}
use Rattle.rope_text.specs.declared.text_info.TextInfo.{TextInfo}
use Rattle.rope_text.specs.TextInfo.{info_sum, HasPart}
use Rattle.rope_text.proofs.InfoLaws.{same_info}
use Rattle.rope_leaf.specs.Narrow.{FitsWith}
use Rattle.rope_leaf.proofs.search.push_each.Goals.{After-get}
use Rattle.rope_leaf.proofs.search.push_each.Goals as goal

-- the counts with the others in place of the old ones
sum_turned_at : (more less total old new : TextInfo) → more ≡ info_sum less new
    → info_sum old less ≡ total → info_sum more old ≡ info_sum total new
sum_turned_at more less total old new sum part =
    same_info (info_sum more old) (info_sum total new)
    (omega (arith, ap (λ i. i.bytes) sum, ap (λ i. i.bytes) part))
    (omega (arith, ap (λ i. i.chars) sum, ap (λ i. i.chars) part))
    (omega (arith, ap (λ i. i.utf16_surrogates) sum, ap (λ i. i.utf16_surrogates) part))
    (omega (arith, ap (λ i. i.break_count) sum, ap (λ i. i.break_count) part))

-- the index after `from` of the total that is appended
module _ (c : After-get) where
  step : c.args.from + (c.loop-place.place - c.args.from) ≡ c.loop-place.place
  step = omega (arith, c.loop-place.auto.place)

  early : c.loop-place.place - c.args.from < length c.args.others.now - c.args.from
  early = omega (arith, c.loop-place-test.true, c.len-place-end.ensures, c.loop-place.auto.place)

  read : (d : TextInfo) → get_or c.args.others.now
      (c.args.from + (c.loop-place.place - c.args.from)) d ≡ c.get.result
  read d = ap (λ n. get_or c.args.others.now n d) step ∙ sym (c.get.ensures d)

  part : HasPart c.get.result c.args.old
  part =
      subst (λ i. HasPart i c.args.old) (read c.args.old)
      (c.requires.part (c.loop-place.place - c.args.from) c.args.old early)

  fits : FitsWith c.get.result c.args.old c.args.new
  fits =
      subst (λ i. FitsWith i c.args.old c.args.new) (read c.args.old)
      (c.requires.fits (c.loop-place.place - c.args.from) c.args.old early)

pub minus-requires : goal.minus-requires
minus-requires c = part c

-- the counts with the others in place of the old ones are below 2^32
pub plus-total-requires : goal.plus-total-requires
plus-total-requires c =
    let f = fits (goal.at.plus-total-requires c).After-get in
    let e = c.minus.ensures.sum in
    record {
      bytes = omega (arith, f.bytes, ap (λ i. i.bytes) e);
      chars = omega (arith, f.chars, ap (λ i. i.chars) e);
      pairs = omega (arith, f.pairs, ap (λ i. i.utf16_surrogates) e);
      breaks = omega (arith, f.breaks, ap (λ i. i.break_count) e);
    }

pub insert-requires-clause-narrow : goal.insert-requires-clause-narrow
insert-requires-clause-narrow c narrow =
    let f = fits (goal.at.insert-requires-clause-narrow c).After-get in
    let e = c.minus.ensures.sum in
    let s = c.plus-total.ensures.sum in
    record {
      bytes = omega (arith, f.bytes, ap (λ i. i.bytes) e, ap (λ i. i.bytes) s);
      chars = omega (arith, f.chars, ap (λ i. i.chars) e, ap (λ i. i.chars) s);
      pairs =
          omega (arith, f.pairs, ap (λ i. i.utf16_surrogates) e, ap (λ i. i.utf16_surrogates) s);
      breaks = omega (arith, f.breaks, ap (λ i. i.break_count) e, ap (λ i. i.break_count) s);
    }

pub loop-place-preserved : goal.loop-place-preserved
loop-place-preserved c =
    let k = (goal.at.loop-place-preserved c).After-get in
    let before = c.loop-place.invariant in
    let was = length c.args.totals.now in
    let here : length c.loop-place.totals ≡ was + (c.loop-place.place - c.args.from) = before.len in
    record {
      from = omega (arith, before.from);
      len = omega (arith, c.insert.ensures.len, before.len, before.from);
      before = λ j d lt. c.insert.ensures.before j d
          (omega (arith, lt, before.len, c.len.ensures)) ∙ before.before j d lt;
      following = λ j d lt. elim (cases_lt j (c.loop-place.place - c.args.from)) [
        | inl l ↦
            ap (λ i. info_sum i c.args.old) (c.insert.ensures.before (was + j) d
            (omega (arith, l, before.len, c.len.ensures))) ∙ before.following j d l
        | inr ge ↦
            let at : j ≡ c.loop-place.place - c.args.from = omega (arith, lt, ge, before.from) in
            let place : was + j ≡ c.len.result = omega (arith, at, before.len, c.len.ensures) in
            let other : get_or c.args.others.now (c.args.from + j) d ≡ c.get.result =
            ap (λ n. get_or c.args.others.now (c.args.from + n) d) at ∙ read k d in
            ap (λ n. info_sum (get_or c.insert.new.self n d) c.args.old) place
            ∙ ap (λ i. info_sum i c.args.old) (c.insert.ensures.here d)
            ∙ sum_turned_at c.plus-total.result c.minus.result c.get.result c.args.old c.args.new
            c.plus-total.ensures.sum c.minus.ensures.sum
            ∙ ap (λ i. info_sum i c.args.new) (sym other)
      ];
    }
