use Rattle.std.proofs.Common.{◌≡◌, ◌+◌, ◌++◌, List, ℕ, length, refl, sym, ap, ap₂, ◌∙◌, arith}
use Rattle.std.proofs.lemmas.List.{take_at, drop_at}
use Rattle.std.specs.Str.{chars}
use Rattle.rope_text.specs.Edit.{inserted}
use Rattle.rope_text.specs.TextInfo.{info_of, info_sum}
use Rattle.rope_text.proofs.Walks.{byte_len-chars}
use Rattle.rope_leaf.specs.Search.{IsSmall}
use Rattle.rope_leaf.proofs.Infos.{small_info, sum_of_small}
use Rattle.rope_leaf.proofs.InsertTrees.{inserted_is}
use Rattle.rope_leaf.proofs.CountLaws.{Corrects, corrects, info_apart}
use Rattle.rope_leaf.proofs.leaf_edits.info_between.Goals.{After-of_short, After-shared_breaks-2}
use Rattle.rope_leaf.proofs.leaf_edits.info_between.Goals as goal

old : (c : After-of_short) → IsSmall c.args.info
old c = rw c.requires.info
    (small_info c.args.breaks (chars c.args.front.now ++ chars c.args.back.now)
    (omega (arith, ap (λ i. i.bytes) c.requires.info, c.requires.fits)))

new : (c : After-of_short) → IsSmall c.of_short.result
new c = rw c.of_short.ensures
    (small_info c.args.breaks (chars c.args.added.now)
    (omega (arith, byte_len-chars c.args.added.now c.utf8.added, c.requires.short)))

pub plus-more-requires : goal.plus-more-requires
plus-more-requires c = sum_of_small _ _ (old c) (new c)

-- the position between the front and the back
pub between : (front a back : List ℕ) → inserted (front ++ back) (length front) a ≡ front
    ++ (a ++ back)
between front a back = inserted_is (front ++ back) (length front) a
    ∙ ap₂ (λ x y. x ++ (a ++ y)) (take_at front back _ refl) (drop_at front back _ refl)

met : (c : After-shared_breaks-2)
    → Corrects c.args.breaks (chars c.args.front.now ++ chars c.args.back.now)
    (chars c.args.added.now) (length (chars c.args.front.now)) c.plus-more.result
    c.shared_breaks-apart.result (c.shared_breaks.result + c.shared_breaks-2.result)
met c =
    let front = chars c.args.front.now in
    let back = chars c.args.back.now in
    corrects c.args.breaks (front ++ back) (chars c.args.added.now) front back (length front)
    c.plus-more.result c.shared_breaks-apart.result c.shared_breaks.result c.shared_breaks-2.result
    c.requires.some
    (sym (take_at front back _ refl))
    (sym (drop_at front back _ refl))
    (c.plus-more.ensures.sum ∙ ap₂ info_sum c.requires.info c.of_short.ensures)
    c.shared_breaks-apart.ensures c.shared_breaks.ensures c.shared_breaks-2.ensures

pub overflow_add-result : goal.overflow_add-result
overflow_add-result c =
    let e = (goal.at.overflow_add-result c).After-of_short in
    let o = old e in
    let n = new e in
    let m = met (goal.at.overflow_add-result c).After-shared_breaks-2 in
    omega (
      arith,
      o.chars,
      o.bytes,
      n.chars,
      n.bytes,
      o.breaks,
      n.breaks,
      m.apart_le,
      ap (λ i. i.break_count) c.plus-more.ensures.sum,
    )

pub overflow_sub-result : goal.overflow_sub-result
overflow_sub-result c = (met (goal.at.overflow_sub-result c).After-shared_breaks-2).met_le

pub returns : goal.returns
returns c = (met (goal.at.returns c).After-shared_breaks-2).whole
    ∙ ap (info_of c.args.breaks)
    (between (chars c.args.front.now) (chars c.args.added.now) (chars c.args.back.now))

pub returns-then-not-ends_in_cr-2 : goal.returns-then-not-ends_in_cr-2
returns-then-not-ends_in_cr-2 c =
    info_apart c.args.breaks (chars c.args.front.now) (chars c.args.added.now)
    (chars c.args.back.now) c.plus-more.result c.requires.some
    (c.plus-more.ensures.sum ∙ ap₂ info_sum c.requires.info c.of_short.ensures)
    (sym c.ends_in_cr.ensures ∙ c.if-not-ends_in_cr.true)
    (sym c.ends_in_cr-then-not-ends_in_cr.ensures ∙ c.if-not-ends_in_cr-2.true)
