use Rattle.std.proofs.Common.{◌≡◌, sym, ap, subst, ◌∙◌, arith}
use Rattle.rope_text.specs.TextInfo.{info_of, HasPart}
use Rattle.rope_text.specs.Edit.{inserted}
use Rattle.rope_leaf.proofs.CountLaws.{counts_grow}
use Rattle.rope_leaf.specs.Counted.{AreWithin}
use Rattle.rope_leaf.proofs.Infos.{info_within, small_info}
use Rattle.rope_leaf.proofs.ChangeLaws.{grown_change}
use Rattle.rope_leaf.proofs.NodeLaws.{leaf_text}
use Rattle.rope_leaf.proofs.GrownLaws.{leaf_inserted}
use Rattle.rope_leaf.proofs.leaf.Leaf.insert_in_place.Goals.{After-put_in-after}
use Rattle.rope_leaf.proofs.leaf.Leaf.insert_in_place.Goals as goal

-- the counts of a leaf after an insert
low : (c : After-put_in-after) → AreWithin 984 c.put_in-after.result
low c =
    let now = c.put_in-after.ensures.info
    ∙ ap (info_of c.old.inside.breaks) (sym c.put_in-after.ensures.text) in
    subst (AreWithin 984) (sym now)
    (info_within c.old.inside.breaks c.put_in-after.new.leaf 984 c.put_in-after.ensures.fits)

pub new-self-inside-requires : goal.new-self-inside-requires
new-self-inside-requires c = low c

pub returns-clause-done : goal.returns-clause-done
returns-clause-done c = λ yes.
    rw (← c.self.view_is, c.new-self-inside.ensures.breaks, ← ap (λ s. s.breaks) c.old.view_is)
    (leaf_inserted c.old.inside.breaks c.self.inside.text c.put_in-after.new.leaf
    c.put_in-after.ensures.fits c.put_in-after.ensures.scalars c.args.at c.args.added.now
    c.put_in-after.ensures.text c.requires.some)

old_is : (c : After-put_in-after) → c.info-before.result
    ≡ info_of c.self.inside.summary.breaks c.self.inside.text
old_is c = c.info-before.ensures ∙ c.self.invariant.counted

new_is : (c : After-put_in-after) → c.put_in-after.result
    ≡ info_of c.self.inside.summary.breaks (inserted c.self.inside.text c.args.at c.args.added.now)
new_is c = c.put_in-after.ensures.info
    ∙ ap (λ b. info_of b (inserted c.self.inside.text c.args.at c.args.added.now))
    (ap (λ s. s.breaks) c.old.view_is)

has : (c : After-put_in-after) → HasPart c.put_in-after.result c.info-before.result
has c = rw (old_is c, new_is c)
    (counts_grow c.self.inside.summary.breaks c.self.inside.text c.args.added.now c.args.at
    c.requires.some)

pub minus-requires : goal.minus-requires
minus-requires c = has (goal.at.minus-requires c).After-put_in-after

pub returns-clause-change : goal.returns-clause-change
returns-clause-change c = λ yes.
    let e = (goal.at.returns-clause-change c).After-put_in-after in
    let new =
    new_is e ∙ ap (info_of c.self.inside.summary.breaks) (sym c.put_in-after.ensures.text) in
    let small =
    small_info c.self.inside.summary.breaks c.put_in-after.new.leaf
    (omega (arith, c.put_in-after.ensures.fits)) in
    rw (
      ← c.self.view_is,
      leaf_text c.self.inside.text,
      leaf_text c.put_in-after.new.leaf,
      ← old_is e,
      ← new,
    ) (grown_change c.info-before.result c.put_in-after.result c.minus.result c.minus.ensures.sum
    (rw new small))
