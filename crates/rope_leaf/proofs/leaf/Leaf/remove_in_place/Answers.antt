use Rattle.std.proofs.Common.{◌≡◌, [], refl, sym, ap, subst, ◌∙◌}
use Rattle.rope_text.specs.TextInfo.{info_of, HasPart}
use Rattle.rope_text.specs.Edit.{removed}
use Rattle.rope_leaf.proofs.CountLaws.{counts_fall}
use Rattle.rope_leaf.specs.Counted.{AreWithin}
use Rattle.rope_leaf.proofs.Infos.{info_within}
use Rattle.rope_leaf.proofs.GrownLaws.{leaf_is_tree}
use Rattle.rope_leaf.proofs.NodeLaws.{leaf_text}
use Rattle.rope_leaf.proofs.ChangeLaws.{fallen_change}
use Rattle.rope_leaf.proofs.RemovalLaws.{leaf_left}
use Rattle.rope_leaf.proofs.leaf.Leaf.remove_in_place.Goals.{In-Some}
use Rattle.rope_leaf.proofs.leaf.Leaf.remove_in_place.Goals as goal

-- the counts of a leaf after a removal
low : (c : In-Some) → AreWithin 984 c.in-Some.after
low c =
    let now = c.in-Some.ensures.info
    ∙ ap (info_of c.old.inside.breaks) (sym c.in-Some.ensures.text) in
    subst (AreWithin 984) (sym now)
    (info_within c.old.inside.breaks c.take_out.new.leaf 984 c.in-Some.ensures.fits)

pub new-self-inside-requires : goal.new-self-inside-requires
new-self-inside-requires c = low c

pub returns-clause-done : goal.returns-clause-done
returns-clause-done c = λ yes.
    rw (← c.self.view_is, c.new-self-inside.ensures.breaks, ← ap (λ s. s.breaks) c.old.view_is)
    (leaf_left c.args.least.first c.args.least.last c.old.inside.breaks c.self.inside.text
    c.take_out.new.leaf c.args.start c.args.end c.in-Some.ensures.text c.requires.ordered
    (rw (← c.self.view_is) at c.requires.within)
    c.in-Some.ensures.some c.in-Some.ensures.ends
    (rw c.max-least.ensures at c.in-Some.ensures.least) c.in-Some.ensures.fits
    c.in-Some.ensures.scalars)

old_is : (c : In-Some) → c.info-before.result
    ≡ info_of c.self.inside.summary.breaks c.self.inside.text
old_is c = c.info-before.ensures ∙ c.self.invariant.counted

new_is : (c : In-Some) → c.in-Some.after
    ≡ info_of c.self.inside.summary.breaks (removed c.self.inside.text c.args.start c.args.end)
new_is c = c.in-Some.ensures.info
    ∙ ap (λ b. info_of b (removed c.self.inside.text c.args.start c.args.end))
    (ap (λ s. s.breaks) c.old.view_is)

has : (c : In-Some) → HasPart c.info-before.result c.in-Some.after
has c = rw (old_is c, new_is c)
    (counts_fall c.self.inside.summary.breaks c.self.inside.text c.args.start c.args.end
    c.requires.ordered (rw (← c.self.view_is, leaf_text c.self.inside.text) at c.requires.within))

pub minus-requires : goal.minus-requires
minus-requires c = has (goal.at.minus-requires c).In-Some

pub returns-clause-change : goal.returns-clause-change
returns-clause-change c = λ yes.
    let e = (goal.at.returns-clause-change c).In-Some in
    let new = new_is e ∙ ap (info_of c.self.inside.summary.breaks) (sym c.in-Some.ensures.text) in
    rw (
      ← c.self.view_is,
      leaf_text c.self.inside.text,
      leaf_text c.take_out.new.leaf,
      ← old_is e,
      ← new,
    ) (fallen_change c.info-before.result c.in-Some.after c.minus.result c.minus.ensures.sum)

pub returns-clause-leaf : goal.returns-clause-leaf
returns-clause-leaf c = λ yes.
    rw (
      ← c.self.view_is,
      c.new-self-inside.ensures.breaks,
      ← ap (λ s. s.breaks) c.old.view_is,
      leaf_text c.self.inside.text,
      c.in-Some.ensures.text,
    ) refl

pub returns-clause-tree : goal.returns-clause-tree
returns-clause-tree c = λ yes.
    leaf_is_tree _ [] c.take_out.new.leaf c.in-Some.ensures.fits c.in-Some.ensures.scalars
