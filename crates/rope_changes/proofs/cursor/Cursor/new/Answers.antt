use Rattle.std.proofs.Common.{refl, ap, sym, ◌∙◌, subst, arith}
use Rattle.std.specs.Str.{chars}
use Rattle.rope_changes.specs.Change.{Change, before, after, ops, ops_of}
use Rattle.rope_changes.specs.Left.{AreChanging}
use Rattle.rope_changes.proofs.Lefts.{all_changing}
use Rattle.rope_changes.proofs.cursor.Cursor.new.Goals as goal

pub invariant_of-result : goal.invariant_of-result
unfolding chars
invariant_of-result c = record {
  counted = refl;
  changing =
      subst AreChanging (sym c.read.ensures)
      (all_changing c.change.inside.edits c.change.invariant.normal);
}

pub returns-clause-left : goal.returns-clause-left
unfolding chars
returns-clause-left c =
    ap (λ es. ops_of es c.change.inside.rest) c.read.ensures ∙ ap ops c.change.view_is

pub returns-clause-before_fits : goal.returns-clause-before_fits
returns-clause-before_fits c = omega (arith, ap (λ (x : Change). before x) c.change.view_is)

pub returns-clause-after_fits : goal.returns-clause-after_fits
returns-clause-after_fits c = omega (arith, ap (λ (x : Change). after x) c.change.view_is)
