use Rattle.std.proofs.Common.{◌≡◌, sym, subst, rules}
use Rattle.rope_history.specs.declared.history.History.TheInside.{Inside}
use Rattle.rope_history.specs.Texts.{StandsAt}
use Rattle.rope_history.specs.Versions.{IsHistory, first_version}
use Rattle.rope_history.specs.Views.{history_of}
use Rattle.rope_history.proofs.StandsLaws.{first_stands}
use Rattle.rope_history.proofs.VersionLaws.{first_is_history}
use Rattle.rope_history.proofs.history.History.new.Goals.{Else-is_err-2}
use Rattle.rope_history.proofs.history.History.new.Goals as goal

abbrev inside : Else-is_err-2 → Inside
inside c =
    record {
      versions = c.push.new.self;
      redo = c.push-else-is_err.new.self;
      current = 0;
      alloc = c.args.alloc;
    }

made : (c : Else-is_err-2) → history_of (inside c) ≡ first_version c.args.len
made c = search rules

pub invariant_of-result : goal.invariant_of-result
invariant_of-result c = subst IsHistory (sym (made c)) (first_is_history c.args.len)

pub returns-clause-stands : goal.returns-clause-stands
returns-clause-stands c = λ text is.
    subst (λ h. StandsAt text h text) (sym (made c)) (first_stands c.args.len text is)
