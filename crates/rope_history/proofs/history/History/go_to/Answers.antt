use Rattle.std.proofs.Common.{◌≡◌, ◌<◌, [], length, get_or, ap, sym, ◌∙◌, subst, rules}
use Rattle.rope_history.specs.Texts.{StandsAt, AreSteps, texts_of}
use Rattle.rope_history.specs.Versions.{Versions}
use Rattle.rope_history.specs.Views.{history_of}
use Rattle.rope_history.proofs.VersionLaws.{standing_is_history, versions_up}
use Rattle.rope_history.proofs.history.History.go_to.Goals.{After-drop-parents-2}
use Rattle.rope_history.proofs.history.History.go_to.Goals as goal

-- the versions stay
same : (c : After-drop-parents-2) → c.self-2.inside.versions.items ≡ c.args.self.now.versions
same c =
    ap (λ (s : Versions). s.versions) (c.self-2.view_is ∙ c.leave.ensures)
    ∙ versions_up c.args.self.now c.climb.new.parents.items

pub invariant_of-self : goal.invariant_of-self
invariant_of-self c =
    let v = c.args.version in
    standing_is_history (history_of c.self-2.inside) v c.self-2.invariant
    (subst (λ vs. v < length vs) (sym (same c)) c.requires)

pub returns-clause-stands : goal.returns-clause-stands
returns-clause-stands c = λ first stands.
    let now = c.args.self.now in
    let clone : c.in-Ok.moved ≡ c.args.rope.now = search rules in
    let here : StandsAt first now c.in-Ok.moved.text =
    subst (λ r. StandsAt first now r.text) (sym clone) stands in
    record {
      steps = subst (AreSteps first []) (sym (same c)) stands.steps;
      text_is = c.in_ok-descend.ensures.text first (c.in_ok-top.ensures.text first here)
          ∙ ap (λ vs. get_or (texts_of first [] vs) c.args.version first) (sym (same c));
    }

pub returns-clause-texts : goal.returns-clause-texts
returns-clause-texts c = λ first v. ap (λ vs. get_or (texts_of first [] vs) v first) (same c)
