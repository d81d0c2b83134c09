use Rattle.std.proofs.Common.{◌≡◌, ◌<◌, length, ap, sym, ◌∙◌, subst}
use Rattle.std.proofs.lemmas.List.{get_or_default}
use Rattle.rope_changes.specs.Ops.{run}
use Rattle.rope_changes.specs.Change.{ops}
use Rattle.rope_history.specs.declared.history.Version.{Version}
use Rattle.rope_history.specs.Texts.{StandsAt, text_at, text_before}
use Rattle.rope_history.specs.Versions.{Versions, root, version_at}
use Rattle.rope_history.specs.Views.{history_of}
use Rattle.rope_history.proofs.StandsLaws.{inverse_leads_back}
use Rattle.rope_history.proofs.history.History.inverse.Goals as goal

pub returns-clause-text : goal.returns-clause-text
returns-clause-text c = λ first text stands.
    let h = history_of c.self.inside in
    let v = c.args.version in
    let found = c.index.result.now in
    let here : StandsAt first h text =
    subst (λ h. StandsAt first h text) (sym c.self.view_is) stands in
    let lt : v < length h.versions =
    subst (λ (s : Versions). v < length s.versions) (sym c.self.view_is) c.requires in
    let read : found ≡ version_at h v =
    c.index.ensures ∙ get_or_default h.versions v found (root 0) lt in
    subst (λ (s : Versions). run (ops found.inverse) (text_at first s v) ≡ text_before first s v)
    c.self.view_is
    (ap (λ (x : Version). run (ops x.inverse) (text_at first h v)) read
    ∙ inverse_leads_back first text h v c.self.invariant lt here)
