use Rattle.std.proofs.Common.{◌≡◌, ◌<◌, length, ap, sym, ◌∙◌, subst}
use Rattle.std.proofs.lemmas.List.{get_or_default}
use Rattle.rope_changes.specs.Ops.{run}
use Rattle.rope_changes.specs.Change.{ops}
use Rattle.rope_history.specs.declared.history.Version.{Version}
use Rattle.rope_history.specs.Texts.{text_at, text_before}
use Rattle.rope_history.specs.Versions.{Versions, root, version_at}
use Rattle.rope_history.specs.Views.{history_of}
use Rattle.rope_history.proofs.StandsLaws.{text_at_is}
use Rattle.rope_history.proofs.history.History.change.Goals as goal

pub returns-clause-text : goal.returns-clause-text
returns-clause-text c = λ first.
    let h = history_of c.self.inside in
    let v = c.args.version in
    let found = c.index.result.now in
    let lt : v < length h.versions =
    subst (λ (s : Versions). v < length s.versions) (sym c.self.view_is) c.requires in
    let read : found ≡ version_at h v =
    c.index.ensures ∙ get_or_default h.versions v found (root 0) lt in
    subst (λ (s : Versions). text_at first s v ≡ run (ops found.change) (text_before first s v))
    c.self.view_is
    (text_at_is first h v c.self.invariant lt
    ∙ ap (λ (x : Version). run (ops x.change) (text_before first h v)) (sym read))
