use Rattle.std.proofs.Common.{◌≡◌, length, ap, sym, ◌∙◌, subst}
use Rattle.std.proofs.lemmas.List.{get_or_default}
use Rattle.rope_changes.specs.Change.{after}
use Rattle.rope_history.specs.declared.history.Version.{Version}
use Rattle.rope_history.specs.Texts.{StandsAt}
use Rattle.rope_history.specs.Versions.{root, version_at}
use Rattle.rope_history.specs.Views.{history_of}
use Rattle.rope_history.proofs.StandsLaws.{len_text_at}
use Rattle.rope_history.proofs.history.History.len_chars.Goals as goal

pub returns-clause-stands : goal.returns-clause-stands
returns-clause-stands c = λ first text stands.
    let h = history_of c.self.inside in
    let within = c.self.invariant.within in
    let here : StandsAt first h text =
    subst (λ h. StandsAt first h text) (sym c.self.view_is) stands in
    let read : c.index.result.now ≡ version_at h h.current =
    c.index.ensures ∙ get_or_default h.versions h.current c.index.result.now (root 0) within in
    c.len_after.ensures ∙ ap (λ (v : Version). after v.change) read
    ∙ sym (len_text_at first text h h.current c.self.invariant within here)
    ∙ sym (ap length here.text_is)
