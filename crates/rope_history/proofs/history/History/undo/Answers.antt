use Rattle.std.proofs.Common.{◌≡◌, Some, None, ap, sym, ◌∙◌, subst}
use Rattle.std.proofs.lemmas.List.{get_or_default}
use Rattle.rope_changes.specs.Ops.{run}
use Rattle.rope_changes.specs.Change.{ops}
use Rattle.rope_changes.proofs.Runs.{run_kept}
use Rattle.rope_history.specs.declared.history.Version.{Version}
use Rattle.rope_history.specs.Texts.{StandsAt}
use Rattle.rope_history.specs.Versions.{Versions, root, version_at, parent_of, len_of, change_to_parent, back_at}
use Rattle.rope_history.specs.Views.{history_of}
use Rattle.rope_history.proofs.StandsLaws.{undo_stands}
use Rattle.rope_history.proofs.VersionLaws.{back_is_history}
use Rattle.rope_history.proofs.history.History.undo.Goals.{After-self-2-1}
use Rattle.rope_history.proofs.history.History.undo.Goals as goal

pub returns-in_default-clause-text : goal.returns-in_default-clause-text
returns-in_default-clause-text c =
    let h = history_of c.self.inside in
    let within = c.self.invariant.within in
    let read : c.index-version.result.now ≡ version_at h h.current =
    c.index-version.ensures
    ∙ get_or_default h.versions h.current c.index-version.result.now (root 0) within in
    let none : parent_of c.args.self.now c.args.self.now.current ≡ None =
    ap (λ (s : Versions). parent_of s s.current) (sym c.self.view_is)
    ∙ ap (λ (v : Version). v.parent) (sym read) ∙ c.in_default.is in
    sym (ap (λ o. run (ops (change_to_parent c.args.self.now o)) c.args.rope.now.text) none
    ∙ run_kept (len_of c.args.self.now) c.args.rope.now.text)

current_is : (c : After-self-2-1)
    → c.index-version.result.now ≡ version_at (history_of c.self.inside) c.self.inside.current
current_is c =
    let h = history_of c.self.inside in
    let within = c.self.invariant.within in
    c.index-version.ensures
    ∙ get_or_default h.versions h.current c.index-version.result.now (root 0) within

up : (c : After-self-2-1)
    → parent_of (history_of c.self.inside) c.self.inside.current ≡ Some c.in-Some.parent
up c = ap (λ (v : Version). v.parent) (sym (current_is c)) ∙ c.in-Some.is

pub invariant_of-self : goal.invariant_of-self
invariant_of-self c =
    back_is_history (history_of c.self.inside) c.in-Some.parent c.self.invariant (up c)

pub returns-clause-stands : goal.returns-clause-stands
returns-clause-stands c = λ first stands.
    let h = history_of c.self.inside in
    let text = c.args.rope.now.text in
    let here : StandsAt first h text =
    subst (λ h. StandsAt first h text) (sym c.self.view_is) stands in
    let after : c.apply.new.rope.text ≡ run (ops (version_at h h.current).inverse) text =
    c.in_ok-apply.ensures.ok ∙ ap (λ (x : Version). run (ops x.inverse) text) (current_is c) in
    subst (λ t. StandsAt first (back_at h (Some c.in-Some.parent)) t) (sym after)
    (undo_stands first text h c.in-Some.parent c.self.invariant (up c) here)
