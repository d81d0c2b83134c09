use Rattle.std.proofs.Common.{◌≡◌, Some, None, ap, sym, ◌∙◌, subst, arith}
use Rattle.std.proofs.lemmas.List.{get_or_default}
use Rattle.rope_changes.specs.Ops.{run}
use Rattle.rope_changes.specs.Change.{ops}
use Rattle.rope_changes.proofs.Runs.{run_kept}
use Rattle.rope_history.specs.declared.history.Version.{Version}
use Rattle.rope_history.specs.Texts.{StandsAt}
use Rattle.rope_history.specs.Versions.{Versions, root, version_at, redo_of, len_of, change_to_child, standing_at}
use Rattle.rope_history.specs.Views.{history_of}
use Rattle.rope_history.proofs.StandsLaws.{redo_stands}
use Rattle.rope_history.proofs.history.History.redo.Goals as goal

pub returns-in_default-clause-text : goal.returns-in_default-clause-text
returns-in_default-clause-text c =
    let now = c.args.self.now in
    let none : redo_of now now.current ≡ None = sym c.redo_version.ensures ∙ c.in_default.is in
    sym (ap (λ o. run (ops (change_to_child now o)) c.args.rope.now.text) none
    ∙ run_kept (len_of now) c.args.rope.now.text)

pub index-requires : goal.index-requires
index-requires c =
    let h = history_of c.self.inside in
    let down : redo_of h h.current ≡ Some c.in-Some.child =
    ap (λ (s : Versions). redo_of s s.current) c.self.view_is ∙ sym c.redo_version.ensures
    ∙ c.in-Some.is in
    let kept = c.self.invariant in
    omega (arith, (kept.children h.current c.in-Some.child kept.within down).0)

pub returns-clause-stands : goal.returns-clause-stands
returns-clause-stands c = λ first stands.
    let h = history_of c.self.inside in
    let child = c.in-Some.child in
    let text = c.args.rope.now.text in
    let down : redo_of h h.current ≡ Some c.in-Some.child =
    ap (λ (s : Versions). redo_of s s.current) c.self.view_is ∙ sym c.redo_version.ensures
    ∙ c.in-Some.is in
    let lt = (c.self.invariant.children h.current child c.self.invariant.within down).0 in
    let found : c.index.result.now ≡ version_at h child =
    c.index.ensures ∙ get_or_default h.versions child c.index.result.now (root 0) lt in
    let here : StandsAt first h text =
    subst (λ h. StandsAt first h text) (sym c.self.view_is) stands in
    let after : c.apply.new.rope.text ≡ run (ops (version_at h child).change) text =
    c.in_ok-apply.ensures.ok ∙ ap (λ (x : Version). run (ops x.change) text) found in
    subst (λ t. StandsAt first (standing_at h (Some child)) t) (sym after)
    (redo_stands first text h child c.self.invariant down here)
