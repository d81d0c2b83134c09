use Rattle.std.proofs.Common.{◌≡◌, ◌<◌, Some, length, ap, sym, ◌∙◌, subst}
use Rattle.std.proofs.lemmas.List.{get_or_default}
use Rattle.rope_changes.specs.Change.{ops, before, after}
use Rattle.rope_changes.proofs.ChangeLaws.{lengths}
use Rattle.rope_history.specs.declared.history.Version.{Version}
use Rattle.rope_history.specs.Versions.{Versions, root, version_at, parent_of}
use Rattle.rope_history.specs.Views.{history_of}
use Rattle.rope_history.proofs.history.History.step_up.Goals as goal

pub returns-clause-len : goal.returns-clause-len
returns-clause-len c =
    let h = history_of c.self.inside in
    let v = c.args.version in
    let p = c.in-Some.parent in
    let found = c.index-left.result.now in
    let text = c.args.rope.now.text in
    let lt : v < length h.versions =
    subst (λ (s : Versions). v < length s.versions) (sym c.self.view_is) c.requires.within in
    let read : found ≡ version_at h v =
    c.index-left.ensures ∙ get_or_default h.versions v found (root 0) lt in
    let up : parent_of h v ≡ Some p = ap (λ (x : Version). x.parent) (sym read) ∙ c.in-Some.is in
    let begins : before found.inverse ≡ length text =
    ap (λ (x : Version). before x.inverse) read ∙ c.self.invariant.inverses v lt
    ∙ ap (λ (s : Versions). after (version_at s v).change) c.self.view_is ∙ sym c.requires.len in
    ap length c.in_ok-apply.ensures.ok ∙ lengths (ops found.inverse) text begins
    ∙ ap (λ (x : Version). after x.inverse) read ∙ c.self.invariant.leads_back v lt
    ∙ c.self.invariant.follows v p lt up
    ∙ ap (λ (s : Versions). after (version_at s p).change) c.self.view_is
