use Rattle.std.proofs.Common.{◌≡◌, ◌<◌, length, ap, sym, ◌∙◌, subst}
use Rattle.std.proofs.lemmas.List.{get_or_default}
use Rattle.rope_changes.specs.Change.{ops, before, after}
use Rattle.rope_changes.proofs.ChangeLaws.{lengths}
use Rattle.rope_history.specs.declared.history.Version.{Version}
use Rattle.rope_history.specs.Versions.{Versions, root, version_at}
use Rattle.rope_history.specs.Views.{history_of}
use Rattle.rope_history.proofs.history.History.step_down.Goals as goal

pub returns-clause-len : goal.returns-clause-len
returns-clause-len c =
    let h = history_of c.self.inside in
    let v = c.args.version in
    let found = c.index.result.now in
    let text = c.args.rope.now.text in
    let lt : v < length h.versions =
    subst (λ (s : Versions). v < length s.versions) (sym c.self.view_is) c.requires.within in
    let read : found ≡ version_at h v =
    c.index.ensures ∙ get_or_default h.versions v found (root 0) lt in
    let same : found ≡ version_at c.args.self.now v =
    read ∙ ap (λ (s : Versions). version_at s v) c.self.view_is in
    let begins : before found.change ≡ length text =
    ap (λ (x : Version). before x.change) same ∙ sym c.requires.len in
    ap length c.in_ok-apply.ensures.ok ∙ lengths (ops found.change) text begins
    ∙ ap (λ (x : Version). after x.change) same
