use Rattle.std.proofs.Common.{◌≡◌, ℕ, ◌-◌, ◌++◌, ◌∷◌, [], List, Option, Some, None, length, ap, sym, ◌∙◌, subst, arith, length-append}
use Rattle.rope_changes.specs.Ops.{run}
use Rattle.rope_changes.specs.Change.{before, ops}
use Rattle.rope_history.specs.declared.history.History.TheInside.{Inside}
use Rattle.rope_history.specs.declared.history.Version.{Version}
use Rattle.rope_history.specs.Texts.{StandsAt, text_at}
use Rattle.rope_history.specs.Versions.{Versions, IsHistory, len_of, with_child, committed}
use Rattle.rope_history.specs.Views.{history_of}
use Rattle.rope_history.proofs.StandsLaws.{commit_stands, texts_stay}
use Rattle.rope_history.proofs.VersionLaws.{child_is_history}
use Rattle.rope_history.proofs.history.History.commit.Goals.{After-self-1}
use Rattle.rope_history.proofs.history.History.commit.Goals as goal

abbrev inside : After-self-1 → Inside
inside c =
    record {
      versions = c.push_both.new.versions;
      redo = c.push_both.new.redo;
      current = c.len.result - 1;
      alloc = c.self.inside.alloc;
    }

abbrev of_parts : List Version → List (Option ℕ) → ℕ → Versions
of_parts versions redo current = record { versions = versions; redo = redo; current = current }

made : (c : After-self-1) → history_of (inside c)
    ≡ with_child (history_of c.self.inside) c.args.change c.in_ok-inverse.inverse
made c =
    let h = history_of c.self.inside in
    let child : Version =
    record { parent = Some h.current; change = c.args.change; inverse = c.in_ok-inverse.inverse } in
    let versions : c.push_both.new.versions.items ≡ h.versions ++ child ∷ [] =
    c.push_both.ensures.versions ∙ ap (λ vs. vs ++ child ∷ []) c.reserve.ensures.items in
    let redo : c.push_both.new.redo.items ≡ h.redo ++ None ∷ [] =
    c.push_both.ensures.redo ∙ ap (λ os. os ++ None ∷ []) c.reserve-else-is_err.ensures.items in
    let len = length-append h.redo (None ∷ []) in
    let current : c.len.result - 1 ≡ length h.versions =
    omega (arith, c.len.ensures, ap length redo, len, c.self.invariant.marked) in
    ap (λ vs. of_parts vs c.push_both.new.redo.items (c.len.result - 1)) versions
    ∙ ap (λ os. of_parts (h.versions ++ child ∷ []) os (c.len.result - 1)) redo
    ∙ ap (of_parts (h.versions ++ child ∷ []) (h.redo ++ None ∷ [])) current

is_committed : (c : After-self-1)
    → history_of (inside c) ≡ committed c.args.self.now c.args.change c.args.rope.now.text
is_committed c =
    made c ∙ ap (λ h. with_child h c.args.change c.in_ok-inverse.inverse) c.self.view_is
    ∙ ap (with_child c.args.self.now c.args.change) c.in_ok-inverse.ensures.ok

-- the change is one of the rope's text
fits : (c : After-self-1) → before c.args.change ≡ length c.args.rope.now.text
fits c = c.in_ok-inverse.ensures.follows ∙ sym c.in_ok-inverse.ensures.agrees

pub returns-clause-ok : goal.returns-clause-ok
returns-clause-ok c = is_committed c

pub returns-clause-stands : goal.returns-clause-stands
returns-clause-stands c = λ first stands.
    let text = c.args.rope.now.text in
    subst (λ t. StandsAt first (history_of (inside c)) t) (sym c.in_ok-apply.ensures.ok)
    (subst (λ h. StandsAt first h (run (ops c.args.change) text)) (sym (is_committed c))
    (commit_stands first text c.args.self.now c.args.change (fits c) stands))

pub returns-clause-texts : goal.returns-clause-texts
returns-clause-texts c = λ first v lt.
    ap (λ (h : Versions). text_at first h v)
    (made c ∙ ap (λ h. with_child h c.args.change c.in_ok-inverse.inverse) c.self.view_is)
    ∙ texts_stay first c.args.self.now c.args.change c.in_ok-inverse.inverse v lt

pub invariant_of-self-2 : goal.invariant_of-self-2
invariant_of-self-2 c =
    let h = history_of c.self.inside in
    let follows : before c.args.change ≡ len_of h =
    c.in_ok-inverse.ensures.follows ∙ ap len_of (sym c.self.view_is) in
    subst IsHistory (sym (made c))
    (child_is_history h c.args.change c.in_ok-inverse.inverse c.self.invariant follows
    c.in_ok-inverse.ensures.len_before c.in_ok-inverse.ensures.len_after)
