use Rattle.std.proofs.Common.{◌≡◌, ◌<◌, ◌++◌, ◌∷◌, [], Some, length, refl, ap, sym, ◌∙◌, subst, arith}
use Rattle.rope_changes.specs.Ops.{run}
use Rattle.rope_changes.specs.Change.{ops}
use Rattle.rope_history.specs.Texts.{source, texts_of, text_at}
use Rattle.rope_history.specs.Versions.{IsPath, parent_of, version_at}
use Rattle.rope_history.proofs.StandsLaws.{text_at_is}
use Rattle.rope_history.proofs.VersionLaws.{path_last, path_none, path_within}
use Rattle.rope_history.proofs.history.History.descend.Goals.{After-step_down-arg-1}
use Rattle.rope_history.proofs.history.History.descend.Goals as goal

pub loop-child-init : goal.loop-child-init
loop-child-init c =
    let h = c.args.self.now in
    let given = c.requires in
    let lt = path_within h c.args.version c.args.path.now.items c.args.top given.history
    given.within given.path in
    (c.args.top, (lt, given.path, given.len, λ first is. is, refl, given.rope))

-- the last version of the path is a child of the one that was reached
last : (c : After-step_down-arg-1)
    → IsPath c.args.self.now c.args.version c.pop.new.self.items c.in-Some.child
    × (parent_of c.args.self.now c.in-Some.child ≡ Some c.loop-child.invariant.0)
last c =
    let h = c.args.self.now in
    let v = c.args.version in
    let x = c.loop-child.invariant.0 in
    let left = c.pop.new.self.items in
    let items : c.loop-child.path.items ≡ left ++ c.in-Some.child ∷ [] =
    c.in-Some.ensures.items in
    path_last h v left c.in-Some.child x
    (subst (λ path. IsPath h v path x) items c.loop-child.invariant.1.1)

within : (c : After-step_down-arg-1) → c.in-Some.child < length c.args.self.now.versions
within c =
    path_within c.args.self.now c.args.version c.pop.new.self.items c.in-Some.child
    c.requires.history c.requires.within (last c).0

pub step_down-requires : goal.step_down-requires
step_down-requires c =
    let a = (goal.at.step_down-requires c).After-step_down-arg-1 in
    let follows = c.requires.history.follows c.in-Some.child c.loop-child.invariant.0
    (within a) (last a).1 in
    record { within = within a; len = c.loop-child.invariant.1.2 ∙ sym follows }

pub loop-child-preserved : goal.loop-child-preserved
loop-child-preserved c =
    let a = (goal.at.loop-child-preserved c).After-step_down-arg-1 in
    let h = c.args.self.now in
    let child = c.in-Some.child in
    let inv = c.loop-child.invariant.1 in (
      child,
      (
        within a,
        (last a).0,
        c.in_ok-step_down.ensures.len,
        λ first is.
            c.in_ok-step_down.ensures.text
            ∙ ap (run (ops (version_at h child).change))
            (inv.3 first is ∙ ap (source first (texts_of first [] h.versions)) (sym (last a).1))
            ∙ sym (text_at_is first h child c.requires.history (within a)),
        c.step_down.ensures.breaks ∙ inv.4,
        c.step_down.ensures.kept,
      ),
    )

pub returns : goal.returns
returns c =
    let h = c.args.self.now in
    let inv = c.loop-child.invariant.1 in
    let none : length c.loop-child.path.items ≡ 0 = omega (arith, c.in_default.ensures.cases.0) in
    let x = c.loop-child.invariant.0 in
    let end = path_none h c.args.version c.loop-child.path.items x none inv.1 in
    record {
      text = λ first is. inv.3 first is ∙ ap (text_at first h) (sym end);
      error = tt;
      too_long = λ is. absurd (cc);
      breaks = inv.4;
      kept = inv.5;
    }
