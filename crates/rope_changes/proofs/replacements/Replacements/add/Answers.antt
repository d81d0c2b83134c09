use Rattle.std.proofs.Common.{◌≡◌, ◌≤◌, ◌⊎◌, inl, inr, [], ◌∷◌, ◌++◌, length, sym, ◌∙◌, arith}
use Rattle.std.specs.Str.{chars}
use Rattle.std.proofs.lemmas.Result.{on_ok_weaker}
use Rattle.rope_changes.specs.Change.{Edit, appended}
use Rattle.rope_changes.proofs.Appended.{appended_first}
use Rattle.rope_changes.proofs.replacements.Replacements.add.Goals.{else-kept-eq0-via-then-kept-eq0+else-len-gt0, else-kept-eq0-via-else-kept-eq0}
use Rattle.rope_changes.proofs.replacements.Replacements.add.Goals as goal

pub returns-clause-ok : goal.returns-clause-ok
returns-clause-ok c =
    let first : (length c.args.self.now ≡ 0) ⊎ (1 ≤ c.args.kept) = elim c.else-kept-eq0.branch [
      | else-kept-eq0-via-then-kept-eq0+else-len-gt0 w ↦ inl (omega arith)
      | else-kept-eq0-via-else-kept-eq0 w ↦ inr (omega arith)
    ] in
    let e : Edit = record {
      kept = c.args.kept;
      text = chars c.args.text.now;
      deleted = c.args.deleted;
    } in
    let joins : c.push.new.self ≡ c.args.self.now ++ e ∷ []
    → c.push.new.self
    ≡ appended c.args.self.now c.args.kept (chars c.args.text.now) c.args.deleted =
    λ is. is ∙ sym (appended_first c.args.self.now c.args.kept (chars c.args.text.now)
    c.args.deleted first) in
    on_ok_weaker c.push.result joins c.push.ensures.ok
