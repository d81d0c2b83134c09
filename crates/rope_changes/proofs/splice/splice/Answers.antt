use Rattle.std.proofs.Common.{◌≡◌, ℕ, List, ◌≤◌, length, take, drop, ap, rules, arith, ◌∙◌, length-append}
use Rattle.std.specs.Str.{chars}
use Rattle.rope_text.specs.Edit.{inserted, removed}
use Rattle.std.proofs.lemmas.List.{nil_from_length, length-take}
use Rattle.std.proofs.lemmas.Str.{chars-nil}
use Rattle.rope_text.specs.Text.{byte_len}
use Rattle.ropey.proofs.Refusals.{insert_error-none}
use Rattle.rope_changes.proofs.Spliced.{spliced_is}
use Rattle.rope_changes.proofs.splice.splice.Goals.{then-is_err-via-then-is_err, then-is_err-via-else-is_err+then-is_err-2}
use Rattle.rope_changes.proofs.splice.splice.Goals as goal

pub returns-clause-ok : goal.returns-clause-ok
returns-clause-ok c =
    let old = c.args.rope.now.text in
    let start = c.args.start in
    let end = c.args.end in
    let added = chars c.args.text.now in
    let gone : c.remove.new.self.text ≡ removed old start end = search rules in
    let new : c.insert.new.self.text ≡ inserted c.remove.new.self.text start added = search rules in
    new ∙ ap (λ t. inserted t start added) gone
    ∙ spliced_is old start end added c.requires.ordered c.requires.within

removed_len : (t : List ℕ) (start end : ℕ) → start ≤ end → end ≤ length t
    → start ≤ length (removed t start end)
removed_len t start end ordered within =
    omega (arith, length-append (take start t) (drop end t), length-take start t)

-- An empty text is always inserted, so a removal was refused.
pub returns-then-is_err-clause-removes : goal.returns-then-is_err-clause-removes
returns-then-is_err-clause-removes c none = elim c.then-is_err.branch [
  | then-is_err-via-then-is_err w ↦ search rules
  | then-is_err-via-else-is_err+then-is_err-2 w ↦
      let old = c.args.rope.now.text in
      let gone : c.remove.new.self.text ≡ removed old c.args.start c.args.end = search rules in
      let len = removed_len old c.args.start c.args.end c.requires.ordered c.requires.within in
      let nothing = ap chars (nil_from_length c.args.text.now none) ∙ chars-nil in
      let can = insert_error-none c.remove.new.self.text c.args.start (chars c.args.text.now)
      (omega (arith, ap length gone, len))
      (omega (arith, ap byte_len nothing, c.remove.ensures.kept.2.content.fits)) in
      let idle = w.insert.ensures.empty (ap length nothing) can in
      search rules
]
