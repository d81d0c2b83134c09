-- The tree of the text is a rope.
use Rattle.std.proofs.Common.{rules, ◌≤◌, ◌/◌, ◌+◌, length, ap, sym, subst, ◌∙◌}
use Rattle.rope_text.proofs.Walks.{byte_len-chars}
use Rattle.rope_text.specs.Text.{byte_len}
use Rattle.ropey.proofs.Ropes.{rope_of}
use Rattle.ropey.proofs.rope.Rope.from_str_with.Goals as goal

pub returns-clause-kept : goal.returns-clause-kept
returns-clause-kept c =
    let same =
    ap byte_len c.in_ok-root.ensures.text ∙ byte_len-chars c.args.text.now c.utf8.text in (
      search rules,
      rope_of c.in_ok-root.root c.in_ok-root.ensures.tree,
      subst (λ n. length c.in_ok-root.root.leaves ≤ (n + 980) / 981) (sym same)
          c.in_ok-root.ensures.few,
    )
