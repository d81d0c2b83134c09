use Rattle.std.proofs.Common.{◌≡◌, ◌<◌, ◌^◌, length, ap, ◌∙◌, arith, rules}
use Rattle.std.proofs.lemmas.Str.{length-le-encodes}
use Rattle.rope_changes.specs.Change.{Change, ops, before, after}
use Rattle.rope_changes.specs.Built.{unchanged}
use Rattle.rope_changes.specs.Ops.{run}
use Rattle.rope_changes.proofs.Runs.{run_kept}
use Rattle.rope_documents.proofs.Batches.{unchanged_before, unchanged_after}
use Rattle.rope_documents.proofs.apply.unchanged.Goals.{In-Ok}
use Rattle.rope_documents.proofs.apply.unchanged.Goals as goal

-- a rope's text has fewer characters than the longest text of a change
pub unreachable-requires : goal.unreachable-requires
unreachable-requires c =
    let fits : c.len_chars.result < 2 ^ 63 =
    omega (
      arith,
      c.len_chars.ensures.kept.content.fits,
      c.len_chars.ensures.value,
      length-le-encodes c.args.rope.now.text,
    ) in
    let ok = rw c.in-Err.is at (c.new.ensures.ok fits) in
    absurd (cc)

made : (c : In-Ok) → c.in-Ok.change ≡ unchanged (length c.args.rope.now.text)
made c = search rules

pub returns-clause-applies : goal.returns-clause-applies
returns-clause-applies c =
    ap (λ (x : Change). run (ops x) c.args.rope.now.text) (made c)
    ∙ run_kept (length c.args.rope.now.text) c.args.rope.now.text

pub returns-clause-len_before : goal.returns-clause-len_before
returns-clause-len_before c =
    ap (λ (x : Change). before x) (made c) ∙ unchanged_before (length c.args.rope.now.text)

pub returns-clause-len_after : goal.returns-clause-len_after
returns-clause-len_after c =
    ap (λ (x : Change). after x) (made c) ∙ unchanged_after (length c.args.rope.now.text)
