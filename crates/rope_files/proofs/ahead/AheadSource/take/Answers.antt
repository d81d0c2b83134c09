use Rattle.std.proofs.Common.{◌≡◌, ◌-◌, [], ◌++◌, take, drop, length, length-drop, arith, ap, subst, ◌∙◌}
use Rattle.std.proofs.Math.ListN.{drop_of_length-le}
use Rattle.std.proofs.Math.Seq.{take-append_seam}
use Rattle.std.proofs.lemmas.List.{take_all, length-take, length-append}
use Rattle.rope_files.specs.Heads.{head_bytes}
use Rattle.rope_files.proofs.Heads.{held_given, read_past}
use Rattle.rope_files.proofs.ahead.AheadSource.take.Goals as goal

pub returns-then-self-head-clause-bytes : goal.returns-then-self-head-clause-bytes
returns-then-self-head-clause-bytes g c =
    let head = c.as_slice-head.result.now in
    let at = c.args.self.now.at in
    let count = c.min-count.result in
    let buf = c.args.buf.now in
    let new = c.copy_from_slice.new.self in
    let whole : take (length head - at) (drop at head) ≡ drop at head = take_all _ (drop at head)
    (omega (arith, length-drop at head)) in
    let size : length new ≡ count = omega
    (arith, c.copy_from_slice.ensures.len, length-take count buf, c.min-count.ensures) in
    let given : take count (new ++ drop count buf)
    ≡ new = subst (λ n. take n (new ++ drop count buf) ≡ new) size
    (take-append_seam new (drop count buf)) in (
      held_given (g.S.Source.remaining c.args.self.now.source) (head_bytes c.args.self.now.head)
          (take count (new ++ drop count buf)) at count
          (given ∙ c.copy_from_slice.ensures.after ∙ ap (λ xs. take count xs) whole
          ∙ ap (λ xs. take count (drop at xs)) c.as_slice-head.ensures),
      λ none some. absurd (omega (
        arith,
        none,
        some,
        c.min-count.ensures,
        ap length whole,
        length-drop at head,
        length-append new (drop count buf),
        length-drop count buf,
        size,
        c.if-self-head.true,
      )),
    )

pub returns-clause-bytes : goal.returns-clause-bytes
returns-clause-bytes g c =
    let bytes = head_bytes c.args.self.now.head in
    let none : drop c.args.self.now.at bytes
    ≡ [] = drop_of_length-le bytes
    (omega (arith, c.if-self-head.false, ap length c.as_slice-head.ensures)) in
    read_past (drop c.args.self.now.at bytes) _ _ c.take.result c.take.new.buf none
    c.take.ensures.bytes
