use Rattle.std.proofs.Common.{◌≡◌, ◌++◌, take, drop, sym, ap, ap₂, ◌∙◌, arith}
use Rattle.std.proofs.lemmas.List.{append_assoc}
use Rattle.std.proofs.lemmas.Result.{IfOk-weaker}
use Rattle.rope_text.specs.Text.{byte_len}
use Rattle.rope_text.proofs.Measures.{IsMeasure-byte_len}
use Rattle.rope_leaf.specs.Leaves.{IsSeam}
use Rattle.rope_leaf.specs.Tree.{text}
use Rattle.rope_leaf.proofs.InsertLaws.{seam_ends}
use Rattle.rope_join.proofs.Seams.{can_join, join_text}
use Rattle.rope_join.proofs.long_edits.join_around.Goals.{In_ok-first}
use Rattle.rope_join.proofs.long_edits.join_around.Goals as goal

first_text : (c : In_ok-first) → text c.in_ok-first.first ≡ take c.args.start (text c.args.node.now)
    ++ text c.args.part.now
first_text c = join_text _ _ c.in_ok-first.first c.in_ok-first.ensures.join
    ∙ ap (λ z. z ++ text c.args.part.now) c.in_ok-front.ensures.front.text_is

pub join-requires-2 : goal.join-requires-2
join-requires-2 c =
    let e = (goal.at.join-requires-2 c).In_ok-first in
    let front = take c.args.start (text c.args.node.now) in
    let seam : IsSeam (text c.in_ok-first.first) (text c.in_ok-back.back) =
    rw (first_text e, c.in_ok-back.ensures.back.text_is)
    (seam_ends front (text c.args.part.now) (drop c.args.end (text c.args.node.now)) c.requires.some
    c.requires.seam_after) in
    can_join c.in_ok-first.first c.in_ok-back.back (c.in_ok-back.ensures.back.same_breaks
    ∙ sym (c.in_ok-first.ensures.join.same_breaks ∙ c.in_ok-front.ensures.front.same_breaks)) seam
    (omega (
      arith,
      c.requires.fits,
      ap byte_len (first_text e),
      IsMeasure-byte_len.joined front (text c.args.part.now),
      ap byte_len c.in_ok-back.ensures.back.text_is,
    ))

pub returns-clause-text : goal.returns-clause-text
returns-clause-text c =
    let e = (goal.at.returns-clause-text c).In_ok-first in
    IfOk-weaker c.join-2.result _ _ (λ node joined.
    join_text _ _ node joined ∙ ap₂ (λ x y. x ++ y) (first_text e) c.in_ok-back.ensures.back.text_is
    ∙ append_assoc (take c.args.start (text c.args.node.now)) (text c.args.part.now)
    (drop c.args.end (text c.args.node.now))) c.join-2.ensures.join
