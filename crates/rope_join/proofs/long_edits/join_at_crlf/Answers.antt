use Rattle.std.proofs.Common.{◌≡◌, true, ◌+◌, ◌<◌, ◌^◌, [], ◌∷◌, sym, ap, ap₂, ◌∙◌, arith}
use Rattle.std.proofs.lemmas.Str.{length-le-encodes}
use Rattle.std.proofs.lemmas.Result.{IfOk-weaker}
use Rattle.rope_text.specs.Text.{byte_len}
use Rattle.rope_leaf.specs.Tree.{text, leaf_tree}
use Rattle.rope_join.proofs.Seams.{Meets, meets, pair_first, pair_second, pair_joined, chars_crlf}
use Rattle.rope_join.proofs.long_edits.join_at_crlf.Goals.{In_ok-pair}
use Rattle.rope_join.proofs.long_edits.join_at_crlf.Goals as goal

met : (c : In_ok-pair) → Meets (text c.args.left.now) (text c.args.right.now) c.args.end
    c.args.start
met c =
    meets (text c.args.left.now) (text c.args.right.now) c.args.end c.args.start c.requires.end
    c.requires.meets

fits : (c : In_ok-pair) → byte_len (text c.in_ok-first.first) + byte_len
    (text c.in_ok-second.second) + 2 < 2 ^ 63
fits c = omega (
  arith,
  (met c).sizes,
  c.requires.fits,
  ap byte_len c.in_ok-first.ensures.front.text_is,
  ap byte_len c.in_ok-second.ensures.back.text_is,
)

breaks : (c : In_ok-pair) → c.in_ok-second.second.breaks ≡ c.in_ok-first.first.breaks
breaks c = c.in_ok-second.ensures.back.same_breaks ∙ c.requires.same_breaks
    ∙ sym c.in_ok-first.ensures.front.same_breaks

pair_is : (c : In_ok-pair) → c.in_ok-pair.pair ≡ leaf_tree c.in_ok-first.first.breaks (13 ∷ 10 ∷ [])
pair_is c = c.in_ok-pair.ensures.ok
    ∙ ap₂ leaf_tree (c.line_breaks.ensures ∙ sym c.in_ok-first.ensures.front.same_breaks) chars_crlf

pub overflow_sub-end : goal.overflow_sub-end
overflow_sub-end c =
    omega (
      arith,
      (meets (text c.args.left.now) (text c.args.right.now) c.args.end c.args.start c.requires.end
          c.requires.meets).some,
    )

pub overflow_add-start : goal.overflow_add-start
overflow_add-start c =
    omega (
      arith,
      (meets (text c.args.left.now) (text c.args.right.now) c.args.end c.args.start c.requires.end
          c.requires.meets).more,
      c.requires.tree.fits,
      length-le-encodes (text c.args.right.now),
    )

pub join-requires : goal.join-requires
join-requires c =
    let e = (goal.at.join-requires c).In_ok-pair in
    pair_first c.in_ok-first.first c.in_ok-pair.pair c.in_ok-second.second (breaks e) (pair_is e)
    (fits e)

pub join-requires-2 : goal.join-requires-2
join-requires-2 c =
    let e = (goal.at.join-requires-2 c).In_ok-pair in
    pair_second c.in_ok-first.first c.in_ok-pair.pair c.in_ok-second.second (breaks e) (pair_is e)
    (fits e) c.in_ok-ended.ended c.in_ok-ended.ensures.join

pub returns-clause-text : goal.returns-clause-text
returns-clause-text c =
    let e = (goal.at.returns-clause-text c).In_ok-pair in
    IfOk-weaker c.join-2.result _ _ (λ node joined.
    pair_joined c.in_ok-first.first c.in_ok-pair.pair c.in_ok-second.second (breaks e) (pair_is e)
    (fits e) c.in_ok-ended.ended c.in_ok-ended.ensures.join node joined
    ∙ rw (c.in_ok-first.ensures.front.text_is, c.in_ok-second.ensures.back.text_is)
    (sym (met e).text_is)) c.join-2.ensures.join
