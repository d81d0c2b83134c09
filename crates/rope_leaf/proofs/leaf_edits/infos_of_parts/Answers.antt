use Rattle.std.proofs.Common.{◌≡◌, ◌+◌, ◌++◌, ap, ◌∙◌, arith}
use Rattle.std.specs.Str.{chars}
use Rattle.std.proofs.lemmas.Str.{length-le-encodes}
use Rattle.rope_text.specs.declared.text_info.TextInfo.{TextInfo}
use Rattle.rope_text.specs.TextInfo.{info_of, info_sum}
use Rattle.rope_text.proofs.InfoLaws.{break_count-le-length, rest_of_sum}
use Rattle.rope_leaf.proofs.CountLaws.{shared_le}
use Rattle.rope_leaf.proofs.PartCounts.{parts_sum, sum_turned, rest_is}
use Rattle.rope_leaf.proofs.leaf_edits.infos_of_parts.Goals.{After-shared_breaks}
use Rattle.rope_leaf.proofs.leaf_edits.infos_of_parts.Goals as goal

pub overflow_add-both : goal.overflow_add-both
overflow_add-both c =
    let cs = chars c.args.front.now ++ chars c.args.back.now in
    omega (
      arith,
      ap (λ i. i.break_count) c.requires.info,
      ap (λ i. i.bytes) c.requires.info,
      c.requires.fits,
      break_count-le-length c.args.breaks cs,
      length-le-encodes cs,
      c.shared_breaks.ensures,
      shared_le c.args.breaks (chars c.args.front.now) (chars c.args.back.now),
    )

abbrev both : After-shared_breaks → TextInfo
both c = record {
  bytes = c.args.info.bytes;
  chars = c.args.info.chars;
  utf16_surrogates = c.args.info.utf16_surrogates;
  break_count = c.args.info.break_count + c.shared_breaks.result;
}

sum : (c : After-shared_breaks) → both c ≡ info_sum (info_of c.args.breaks (chars c.args.front.now))
    (info_of c.args.breaks (chars c.args.back.now))
sum c =
    parts_sum c.args.breaks c.args.info c.shared_breaks.result (chars c.args.front.now)
    (chars c.args.back.now) c.requires.info c.shared_breaks.ensures

turned : (c : After-shared_breaks) → both c
    ≡ info_sum (info_of c.args.breaks (chars c.args.back.now))
    (info_of c.args.breaks (chars c.args.front.now))
turned c = sum c
    ∙ sum_turned (info_of c.args.breaks (chars c.args.front.now))
    (info_of c.args.breaks (chars c.args.back.now))

pub minus-requires : goal.minus-requires
minus-requires c =
    rw c.of_short-first.ensures
    (rest_of_sum _ _ _ (turned (goal.at.minus-requires c).After-shared_breaks))

pub returns-then-front-back-clause-back : goal.returns-then-front-back-clause-back
returns-then-front-back-clause-back c =
    rest_is _ _ _ _ _ (turned (goal.at.returns-then-front-back-clause-back c).After-shared_breaks)
    c.of_short-first.ensures c.minus.ensures.sum

pub minus-requires-2 : goal.minus-requires-2
minus-requires-2 c =
    rw c.of_short-second.ensures
    (rest_of_sum _ _ _ (sum (goal.at.minus-requires-2 c).After-shared_breaks))

pub returns-clause-front : goal.returns-clause-front
returns-clause-front c =
    rest_is _ _ _ _ _ (sum (goal.at.returns-clause-front c).After-shared_breaks)
    c.of_short-second.ensures c.minus-2.ensures.sum
