use Rattle.std.proofs.Common.{ap, arith}
use Rattle.rope_text.specs.Text.{byte_len}
use Rattle.rope_text.proofs.Walks.{byte_len-chars}
use Rattle.rope_leaf.specs.Tree.{text}
use Rattle.rope_leaf.proofs.TreeLaws.{low_tree}
use Rattle.rope_text.proofs.Measures.{IsMeasure-byte_len, size_parts}
use Rattle.rope_join.proofs.long_edits.insert_apart.Goals as goal

-- the two sides and the new text together
pub append-requires-clause-fits : goal.append-requires-clause-fits
append-requires-clause-fits c =
    omega (
      arith,
      c.requires.fits,
      size_parts byte_len IsMeasure-byte_len (text c.args.node.now) c.args.at,
      ap byte_len c.in_ok-front.ensures.front.text_is,
      ap byte_len c.in_ok-middle.ensures.text,
      byte_len-chars c.args.added.now c.utf8.added,
    )

pub append-requires-2-clause-fits : goal.append-requires-2-clause-fits
append-requires-2-clause-fits c =
    omega (
      arith,
      c.requires.fits,
      size_parts byte_len IsMeasure-byte_len (text c.args.node.now) c.args.at,
      ap byte_len c.in_ok-front.ensures.front.text_is,
      ap byte_len c.in_ok-back.ensures.back.text_is,
      ap byte_len c.in_ok-middle.ensures.text,
      byte_len-chars c.args.added.now c.utf8.added,
      ap byte_len c.in_ok-first.ensures.text,
      IsMeasure-byte_len.joined (text c.in_ok-front.front) (text c.in_ok-middle.middle),
    )

-- the nodes made for the front, the back, the new tree and the two appends; no tree is higher than
-- 18
pub returns-clause-made : goal.returns-clause-made
returns-clause-made c =
    omega (
      arith,
      c.in_ok-front.ensures.made,
      c.in_ok-back.ensures.made,
      c.in_ok-middle.ensures.made,
      c.in_ok-first.ensures.made,
      c.append-2.ensures.made,
      low_tree c.in_ok-front.front c.in_ok-front.ensures.tree,
      low_tree c.in_ok-back.back c.in_ok-back.ensures.tree,
      low_tree c.in_ok-middle.middle c.in_ok-middle.ensures.tree,
      low_tree c.in_ok-first.first c.in_ok-first.ensures.tree,
    )

pub returns-in_err-first-clause-made : goal.returns-in_err-first-clause-made
returns-in_err-first-clause-made c =
    omega (
      arith,
      c.in_ok-front.ensures.made,
      c.in_ok-back.ensures.made,
      c.in_ok-middle.ensures.made,
      c.append.ensures.made,
      low_tree c.in_ok-front.front c.in_ok-front.ensures.tree,
      low_tree c.in_ok-middle.middle c.in_ok-middle.ensures.tree,
    )

pub returns-in_err-first-clause-searched : goal.returns-in_err-first-clause-searched
returns-in_err-first-clause-searched c =
    let front = low_tree c.in_ok-front.front c.in_ok-front.ensures.tree in
    let middle = low_tree c.in_ok-middle.middle c.in_ok-middle.ensures.tree in
    record {
      rise = omega arith;
      nodes = omega (arith, front, middle);
      compares = omega (arith, front, middle);
    }

pub returns-clause-searched : goal.returns-clause-searched
returns-clause-searched c =
    let front = low_tree c.in_ok-front.front c.in_ok-front.ensures.tree in
    let back = low_tree c.in_ok-back.back c.in_ok-back.ensures.tree in
    let middle = low_tree c.in_ok-middle.middle c.in_ok-middle.ensures.tree in
    let first = low_tree c.in_ok-first.first c.in_ok-first.ensures.tree in
    record {
      rise = omega arith;
      nodes = omega (arith, front, back, middle, first);
      compares = omega (arith, front, back, middle, first);
    }
