use Rattle.std.proofs.Common.{◌∙◌, arith}
use Rattle.rope_slice.proofs.Measured.{measured}
use Rattle.rope_slice.proofs.ExcerptLines.{line_later, line_place_within, line_counts, own_line}
use Rattle.rope_slice.proofs.excerpt.Excerpt.before_line_in.Goals.{After-line_start_in}
use Rattle.rope_slice.proofs.excerpt.Excerpt.before_line_in.Goals as goal

pub line_start_in-requires-clause-within : goal.line_start_in-requires-clause-within
line_start_in-requires-clause-within c = let m = measured _ _ _ _ c.args.self.now.is_excerpt in
    omega (arith, c.place-place.ensures.value, m.count, m.all_breaks)

pub line_start_in-requires-clause-found : goal.line_start_in-requires-clause-found
line_start_in-requires-clause-found c = rw c.place-place.ensures.value c.requires.found

pub counts_to-requires-clause-later : goal.counts_to-requires-clause-later
counts_to-requires-clause-later c =
    line_later _ _ _ _ _ c.args.self.now.is_excerpt c.args.line_idx _ c.requires.later
    c.place-place.ensures.value c.line_start_in.ensures.before

pub counts_to-requires-clause-within : goal.counts_to-requires-clause-within
counts_to-requires-clause-within c =
    line_place_within _ _ _ _ _ c.args.self.now.is_excerpt c.args.line_idx _ c.requires.later
    c.place-place.ensures.value c.line_start_in.ensures.before

pub counts_to-requires-clause-counts : goal.counts_to-requires-clause-counts
counts_to-requires-clause-counts c =
    line_counts _ _ _ _ _ c.args.self.now.is_excerpt c.args.line_idx _ c.requires.later
    c.place-place.ensures.value c.line_start_in.ensures.before

pub returns-clause-value : goal.returns-clause-value
returns-clause-value c = c.counts_to.ensures.value
    ∙ own_line _ _ _ _ _ c.args.self.now.is_excerpt c.args.line_idx _ c.requires.later
    c.place-place.ensures.value c.line_start_in.ensures.before

pub returns-clause-from : goal.returns-clause-from
returns-clause-from c =
    omega (arith, c.counts_to.ensures.bytes, c.line_start_in.ensures.from)

pub returns-clause-upto : goal.returns-clause-upto
returns-clause-upto c =
    omega (arith, c.counts_to.ensures.bytes, c.line_start_in.ensures.upto)
