use Rattle.rope_slice.specs.Slice.{content_of}
use Rattle.std.proofs.Common.{◌∙◌}
use Rattle.rope_slice.proofs.PartsBetween.{line_from, line_to, line_ordered, line_within, line_apart, line_is}
use Rattle.rope_slice.proofs.slice.RopeSlice.line.Goals as goal

pub between-requires-clause-from_is : goal.between-requires-clause-from_is
between-requires-clause-from_is c =
    line_from (content_of c.args.self.now) c.args.line_idx c.requires
    c.around_line-line.result.start c.around_line-line.result.end c.around_line-line.ensures.start
    c.around_line-line.ensures.end

pub between-requires-clause-to_is : goal.between-requires-clause-to_is
between-requires-clause-to_is c =
    line_to (content_of c.args.self.now) c.args.line_idx c.requires c.around_line-line.result.start
    c.around_line-line.result.end c.around_line-line.ensures.start c.around_line-line.ensures.end

pub between-requires-clause-ordered : goal.between-requires-clause-ordered
between-requires-clause-ordered c =
    line_ordered (content_of c.args.self.now) c.args.line_idx c.requires
    c.around_line-line.result.start c.around_line-line.result.end c.around_line-line.ensures.start
    c.around_line-line.ensures.end

pub between-requires-clause-within : goal.between-requires-clause-within
between-requires-clause-within c =
    line_within (content_of c.args.self.now) c.args.line_idx c.requires
    c.around_line-line.result.start c.around_line-line.result.end c.around_line-line.ensures.start
    c.around_line-line.ensures.end

pub between-requires-clause-apart : goal.between-requires-clause-apart
between-requires-clause-apart c =
    line_apart (content_of c.args.self.now) c.args.line_idx c.requires
    c.around_line-line.result.start c.around_line-line.result.end c.around_line-line.ensures.start
    c.around_line-line.ensures.end

pub returns : goal.returns
returns c = c.between.ensures
    ∙ line_is (content_of c.args.self.now) c.args.line_idx c.requires
    c.around_line-line.result.start c.around_line-line.result.end c.around_line-line.ensures.start
    c.around_line-line.ensures.end
