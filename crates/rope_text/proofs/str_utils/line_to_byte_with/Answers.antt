use Rattle.std.proofs.Common.{subst, sym}
use Rattle.std.specs.Str.{chars, IsCharBoundary}
use Rattle.rope_text.specs.Lines.{line_start}
use Rattle.rope_text.proofs.TextParts.{byte_len_boundary}
use Rattle.rope_text.proofs.str_utils.line_to_byte_with.Goals as goal

pub returns-clause-boundary : goal.returns-clause-boundary
returns-clause-boundary c =
    subst (IsCharBoundary c.args.text.now) (sym c.front_of_line.ensures.bytes)
    (byte_len_boundary c.args.text.now
    (line_start c.args.breaks (chars c.args.text.now) c.args.line_idx) c.utf8.text)
