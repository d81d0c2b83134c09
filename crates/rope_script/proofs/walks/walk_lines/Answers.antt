use Rattle.std.proofs.Common.{nat_le, arith}
use Rattle.std.proofs.lemmas.Bool.{le-leb}
use Rattle.rope_text.specs.LineParts.{lines_of}
use Rattle.rope_text.specs.Lines.{line_count}
use Rattle.rope_text.proofs.LinePartLaws.{length-lines_of}
use Rattle.rope_slice.specs.Slice.{content_of, text_of, breaks_of}
use Rattle.rope_script.specs.Walk.{IsLineItem}
use Rattle.rope_script.proofs.Steps.{walks_from}
use Rattle.rope_script.specs.declared.script.Reply.TheVariants.{Walk}
use Rattle.rope_script.proofs.walks.walk_lines.Goals as goal

pub returns-in_ok-items-in-Some-clause-walk : goal.returns-in_ok-items-in-Some-clause-walk
returns-in_ok-items-in-Some-clause-walk c =
    walks_from IsLineItem (nat_le c.args.index
    (line_count (breaks_of c.args.part.now) (text_of c.args.part.now)))
    (lines_of (content_of c.args.part.now)) c.args.index c.in-Some.lines c.args.moves.now
    (Walk c.in_ok-items-in-Some.field-0)
    (le-leb _ _ c.in-Some.ensures.0)
    (omega (arith, length-lines_of (content_of c.args.part.now), c.in-Some.ensures.0))
    c.in-Some.ensures.1 c.in_ok-items-in-Some.ensures.items
