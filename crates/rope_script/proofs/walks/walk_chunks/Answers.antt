use Rattle.rope_slice.specs.Slice.{content_of, chunks_of}
use Rattle.rope_script.specs.Ask.{is_inside, chunk_place}
use Rattle.rope_script.specs.Walk.{IsTextItem}
use Rattle.rope_script.proofs.Steps.{walks_from, chunk_place-le}
use Rattle.rope_script.specs.declared.script.Reply.TheVariants.{Walk}
use Rattle.rope_script.proofs.walks.walk_chunks.Goals as goal

pub returns-in_ok-items-in-Some-clause-walk : goal.returns-in_ok-items-in-Some-clause-walk
returns-in_ok-items-in-Some-clause-walk c =
    walks_from IsTextItem (is_inside (content_of c.args.part.now) c.args.at c.args.index)
    (chunks_of c.args.part.now) (chunk_place (content_of c.args.part.now) c.args.at c.args.index)
    c.in-Some.chunks c.args.moves.now (Walk c.in_ok-items-in-Some.field-0)
    c.in-Some.ensures.0 (chunk_place-le (content_of c.args.part.now) c.args.at c.args.index)
    c.in-Some.ensures.1 c.in_ok-items-in-Some.ensures.items
