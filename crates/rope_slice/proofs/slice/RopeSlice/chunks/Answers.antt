use Rattle.std.proofs.Common.{◌∙◌, ap}
use Rattle.rope_text.specs.Sides.{at_place}
use Rattle.rope_slice.specs.Slice.{text_of, chunks_of}
use Rattle.rope_slice.proofs.ChunkStarts.{first_place}
use Rattle.rope_slice.proofs.slice.RopeSlice.chunks.Goals as goal

pub returns : goal.returns
returns c =
    let part = c.args.self.now in
    c.chunks_from.ensures.stands.cursor_is
    ∙ ap (at_place (chunks_of part))
    (first_place (text_of part) (chunks_of part) c.chunks_from.ensures.cut)
