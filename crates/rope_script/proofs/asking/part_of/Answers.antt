use Rattle.std.proofs.Common.{Some, ap, sym, ◌∙◌}
use Rattle.ropey.specs.View.{content}
use Rattle.rope_slice.specs.Slice.{content_of}
use Rattle.rope_script.specs.Part.{part_of}
use Rattle.rope_script.proofs.Contents.{whole_slice}
use Rattle.rope_script.proofs.asking.part_of.Goals as goal

pub returns-in-None : goal.returns-in-None
returns-in-None c =
    ap (part_of (content c.args.rope.now)) c.in-None.is
    ∙ ap Some (sym (whole_slice (content c.args.rope.now) (content_of c.slice.result)
    c.len_bytes.ensures.kept.content c.slice.ensures))
