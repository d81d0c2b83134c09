use Rattle.std.proofs.Common.{◌-◌, length, subst}
use Rattle.rope_slice.specs.Slice.{content_of}
use Rattle.rope_slice.specs.Sliced.{IsSlice}
use Rattle.ropey.specs.View.{content}
use Rattle.ropey_c.proofs.Before.{part_of_rest}
use Rattle.ropey_c.proofs.slices.part_at.Goals as goal

pub returns-clause-part : goal.returns-clause-part
returns-clause-part c =
    part_of_rest (content c.args.rope.now) (content_of c.slice.result) c.args.start c.args.end
    (length c.args.rope.now.text) c.requires.ordered c.requires.within
    (subst (λ rest. IsSlice rest 0 (c.args.end - c.args.start) (content_of c.slice.result))
    c.rest_from.ensures.rest c.slice.ensures)
