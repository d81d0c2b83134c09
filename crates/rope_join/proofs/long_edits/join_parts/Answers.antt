use Rattle.std.proofs.Common.{sym, ◌∙◌}
use Rattle.rope_join.proofs.long_edits.join_parts.Goals as goal

pub join_sides-requires-clause-seam : goal.join_sides-requires-clause-seam
join_sides-requires-clause-seam c =
    record { apart = sym c.meets.ensures.value ∙ c.if-not-meets.true }
