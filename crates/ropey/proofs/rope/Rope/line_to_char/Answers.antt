use Rattle.rope_text.proofs.LineLaws.{line_start-le-length, line_start_mono}
use Rattle.ropey.proofs.rope.Rope.line_to_char.Goals as goal

pub returns-clause-within : goal.returns-clause-within
returns-clause-within c = rw c.line_to_char_counted.ensures.value (line_start-le-length _ _ _)

pub returns-clause-ordered : goal.returns-clause-ordered
returns-clause-ordered c later before =
    rw c.line_to_char_counted.ensures.value (line_start_mono _ _ _ _ before)
