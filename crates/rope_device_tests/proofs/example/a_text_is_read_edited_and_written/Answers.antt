-- The text read is known.
use Rattle.rope_device_tests.proofs.Texts.{is_first}
use Rattle.rope_device_tests.proofs.example.a_text_is_read_edited_and_written.Goals as goal

pub expect_edited-requires-clause-text : goal.expect_edited-requires-clause-text
expect_edited-requires-clause-text c =
    is_first c.in_ok-rope.rope.text c.as_slice.result.now c.in_ok-rope.ensures.ok
    c.as_slice.ensures

pub expect_edited-requires-clause-breaks : goal.expect_edited-requires-clause-breaks
expect_edited-requires-clause-breaks c = c.in_ok-rope.ensures.kept.0
