use Rattle.std.proofs.Common.{arith}
use Rattle.rope_device_tests.proofs.Texts.{four_lines}
use Rattle.rope_device_tests.proofs.example.expect_edited.Goals as goal

pub expect_lines-requires : goal.expect_lines-requires
expect_lines-requires c =
    omega (
      arith,
      four_lines c.args.rope.now.breaks c.args.rope.now.text c.requires.breaks c.requires.text,
    )

pub replace_line-requires : goal.replace_line-requires
replace_line-requires c = c.requires.text

pub expect_first_lines-requires : goal.expect_first_lines-requires
expect_first_lines-requires c = c.in_ok-replace_line.ensures
