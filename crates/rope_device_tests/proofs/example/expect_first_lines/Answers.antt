use Rattle.rope_device_tests.proofs.example.expect_first_lines.Goals as goal

pub slice-requires : goal.slice-requires
slice-requires c = c.requires
