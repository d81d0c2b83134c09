-- The text is known, and so are those after the edits.
use Rattle.std.proofs.Common.{arith}
use Rattle.rope_device_tests.proofs.Texts.{may_remove, ten, may_slice}
use Rattle.rope_device_tests.proofs.example.replace_line.Goals as goal

pub remove-requires : goal.remove-requires
remove-requires c = may_remove c.args.rope.now.text c.requires

pub insert-requires : goal.insert-requires
insert-requires c =
    omega (
      arith,
      ten c.args.rope.now.text c.remove.new.self.text c.requires c.in_ok-remove.ensures.ok.1,
    )

pub returns : goal.returns
returns c =
    may_slice c.args.rope.now.text c.remove.new.self.text c.insert.new.self.text c.requires
    c.in_ok-remove.ensures.ok.1 c.in_ok-insert.ensures.ok.1
