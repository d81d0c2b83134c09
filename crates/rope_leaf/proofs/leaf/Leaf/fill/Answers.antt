use Rattle.std.proofs.Common.{◌≤◌, arith, ◌∙◌}
use Rattle.std.proofs.lemmas.Str.{scalars-chars}
use Rattle.std.specs.Str.{chars}
use Rattle.rope_text.specs.Text.{byte_len}
use Rattle.rope_text.proofs.Walks.{byte_len-chars}
use Rattle.rope_leaf.specs.Counted.{AreWithin}
use Rattle.rope_leaf.proofs.Infos.{info_within}
use Rattle.rope_leaf.proofs.leaf.Leaf.fill.Goals as goal
use Rattle.rope_leaf.proofs.leaf.Leaf.fill.Goals.{Start}

fits : (c : Start) → byte_len (chars c.args.text.now) ≤ 984
fits c = omega (arith, byte_len-chars c.args.text.now c.utf8.text, c.requires.fits)

low : (c : Start) → AreWithin 984 c.args.info
low c = rw c.requires.info (info_within c.args.breaks (chars c.args.text.now) 984 (fits c))

pub new-self-inside-requires : goal.new-self-inside-requires
new-self-inside-requires c = low (goal.at.new-self-inside-requires c).Start

pub invariant_of-self : goal.invariant_of-self
invariant_of-self c = record {
  fits = rw c.set.ensures (fits (goal.at.invariant_of-self c).Start);
  scalars = rw c.set.ensures (scalars-chars c.args.text.now c.utf8.text);
  counted =
      rw (c.set.ensures, c.new-self-inside.ensures.breaks) (c.new-self-inside.ensures.info
      ∙ c.requires.info);
}
