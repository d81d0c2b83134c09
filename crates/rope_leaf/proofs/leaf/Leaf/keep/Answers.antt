use Rattle.std.proofs.Common.{◌≡◌, ◌≤◌, take, drop, ap, sym, ◌∙◌, take-append-drop, arith}
use Rattle.rope_text.specs.Text.{byte_len}
use Rattle.rope_text.specs.TextInfo.{info_of}
use Rattle.rope_text.proofs.Measures.{IsMeasure-byte_len}
use Rattle.rope_leaf.specs.Tree.{text, leaf_tree}
use Rattle.rope_leaf.specs.Counted.{AreWithin}
use Rattle.rope_leaf.proofs.Infos.{info_within}
use Rattle.rope_leaf.proofs.NodeLaws.{leaf_text}
use Rattle.rope_leaf.proofs.leaf.Leaf.keep.Goals.{After-keep_first}
use Rattle.rope_leaf.proofs.leaf.Leaf.keep.Goals as goal

-- the text that is kept
stays : (c : After-keep_first) → take c.args.info.chars (text c.args.self.now)
    ≡ c.keep_first.new.self
stays c = ap (λ t. take c.args.info.chars (text t)) (sym c.self.view_is)
    ∙ ap (take c.args.info.chars) (leaf_text c.self.inside.text) ∙ sym c.keep_first.ensures.value

fits : (c : After-keep_first) → byte_len c.keep_first.new.self ≤ 984
fits c =
    let t = c.self.inside.text in
    let n = c.args.info.chars in
    omega (
      arith,
      ap byte_len c.keep_first.ensures.value,
      IsMeasure-byte_len.joined (take n t) (drop n t),
      ap byte_len (take-append-drop n t),
      c.self.invariant.fits,
    )

low : (c : After-keep_first) → AreWithin 984 c.args.info
low c = rw (c.requires.info ∙ ap (info_of c.args.self.now.breaks) (stays c))
    (info_within c.args.self.now.breaks c.keep_first.new.self 984 (fits c))

pub new-self-inside-requires : goal.new-self-inside-requires
new-self-inside-requires c = low (goal.at.new-self-inside-requires c).After-keep_first

pub invariant_of-self : goal.invariant_of-self
invariant_of-self c =
    let e = (goal.at.invariant_of-self c).After-keep_first in
    record {
      fits = fits e;
      scalars = c.keep_first.ensures.scalars;
      counted = c.new-self-inside.ensures.info ∙ c.requires.info
          ∙ ap (info_of c.args.self.now.breaks) (stays e)
          ∙ ap (λ b. info_of b c.keep_first.new.self)
          (sym (c.new-self-inside.ensures.breaks ∙ c.line_breaks-breaks.ensures));
    }

pub returns : goal.returns
returns c =
    let e = (goal.at.returns c).After-keep_first in
    rw (stays e) (ap (λ b. leaf_tree b c.keep_first.new.self) (c.new-self-inside.ensures.breaks
    ∙ c.line_breaks-breaks.ensures))
