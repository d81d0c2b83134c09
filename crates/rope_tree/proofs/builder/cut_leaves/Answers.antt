-- Each iteration splits one leaf off.
use Rattle.std.proofs.Common.{◌≡◌, ◌∙◌, ◌+◌, ◌++◌, [], ◌∷◌, length, ap, arith, refl, subst, sym}
use Rattle.std.specs.Str.{chars}
use Rattle.rope_text.specs.Text.{byte_len}
use Rattle.rope_text.specs.Cutting.{parts_crlf}
use Rattle.rope_leaf.specs.Tree.{text, leaf_tree, leaves_of}
use Rattle.rope_tree.specs.Fronts.{AreFrontNodes}
use Rattle.rope_tree.proofs.BuildLaws.{nodes_cut, nodes_front}
use Rattle.rope_tree.proofs.FormLaws.{no_text}
use Rattle.rope_tree.proofs.builder.cut_leaves.Goals as goal

pub overflow_add-len : goal.overflow_add-len
overflow_add-len c = omega (arith, c.len.ensures.fits, c.loop-left.invariant.within)

-- a leaf made directly from the text
pub loop-left-preserved-then-len-eq0 : goal.loop-left-preserved-then-len-eq0
loop-left-preserved-then-len-eq0 c =
    let before = c.loop-left.invariant in
    let left = c.loop-left.left.now in
    let len = c.first_leaf_len-len in
    let node = c.in_ok-leaf_of.field-0 in
    let rest = c.range_from-left in
    let pushed = c.in_ok-push.ensures.items in
    let none : c.loop-left.rest ≡ [] =
    no_text c.loop-left.rest (omega (arith, c.if-len-eq0.true, c.len.ensures.value)) in
    let nodes = ap (λ x. x ++ chars left) none in
    let more =
    nodes_cut c.args.breaks _ c.loop-left.leaves.items left c.range.result.now rest.result.now
    (chars c.range.result.now) len.result node
    (subst (AreFrontNodes c.args.breaks _ c.loop-left.leaves.items) nodes before.nodes) before.utf8
    c.range.utf8 rest.utf8 c.range.ensures.value rest.ensures.value
    (omega (arith, len.ensures.long)) (omega (arith, len.ensures.short, c.loop-left-test.true))
    len.ensures.short len.ensures.cut refl c.in_ok-leaf_of.ensures.ok
    c.in_ok-leaf_of.ensures.tree in
    record {
      utf8 = rest.utf8;
      within = omega (arith, rest.ensures.len, before.within);
      some = omega (arith, len.ensures.short, rest.ensures.len, c.loop-left-test.true);
      nodes = rw pushed (subst
          (AreFrontNodes c.args.breaks _ (c.loop-left.leaves.items ++ node ∷ []))
          (ap (λ x. x ++ chars rest.result.now) (sym none)) more.0);
      long = omega (
        arith,
        len.ensures.long,
        ap byte_len none,
        ap (λ ts. length (leaves_of ts)) pushed,
        more.1,
        rest.ensures.len,
        before.long,
      );
    }

pub loop-left-preserved-in-Some : goal.loop-left-preserved-in-Some
unfolding chars
loop-left-preserved-in-Some c =
    let before = c.loop-left.invariant in
    let filled = c.in-Some.ensures in
    let whole = c.fill_up.new.rest in
    let node = c.in_ok-leaf_of-2.field-0 in
    let rest = c.range_from-left-in-Some in
    let pushed = c.in_ok-push-2.ensures.items in
    let same = ap chars rest.ensures.value in
    let more =
    nodes_front c.args.breaks _ c.loop-left.leaves.items _ whole (chars rest.result.now) node
    before.nodes (ap (λ y. whole ++ y) same ∙ filled.whole) (omega (arith, filled.long))
    record { apart = ap (λ y. parts_crlf whole y) same ∙ filled.apart }
    (λ _. omega (arith, filled.long)) (c.in_ok-leaf_of-2.ensures.ok
    ∙ ap (leaf_tree c.args.breaks) c.as_str.ensures.chars) c.in_ok-leaf_of-2.ensures.tree in
    let len : length rest.result.now + c.in-Some.taken ≡ length c.loop-left.left.now =
    omega (arith, rest.ensures.len, filled.boundary.0) in
    record {
      utf8 = rest.utf8;
      within = omega (arith, len, before.within);
      some = omega (
        arith,
        len,
        filled.left,
        c.fill_up.ensures.short,
        c.loop-left-test.true,
        c.len.ensures.value,
      );
      nodes = rw pushed (rw c.set.ensures more.0);
      long = omega (
        arith,
        len,
        filled.left,
        filled.long,
        ap byte_len c.set.ensures,
        ap (λ ts. length (leaves_of ts)) pushed,
        more.1,
        before.long,
      );
    }

pub loop-left-preserved : goal.loop-left-preserved
loop-left-preserved c =
    let before = c.loop-left.invariant in
    let cut = c.in_ok-leaf in
    let leaf = cut.field-0.leaf in
    let taken = cut.field-0.taken in
    let following = c.cut_at_seam.new.rest in
    let as_before : c.fill_up.new.rest ≡ c.loop-left.rest = c.in_default.ensures.kept in
    let rest = c.range_from-left-in_default in
    let pushed = c.in_ok-push-3.ensures.items in
    let same = ap (λ bs. following ++ chars bs) rest.ensures.value in
    let more =
    nodes_front c.args.breaks _ c.loop-left.leaves.items _ (text leaf)
    (following ++ chars rest.result.now) leaf
    before.nodes (ap (λ y. text leaf ++ y) same ∙ cut.ensures.whole
    ∙ ap (λ x. x ++ chars c.loop-left.left.now) as_before) (omega (arith, cut.ensures.long))
    record { apart = ap (λ y. parts_crlf (text leaf) y) same ∙ cut.ensures.apart }
    (λ _. omega (arith, cut.ensures.long)) cut.ensures.leaf cut.ensures.tree in
    let len : length rest.result.now + taken ≡ length c.loop-left.left.now =
    omega (arith, rest.ensures.len, cut.ensures.boundary.0) in
    let bytes = ap byte_len as_before in
    record {
      utf8 = rest.utf8;
      within = omega (arith, len, before.within);
      some = omega (
        arith,
        len,
        bytes,
        cut.ensures.left,
        cut.ensures.short,
        c.loop-left-test.true,
        c.len.ensures.value,
      );
      nodes = rw pushed more.0;
      long = omega (
        arith,
        len,
        bytes,
        cut.ensures.left,
        cut.ensures.long,
        ap (λ ts. length (leaves_of ts)) pushed,
        more.1,
        before.long,
      );
    }

pub loop-left-smaller-in-Some : goal.loop-left-smaller-in-Some
unfolding chars
loop-left-smaller-in-Some c =
    let filled = c.in-Some.ensures in
    omega (
      arith,
      c.range_from-left-in-Some.ensures.len,
      filled.boundary.0,
      filled.left,
      filled.long,
      ap byte_len c.set.ensures,
    )
