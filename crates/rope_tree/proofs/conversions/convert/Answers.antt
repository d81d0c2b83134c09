use Rattle.std.proofs.Common.{◌≡◌, ◌+◌, ◌-◌, sym, ap, ap₂, ◌∙◌, arith}
use Rattle.std.specs.Str.{chars}
use Rattle.rope_text.specs.TextInfo.{info_of}
use Rattle.rope_leaf.specs.Search.{count_of}
use Rattle.rope_tree.specs.Conversions.{converted, first_sought}
use Rattle.rope_leaf.specs.Tree.{text}
use Rattle.rope_leaf.proofs.Infos.{small_info}
use Rattle.rope_leaf.proofs.Descents.{small_found}
use Rattle.rope_tree.proofs.ConvertedLaws.{found_converted, converted_end, converted_first, converted-le}
use Rattle.rope_tree.proofs.conversions.convert.Goals.{After-count-3}
use Rattle.rope_tree.proofs.conversions.convert.Goals as goal

pub returns-then-idx-first-clause-value : goal.returns-then-idx-first-clause-value
returns-then-idx-first-clause-value c =
    sym (converted_first c.args.from c.args.to c.args.node.now.breaks (text c.args.node.now)
    c.args.idx c.requires.units (omega arith))

pub count-requires : goal.count-requires
count-requires c =
    rw c.info-info.ensures.value
    (small_info c.args.node.now.breaks (text c.args.node.now) c.info-info.ensures.tree.fits)

pub count-requires-then-at-count : goal.count-requires-then-at-count
count-requires-then-at-count c =
    rw c.info-info.ensures.value
    (small_info c.args.node.now.breaks (text c.args.node.now) c.info-info.ensures.tree.fits)

pub returns-then-at-count-clause-value : goal.returns-then-at-count-clause-value
returns-then-at-count-clause-value c =
    let breaks = c.args.node.now.breaks in
    let t = text c.args.node.now in
    let e = ap (count_of c.args.from) c.info-info.ensures.value in
    c.count-then-at-count.ensures ∙ ap (count_of c.args.to) c.info-info.ensures.value
    ∙ sym (converted_end c.args.from c.args.to breaks t c.args.idx c.requires.units
    (omega (arith, e)))

pub count-requires-2 : goal.count-requires-2
count-requires-2 c = small_found _ _ _ _ _ c.info-info.ensures.tree c.leaf_at-found.ensures.found

pub count-requires-3 : goal.count-requires-3
count-requires-3 c = small_found _ _ _ _ _ c.info-info.ensures.tree c.leaf_at-found.ensures.found

pub convert_in-inside-requires-clause-info : goal.convert_in-inside-requires-clause-info
convert_in-inside-requires-clause-info c = c.leaf_at-found.ensures.inside
    ∙ ap₂ info_of (sym c.line_breaks.ensures) (sym c.as_str-leaf.ensures.chars)

value : (c : After-count-3) → c.count-3.result + c.convert_in-inside.result
    ≡ converted c.args.from c.args.to c.args.node.now.breaks (text c.args.node.now) c.args.idx
value c =
    let found = c.leaf_at-found.result in
    let from = c.args.from in
    let to = c.args.to in
    let e : c.args.idx ≡ (c.args.idx - c.first_sought-first.result) + first_sought from =
    omega arith in
    let inside : c.convert_in-inside.result ≡ converted from to c.args.node.now.breaks found.leaf
    (c.args.idx - count_of from found.before) =
    c.convert_in-inside.ensures
    ∙ ap (λ b. converted from to b (chars c.as_str-leaf.result.now) (c.args.idx - c.count-2.result))
    c.line_breaks.ensures
    ∙ ap₂ (converted from to c.args.node.now.breaks) c.as_str-leaf.ensures.chars
    (ap (λ n. c.args.idx - n) c.count-2.ensures) in
    ap₂ (λ x y. x + y) c.count-3.ensures inside
    ∙ sym (found_converted from to c.args.idx _ c.args.node.now found.leaf found.before
    c.requires.units e c.info-info.ensures.tree c.leaf_at-found.ensures.found)

pub overflow_add-result : goal.overflow_add-result
overflow_add-result c =
    omega (
      arith,
      value c,
      converted-le c.args.from c.args.to c.args.node.now.breaks
          (text c.args.node.now) c.args.idx c.requires.units,
      c.info-info.ensures.tree.fits,
    )

pub returns-clause-value : goal.returns-clause-value
returns-clause-value c = value c
