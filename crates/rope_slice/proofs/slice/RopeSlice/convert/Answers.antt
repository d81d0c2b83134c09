use Rattle.std.proofs.Common.{◌≡◌, ◌+◌, ◌<◌, min, sym, ap, ◌∙◌, arith}
use Rattle.rope_leaf.specs.Search.{count_of}
use Rattle.rope_tree.specs.Conversions.{first_sought, converted}
use Rattle.rope_leaf.specs.Tree.{text}
use Rattle.rope_tree.proofs.ConvertedLaws.{converted_first}
use Rattle.rope_slice.specs.Excerpt.{text_of, breaks_of}
use Rattle.rope_slice.proofs.Places.{small_start, small_end}
use Rattle.rope_slice.proofs.ExcerptLaws.{place_within, place_before_end, excerpt_converted_end, excerpt_converted}
use Rattle.rope_slice.proofs.slice.RopeSlice.convert.Goals.{After-convert, After-min}
use Rattle.rope_text.specs.TextInfo.{info_of}
use Rattle.rope_slice.proofs.slice.RopeSlice.convert.Goals as goal

pub returns-then-idx-first : goal.returns-then-idx-first
returns-then-idx-first c =
    rw c.in-InTree.is (sym (converted_first c.args.from c.args.to (breaks_of c.in-InTree.excerpt)
    (text_of c.in-InTree.excerpt) c.args.idx c.requires.units (omega arith)))

pub count-start-requires : goal.count-start-requires
count-start-requires c =
    small_start _ _ _ _ c.in-InTree.excerpt.is_excerpt c.place-place.ensures.tree.fits

pub count-end-requires : goal.count-end-requires
count-end-requires c =
    small_end _ _ _ _ c.in-InTree.excerpt.is_excerpt c.place-place.ensures.tree.fits

pub count-requires : goal.count-requires
count-requires c = small_end _ _ _ _ c.in-InTree.excerpt.is_excerpt c.place-place.ensures.tree.fits

pub overflow_sub-result : goal.overflow_sub-result
overflow_sub-result c =
    omega (
      arith,
      c.count-end.ensures,
      c.count-start.ensures,
      excerpt_converted_end _ _ _ _ c.in-InTree.excerpt.is_excerpt c.args.from c.args.to c.args.idx
          c.requires.units (omega arith),
    )

pub returns-then-place-first : goal.returns-then-place-first
returns-then-place-first c =
    rw c.in-InTree.is (omega (
      arith,
      c.count-end.ensures,
      c.count-start.ensures,
      excerpt_converted_end _ _ _ _ c.in-InTree.excerpt.is_excerpt c.args.from c.args.to c.args.idx
          c.requires.units (omega arith),
    ))

pub convert-requires-clause-within : goal.convert-requires-clause-within
convert-requires-clause-within c =
    omega (
      arith,
      place_within _ _ _ _ c.in-InTree.excerpt.is_excerpt c.args.from c.args.idx
          (rw c.in-InTree.is at c.requires.within),
    )

value : (c : After-convert) → min c.convert.result c.count-end.result
    ≡ c.count-start.result + converted c.args.from c.args.to (breaks_of c.in-InTree.excerpt)
    (text_of c.in-InTree.excerpt) c.args.idx
value c =
    let s = c.in-InTree.excerpt in
    let less : count_of c.args.from s.start + c.args.idx < count_of c.args.from s.end + first_sought
    c.args.from =
    omega (
      arith,
      place_before_end _ _ _ _ s.is_excerpt c.args.from c.args.idx
          (rw c.in-InTree.is at c.requires.within),
    ) in
    let e : c.convert.result ≡ converted c.args.from c.args.to s.node.now.breaks (text s.node.now)
    (count_of c.args.from s.start + c.args.idx) =
    c.convert.ensures.value ∙ ap (converted c.args.from c.args.to s.node.now.breaks
    (text s.node.now)) c.place-place.ensures.value in
    rw (e, c.count-end.ensures, c.count-start.ensures)
    (excerpt_converted _ _ _ _ s.is_excerpt c.args.from c.args.to c.args.idx c.requires.units
    (omega arith) less)

pub overflow_sub-result-in-InTree : goal.overflow_sub-result-in-InTree
overflow_sub-result-in-InTree c =
    omega (arith, value (goal.at.overflow_sub-result-in-InTree c).After-convert, c.min.ensures)

pub returns-else-place-first : goal.returns-else-place-first
returns-else-place-first c =
    rw c.in-InTree.is (omega (
      arith,
      value (goal.at.returns-else-place-first c).After-convert,
      c.min.ensures,
    ))

pub overflow_sub-place : goal.overflow_sub-place
overflow_sub-place c = omega (arith, c.if-idx-first.false, c.place-place.ensures.value)

pub convert_in-requires-clause-info : goal.convert_in-requires-clause-info
convert_in-requires-clause-info c =
    c.in-Alone.plain.counted
    ∙ ap (info_of c.in-Alone.plain.breaks) (sym c.as_str.ensures)

pub returns-in-Alone : goal.returns-in-Alone
returns-in-Alone c =
    let plain = c.in-Alone.plain in
    rw c.in-Alone.is (c.convert_in.ensures
    ∙ ap (λ t. converted c.args.from c.args.to plain.breaks t c.args.idx) c.as_str.ensures)
