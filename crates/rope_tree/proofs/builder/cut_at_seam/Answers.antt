-- The leaf ends at a legal split position of the two texts' bytes.
use Rattle.std.proofs.Common.{◌≡◌, min, [], ◌≤◌, ◌-◌, ◌++◌, take, drop, length, ap, sym, subst, ◌∙◌, arith}
use Rattle.std.proofs.lemmas.Grind.{common_steps}
use Rattle.std.proofs.lemmas.List.{drop-append-le, length-append}
use Rattle.std.proofs.lemmas.Str.{chars-append, IsCharBoundary-start, IsCharBoundary-from_drop}
use Rattle.std.specs.Str.{chars, IsUtf8}
use Rattle.rope_text.proofs.CutOff.{IsCutOff}
use Rattle.rope_text.proofs.CutFacts.{cut_near}
use Rattle.rope_text.specs.Text.{byte_len}
use Rattle.rope_text.proofs.Walks.{byte_len-chars}
use Rattle.rope_leaf.specs.Tree.{text}
use Rattle.rope_leaf.proofs.InsertLeaves.{text_of_leaf}
use Rattle.rope_tree.proofs.FrontLaws.{cut_whole, cut_apart, two_parts, leaf_part, all_taken}
use Rattle.rope_tree.proofs.builder.cut_at_seam.Goals.{In_ok-leaf, After-from_str, After-new, After-range, then-added-le-MAX_AHEAD_BYTES, else-added-le-MAX_AHEAD_BYTES}
use Rattle.rope_tree.proofs.builder.cut_at_seam.Goals as goal

-- enough of the text is read that a leaf ends in it: one of four adjacent positions is legal
ahead : (c : After-range)
    → (min 985 (length c.args.added.now) ≤ c.if-added-le-MAX_AHEAD_BYTES.ahead_len)
    × (c.if-added-le-MAX_AHEAD_BYTES.ahead_len ≤ length c.args.added.now)
ahead c = elim c.if-added-le-MAX_AHEAD_BYTES.branch [
  | then-added-le-MAX_AHEAD_BYTES w ↦ (omega (arith, w.ahead_len-is), omega (arith, w.ahead_len-is))
  | else-added-le-MAX_AHEAD_BYTES w ↦
      let near =
      cut_near w.as_bytes.result.now 985 w.as_bytes.ensures.utf8 (omega arith)
      (omega (arith, w.as_bytes.ensures.len, w.if-added-le-MAX_AHEAD_BYTES.false)) in (
        omega (
          arith,
          w.ahead_len-is,
          w.prev_break-ahead_len.ensures.nearest near.0
              (omega (arith, near.2)) near.3,
          near.1,
        ),
        omega (
          arith,
          w.ahead_len-is,
          w.prev_break-ahead_len.ensures.bound,
          w.if-added-le-MAX_AHEAD_BYTES.false,
        ),
      )
]

pub first_leaf_len-len-requires : goal.first_leaf_len-len-requires
first_leaf_len-len-requires c =
    let p = ahead (goal.at.first_leaf_len-len-requires c).After-range in
    omega (
      arith,
      p.0,
      c.requires,
      ap length c.as_str-first.ensures.bytes,
      c.range.ensures.len,
      ap length (c.as_str-ahead.ensures.value ∙ c.text_of_parts-ahead.ensures),
      length-append c.as_str-first.result.now (c.range.result.now ++ []),
      length-append c.range.result.now [],
    )

off : (c : In_ok-leaf) → (min 985 (length c.args.added.now)
    ≤ c.if-added-le-MAX_AHEAD_BYTES.ahead_len)
    × (c.if-added-le-MAX_AHEAD_BYTES.ahead_len ≤ length c.args.added.now)
    → IsCutOff (c.as_str-first.result.now ++ c.args.added.now) c.first_leaf_len-len.result
off c p =
    let r = c.first_leaf_len-len in
    two_parts c.as_str-first.result.now c.args.added.now c.range.result.now
    c.as_str-ahead.result.now c.if-added-le-MAX_AHEAD_BYTES.ahead_len r.result c.as_str-first.utf8
    c.utf8.added p.1 c.range.ensures.value
    (c.as_str-ahead.ensures.value ∙ c.text_of_parts-ahead.ensures) (omega (arith, r.ensures.long))
    (omega (arith, r.ensures.short, ap length c.as_str-first.ensures.bytes, p.0, c.requires))
    r.ensures.cut

leaf_is : (c : In_ok-leaf)
    → (min 985 (length c.args.added.now) ≤ c.if-added-le-MAX_AHEAD_BYTES.ahead_len)
    × (c.if-added-le-MAX_AHEAD_BYTES.ahead_len ≤ length c.args.added.now)
    → text c.in_ok-leaf.leaf
    ≡ chars (take c.first_leaf_len-len.result (c.as_str-first.result.now ++ c.args.added.now))
leaf_is c p =
    let r = c.first_leaf_len-len in
    text_of_leaf c.args.breaks c.in_ok-leaf.leaf _ c.in_ok-leaf.ensures.ok
    ∙ ap chars
    (c.range-2.ensures.value
    ∙ leaf_part c.as_str-first.result.now c.args.added.now c.range.result.now
    c.as_str-ahead.result.now c.if-added-le-MAX_AHEAD_BYTES.ahead_len r.result c.as_str-first.utf8
    c.utf8.added p.1 c.range.ensures.value
    (c.as_str-ahead.ensures.value ∙ c.text_of_parts-ahead.ensures) (omega (arith, r.ensures.long))
    (omega (arith, r.ensures.short, ap length c.as_str-first.ensures.bytes, p.0, c.requires))
    r.ensures.cut)

whole_is : (c : In_ok-leaf) → chars (c.as_str-first.result.now ++ c.args.added.now)
    ≡ c.args.rest.now ++ chars c.args.added.now
whole_is c = chars-append c.as_str-first.result.now c.args.added.now c.as_str-first.utf8
    ∙ ap (λ x. x ++ chars c.args.added.now) c.as_str-first.ensures.chars

size : (c : In_ok-leaf) → byte_len (text c.in_ok-leaf.leaf) ≡ c.first_leaf_len-len.result
size c = ap byte_len (text_of_leaf c.args.breaks c.in_ok-leaf.leaf _ c.in_ok-leaf.ensures.ok)
    ∙ byte_len-chars c.range-2.result.now c.range-2.utf8
    ∙ omega (arith, c.range-2.ensures.len, c.first_leaf_len-len.ensures.short)

pub returns-then-len-first-clause-boundary : goal.returns-then-len-first-clause-boundary
returns-then-len-first-clause-boundary c = IsCharBoundary-start c.args.added.now c.utf8.added

some_is : (c : After-from_str) → c.from_str.result ++ chars c.args.added.now
    ≡ chars (drop c.first_leaf_len-len.result (c.as_str-first.result.now ++ c.args.added.now))
some_is c =
    let first = c.as_str-first.result.now in
    ap (λ x. x ++ chars c.args.added.now) c.from_str.ensures.value
    ∙ sym (chars-append c.range_from.result.now c.args.added.now c.range_from.utf8)
    ∙ ap chars (ap (λ x. x ++ c.args.added.now) c.range_from.ensures.value
    ∙ sym (drop-append-le c.first_leaf_len-len.result first c.args.added.now
    (omega (arith, c.if-len-first.true))))

pub returns-then-len-first-clause-whole : goal.returns-then-len-first-clause-whole
returns-then-len-first-clause-whole c =
    let b = (goal.at.returns-then-len-first-clause-whole c).In_ok-leaf in
    let p = ahead (goal.at.returns-then-len-first-clause-whole c).After-range in
    cut_whole _ _ _ _ _ (off b p) (leaf_is b p)
    (some_is (goal.at.returns-then-len-first-clause-whole c).After-from_str) (whole_is b)

pub returns-then-len-first-clause-apart : goal.returns-then-len-first-clause-apart
returns-then-len-first-clause-apart c =
    let b = (goal.at.returns-then-len-first-clause-apart c).In_ok-leaf in
    let p = ahead (goal.at.returns-then-len-first-clause-apart c).After-range in
    cut_apart _ _ _ _ (off b p) (leaf_is b p)
    (some_is (goal.at.returns-then-len-first-clause-apart c).After-from_str)

none_is : (c : After-new) → c.new.result
    ++ chars (drop (c.first_leaf_len-len.result - length c.as_str-first.result.now)
    c.args.added.now) ≡ chars
    (drop c.first_leaf_len-len.result (c.as_str-first.result.now ++ c.args.added.now))
none_is c =
    let first = c.as_str-first.result.now in
    let added = c.args.added.now in
    let r = c.first_leaf_len-len.result in
    ap (λ x. x ++ chars (drop (r - length first) added)) c.new.ensures
    ∙ ap chars (sym (all_taken first added r c.if-len-first.false))

pub returns-clause-whole : goal.returns-clause-whole
returns-clause-whole c =
    let b = (goal.at.returns-clause-whole c).In_ok-leaf in
    let p = ahead (goal.at.returns-clause-whole c).After-range in
    cut_whole _ _ _ _ _ (off b p) (leaf_is b p) (none_is (goal.at.returns-clause-whole c).After-new)
    (whole_is b)

pub returns-clause-apart : goal.returns-clause-apart
returns-clause-apart c =
    let b = (goal.at.returns-clause-apart c).In_ok-leaf in
    let p = ahead (goal.at.returns-clause-apart c).After-range in
    cut_apart _ _ _ _ (off b p) (leaf_is b p) (none_is (goal.at.returns-clause-apart c).After-new)

pub returns-then-len-first-clause-long : goal.returns-then-len-first-clause-long
returns-then-len-first-clause-long c =
    omega (
      arith,
      size (goal.at.returns-then-len-first-clause-long c).In_ok-leaf,
      c.first_leaf_len-len.ensures.long,
    )

pub returns-clause-long : goal.returns-clause-long
returns-clause-long c =
    omega (
      arith,
      size (goal.at.returns-clause-long c).In_ok-leaf,
      c.first_leaf_len-len.ensures.long,
    )

pub returns-then-len-first-clause-left : goal.returns-then-len-first-clause-left
returns-then-len-first-clause-left c =
    omega (
      arith,
      size (goal.at.returns-then-len-first-clause-left c).In_ok-leaf,
      c.from_str.ensures.len,
      c.range_from.ensures.len,
      ap length c.as_str-first.ensures.bytes,
      c.if-len-first.true,
    )

pub returns-clause-left : goal.returns-clause-left
returns-clause-left c =
    omega (
      arith,
      size (goal.at.returns-clause-left c).In_ok-leaf,
      ap byte_len c.new.ensures,
      ap length c.as_str-first.ensures.bytes,
      c.if-len-first.false,
    )

pub range_from-requires : goal.range_from-requires
range_from-requires c = grind (arith, common_steps)

pub returns-then-len-first-clause-short : goal.returns-then-len-first-clause-short
returns-then-len-first-clause-short c =
    omega (
      arith,
      size (goal.at.returns-then-len-first-clause-short c).In_ok-leaf,
      c.first_leaf_len-len.ensures.short,
    )

pub returns-clause-short : goal.returns-clause-short
returns-clause-short c =
    omega (
      arith,
      size (goal.at.returns-clause-short c).In_ok-leaf,
      c.first_leaf_len-len.ensures.short,
    )

pub returns-clause-boundary : goal.returns-clause-boundary
returns-clause-boundary c =
    let b = (goal.at.returns-clause-boundary c).In_ok-leaf in
    let p = ahead (goal.at.returns-clause-boundary c).After-range in
    let first = c.as_str-first.result.now in
    let r = c.first_leaf_len-len in
    IsCharBoundary-from_drop c.args.added.now (r.result - length first)
    (omega (arith, r.ensures.short, ap length c.as_str-first.ensures.bytes, c.requires))
    (subst IsUtf8 (all_taken first c.args.added.now r.result c.if-len-first.false) (off b p).back)
