use Rattle.std.proofs.Common.{◌≡◌, ◌+◌, ◌-◌, ◌∙◌, ℕ, List, take, ap, sym, arith, subst}
use Rattle.std.specs.Str.{chars, IsCharBoundary}
use Rattle.rope_text.specs.declared.text_info.TextInfo.{TextInfo}
use Rattle.rope_text.specs.Text.{byte_len}
use Rattle.rope_text.specs.Breaks.{break_count}
use Rattle.rope_text.specs.Lines.{line_start}
use Rattle.rope_text.specs.TextInfo.{info_of}
use Rattle.rope_text.proofs.Measures.{IsMeasure-byte_len, size_le_all}
use Rattle.rope_text.proofs.TextParts.{chars_back, byte_len_boundary}
use Rattle.rope_text.proofs.LineSeams.{break_count-front}
use Rattle.rope_leaf.proofs.Infos.{small_info, sum_of_small}
use Rattle.rope_leaf.proofs.Descents.{small_found}
use Rattle.rope_slice.proofs.Edges.{line_found, line_rest, line_within}
use Rattle.rope_slice.proofs.InChunks.{in_found}
use Rattle.rope_text.proofs.LineLaws.{line_start-le-length}
use Rattle.rope_tree.proofs.FoundLaws.{found_line_start}
use Rattle.rope_leaf.specs.declared.search.Unit.TheVariants.{LineBreak}
use Rattle.rope_slice.proofs.excerpt.line_start_in.Goals.{After-before_line-front}
use Rattle.rope_slice.proofs.excerpt.line_start_in.Goals as goal

front_is : (c : After-before_line-front) → c.before_line-front.result
    ≡ info_of c.args.node.now.breaks
    (take (line_start c.args.node.now.breaks c.args.found.leaf
    (c.args.line_idx - c.args.found.before.break_count)) c.args.found.leaf)
front_is c =
    let l : ℕ = c.args.line_idx - c.args.found.before.break_count in
    c.before_line-front.ensures
    ∙ ap (λ b. info_of b (take (line_start b (chars c.as_str-leaf.result.now) l)
    (chars c.as_str-leaf.result.now))) c.line_breaks.ensures
    ∙ ap (λ s. info_of c.args.node.now.breaks (take (line_start c.args.node.now.breaks s l) s))
    c.as_str-leaf.ensures.chars

pub before_line-front-requires-clause-within : goal.before_line-front-requires-clause-within
before_line-front-requires-clause-within c =
    let l : ℕ = c.args.line_idx - c.args.found.before.break_count in
    let same : break_count c.line_breaks.result (chars c.as_str-leaf.result.now)
    ≡ break_count c.args.node.now.breaks c.args.found.leaf =
    ap (λ b. break_count b (chars c.as_str-leaf.result.now)) c.line_breaks.ensures
    ∙ ap (break_count c.args.node.now.breaks) c.as_str-leaf.ensures.chars in
    omega (
      arith,
      same,
      line_within c.args.line_idx c.args.node.now c.args.found.leaf
          c.args.found.before c.requires.found c.requires.later,
    )

pub range_from-requires : goal.range_from-requires
range_from-requires c = λ some.
    let bs = c.as_str-leaf.result.now in
    subst (IsCharBoundary bs) (sym (ap (λ x. x.bytes) c.before_line-front.ensures))
    (byte_len_boundary bs (line_start c.line_breaks.result (chars bs)
    (c.args.line_idx - c.args.found.before.break_count)) c.as_str-leaf.utf8)

pub plus-requires : goal.plus-requires
plus-requires c =
    let small = small_found _ _ _ _ _ c.requires.tree c.requires.found in
    let leaf : List ℕ = c.args.found.leaf in
    let k : ℕ =
    line_start c.args.node.now.breaks leaf
    (c.args.line_idx - c.args.found.before.break_count) in
    let is = front_is (goal.at.plus-requires c).After-before_line-front in
    let less = size_le_all byte_len IsMeasure-byte_len leaf k in
    let fits = c.as_str-leaf.ensures.fits in
    let part = small_info c.args.node.now.breaks (take k leaf) (omega arith) in
    sum_of_small _ _ small (rw is part)

pub returns-clause-before : goal.returns-clause-before
returns-clause-before c =
    let front = front_is (goal.at.returns-clause-before c).After-before_line-front in
    let leaf : List ℕ = c.args.found.leaf in
    let l : ℕ = c.args.line_idx - c.args.found.before.break_count in
    let within =
    line_within c.args.line_idx c.args.node.now leaf c.args.found.before
    c.requires.found c.requires.later in
    let here : c.args.found.before.break_count + c.before_line-front.result.break_count
    ≡ c.args.line_idx =
    omega (
      arith,
      ap (λ x. x.break_count) front,
      break_count-front c.args.node.now.breaks leaf l (omega arith),
    ) in
    c.plus.ensures.sum
    ∙ ap (λ (n : ℕ). (let r : TextInfo =
    record {
      bytes = c.args.found.before.bytes + c.before_line-front.result.bytes;
      chars = c.args.found.before.chars + c.before_line-front.result.chars;
      utf16_surrogates =
          c.args.found.before.utf16_surrogates
          + c.before_line-front.result.utf16_surrogates;
      break_count = n;
    } in r)) here
    ∙ line_found c.args.line_idx c.args.node.now c.args.found.leaf
    c.args.found.before c.requires.tree c.requires.found (omega arith)
    (omega arith)
    c.before_line-front.result.bytes c.before_line-front.result.chars
    c.before_line-front.result.utf16_surrogates
    (ap (λ x. x.bytes) front) (ap (λ x. x.chars) front) (ap (λ x. x.utf16_surrogates) front)

pub returns-clause-rest : goal.returns-clause-rest
returns-clause-rest c =
    let leaf : List ℕ = c.args.found.leaf in
    let k : ℕ =
    line_start c.args.node.now.breaks leaf
    (c.args.line_idx - c.args.found.before.break_count) in
    rw (chars_back c.as_str-leaf.result.now c.range_from.result.now leaf k
    c.before_line-front.result.bytes c.as_str-leaf.utf8 c.as_str-leaf.ensures.chars
    (ap (λ x. x.bytes) (front_is (goal.at.returns-clause-rest c).After-before_line-front)
    ∙ ap (λ s. byte_len (take k s)) (sym c.as_str-leaf.ensures.chars)) c.range_from.ensures.value)
    (line_rest c.args.line_idx c.args.node.now leaf c.args.found.before c.requires.tree
    c.requires.found (omega arith) (omega arith))

pub returns-clause-chunk : goal.returns-clause-chunk
returns-clause-chunk c =
    let leaf : List ℕ = c.args.found.leaf in
    let k : ℕ =
    line_start c.args.node.now.breaks leaf
    (c.args.line_idx - c.args.found.before.break_count) in
    in_found LineBreak (c.args.line_idx - 1) c.args.node.now leaf c.args.found.before
    c.requires.found k _ _
    (line_start-le-length c.args.node.now.breaks leaf
    (c.args.line_idx - c.args.found.before.break_count))
    (found_line_start (c.args.line_idx - 1) c.args.line_idx c.args.node.now leaf
    c.args.found.before c.requires.tree c.requires.found (omega arith))
    (chars_back c.as_str-leaf.result.now c.range_from.result.now leaf k
    c.before_line-front.result.bytes c.as_str-leaf.utf8 c.as_str-leaf.ensures.chars
    (ap (λ x. x.bytes) (front_is (goal.at.returns-clause-chunk c).After-before_line-front)
    ∙ ap (λ s. byte_len (take k s)) (sym c.as_str-leaf.ensures.chars)) c.range_from.ensures.value)

pub before_line-front-requires-clause-info : goal.before_line-front-requires-clause-info
before_line-front-requires-clause-info c =
    c.requires.inside
    ∙ ap (λ b. info_of b c.args.found.leaf) (sym c.line_breaks.ensures)
    ∙ ap (info_of c.line_breaks.result) (sym c.as_str-leaf.ensures.chars)

pub returns-clause-from : goal.returns-clause-from
returns-clause-from c = omega (arith, ap (λ x. x.bytes) c.plus.ensures.sum)

pub returns-clause-upto : goal.returns-clause-upto
returns-clause-upto c =
    let leaf : List ℕ = c.args.found.leaf in
    let k : ℕ =
    line_start c.args.node.now.breaks leaf (c.args.line_idx - c.args.found.before.break_count) in
    let front = front_is (goal.at.returns-clause-upto c).After-before_line-front in
    omega (
      arith,
      ap (λ x. x.bytes) c.plus.ensures.sum,
      ap (λ x. x.bytes) front,
      size_le_all byte_len IsMeasure-byte_len leaf k,
    )
