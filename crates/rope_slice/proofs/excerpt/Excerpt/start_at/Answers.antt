use Rattle.std.proofs.Common.{◌≡◌, ◌+◌, ◌-◌, ◌≤◌, ℕ, List, length, take, ap, sym, ◌∙◌, arith, nat_le}
use Rattle.std.specs.Str.{chars}
use Rattle.std.proofs.lemmas.List.{length-take}
use Rattle.std.proofs.lemmas.List.Sums.{count_by-le-length}
use Rattle.std.proofs.lemmas.Str.{length-le-encodes}
use Rattle.rope_text.specs.Breaks.{break_count}
use Rattle.rope_text.specs.Text.{byte_len, surrogate_count}
use Rattle.rope_text.specs.Conversions.{char_to_line, char_to_byte, byte_to_char, byte_to_line}
use Rattle.rope_text.proofs.ConversionLaws.{byte_to_char-char_to_byte, byte_to_line-byte_to_char}
use Rattle.rope_text.proofs.Measures.{IsMeasure-byte_len, size_le_all}
use Rattle.rope_leaf.proofs.Descents.{small_found}
use Rattle.rope_tree.proofs.FoundLaws.{char_to_line-le, found_char}
use Rattle.rope_slice.proofs.Edges.{start_found}
use Rattle.rope_slice.proofs.excerpt.Excerpt.start_at.Goals.{After-byte_to_line_of-lines, After-byte_to_surrogates_of-pairs}
use Rattle.rope_slice.proofs.excerpt.Excerpt.start_at.Goals as goal

-- the character that begins at the position
here_is : (leaf str : List ℕ) (k n : ℕ) → str ≡ leaf → k ≤ length leaf → n ≡ byte_len (take k leaf)
    → byte_to_char str n ≡ k
here_is leaf str k n same within place = ap (λ s. byte_to_char s n) same
    ∙ ap (byte_to_char leaf) place ∙ byte_to_char-char_to_byte leaf k within

pairs_are : (c : After-byte_to_surrogates_of-pairs)
    → c.byte_to_surrogates_of-pairs.result ≡ surrogate_count
    (take c.args.place.chars c.args.place.found.leaf)
pairs_are c =
    let leaf : List ℕ = c.args.place.found.leaf in
    let k : ℕ = c.args.place.chars in
    let within =
    found_char (c.args.place.found.before.chars + k) c.args.self.now.node.now leaf
    c.args.place.found.before c.requires.place.found in
    let here =
    here_is leaf (chars c.as_str-leaf.result.now) k c.args.place.bytes c.as_str-leaf.ensures.chars
    (omega (arith, within.0)) c.requires.place.bytes_are in
    c.byte_to_surrogates_of-pairs.ensures
    ∙ ap (λ n. surrogate_count (take n (chars c.as_str-leaf.result.now))) here
    ∙ ap (λ s. surrogate_count (take k s)) c.as_str-leaf.ensures.chars

lines_are : (c : After-byte_to_line_of-lines)
    → c.byte_to_line_of-lines.result ≡ char_to_line c.args.self.now.node.now.breaks
    c.args.place.found.leaf c.args.place.chars
lines_are c =
    let leaf : List ℕ = c.args.place.found.leaf in
    let k : ℕ = c.args.place.chars in
    let breaks = c.args.self.now.node.now.breaks in
    let str : List ℕ = chars c.as_str-leaf.result.now in
    let within =
    found_char (c.args.place.found.before.chars + k) c.args.self.now.node.now leaf
    c.args.place.found.before c.requires.place.found in
    let here =
    here_is leaf str k c.args.place.bytes c.as_str-leaf.ensures.chars (omega (arith, within.0))
    c.requires.place.bytes_are in
    c.byte_to_line_of-lines.ensures
    ∙ ap (λ b. byte_to_line b str c.args.place.bytes) c.line_breaks-breaks.ensures
    ∙ byte_to_line-byte_to_char breaks str c.args.place.bytes ∙ ap (char_to_line breaks str) here
    ∙ ap (λ s. char_to_line breaks s k) c.as_str-leaf.ensures.chars

pub byte_to_surrogates_of-pairs-requires : goal.byte_to_surrogates_of-pairs-requires
byte_to_surrogates_of-pairs-requires c =
    ap (λ x. x.utf16_surrogates) c.requires.inside
    ∙ ap surrogate_count (sym c.as_str-leaf.ensures.chars)

pub byte_to_line_of-lines-requires : goal.byte_to_line_of-lines-requires
byte_to_line_of-lines-requires c =
    ap (λ x. x.break_count) c.requires.inside
    ∙ ap (λ b. break_count b c.args.place.found.leaf) (sym c.line_breaks-breaks.ensures)
    ∙ ap (break_count c.line_breaks-breaks.result) (sym c.as_str-leaf.ensures.chars)

pub overflow_add-result : goal.overflow_add-result
overflow_add-result c =
    let small = small_found _ _ _ _ _ c.args.self.now.is_low.tree c.requires.place.found in
    omega (
      arith,
      c.requires.place.bytes_are,
      c.as_str-leaf.ensures.fits,
      size_le_all byte_len IsMeasure-byte_len c.args.place.found.leaf c.args.place.chars,
    )

pub overflow_add-result-2 : goal.overflow_add-result-2
overflow_add-result-2 c =
    let small = small_found _ _ _ _ _ c.args.self.now.is_low.tree c.requires.place.found in
    let within =
    found_char (c.args.place.found.before.chars + c.args.place.chars) c.args.self.now.node.now
    c.args.place.found.leaf c.args.place.found.before c.requires.place.found in
    omega (arith, within.0, c.as_str-leaf.ensures.fits, length-le-encodes c.args.place.found.leaf)

pub overflow_add-result-3 : goal.overflow_add-result-3
overflow_add-result-3 c =
    let small = small_found _ _ _ _ _ c.args.self.now.is_low.tree c.requires.place.found in
    let leaf : List ℕ = c.args.place.found.leaf in
    let k : ℕ = c.args.place.chars in
    omega (
      arith,
      pairs_are (goal.at.overflow_add-result-3 c).After-byte_to_surrogates_of-pairs,
      c.as_str-leaf.ensures.fits,
      count_by-le-length (λ x. nat_le 0x1_0000 x) (take k leaf),
      length-take k leaf,
      length-le-encodes leaf,
    )

pub overflow_add-result-4 : goal.overflow_add-result-4
overflow_add-result-4 c =
    let small = small_found _ _ _ _ _ c.args.self.now.is_low.tree c.requires.place.found in
    let leaf : List ℕ = c.args.place.found.leaf in
    omega (
      arith,
      lines_are (goal.at.overflow_add-result-4 c).After-byte_to_line_of-lines,
      c.as_str-leaf.ensures.fits,
      length-le-encodes leaf,
      char_to_line-le c.args.self.now.node.now.breaks leaf c.args.place.chars,
    )

pub returns : goal.returns
returns c =
    let leaf : List ℕ = c.args.place.found.leaf in
    let i : ℕ = c.args.place.found.before.chars + c.args.place.chars in
    let back : i - c.args.place.found.before.chars ≡ c.args.place.chars = omega arith in
    let pairs = pairs_are (goal.at.returns c).After-byte_to_surrogates_of-pairs in
    let lines = lines_are (goal.at.returns c).After-byte_to_line_of-lines in
    start_found i c.args.self.now.node.now leaf c.args.place.found.before
    c.args.self.now.is_low.tree c.requires.place.found c.args.place.bytes
    c.byte_to_surrogates_of-pairs.result c.byte_to_line_of-lines.result
    (c.requires.place.bytes_are ∙ ap (λ k. char_to_byte leaf k) (sym back)) (pairs
    ∙ ap (λ k. surrogate_count (take k leaf)) (sym back)) (lines
    ∙ ap (λ k. char_to_line c.args.self.now.node.now.breaks leaf k) (sym back))
