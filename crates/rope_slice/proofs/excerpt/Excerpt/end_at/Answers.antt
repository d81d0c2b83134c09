use Rattle.std.proofs.Common.{◌≡◌, ◌+◌, ◌-◌, ◌++◌, ℕ, List, length, take, ap, sym, ◌∙◌, arith}
use Rattle.std.specs.Str.{chars}
use Rattle.rope_text.specs.Text.{byte_len}
use Rattle.rope_text.specs.TextInfo.{info_of}
use Rattle.rope_text.specs.Cutting.{parts_crlf}
use Rattle.rope_text.proofs.ChunkLaws.{before}
use Rattle.rope_text.proofs.Measures.{IsMeasure-byte_len, size_le_all}
use Rattle.rope_leaf.proofs.Infos.{small_info, sum_of_small}
use Rattle.rope_leaf.proofs.Descents.{small_found}
use Rattle.rope_tree.proofs.FoundLaws.{found_char}
use Rattle.rope_slice.proofs.Edges.{seam_before, end_found}
use Rattle.rope_slice.proofs.excerpt.Excerpt.end_at.Goals.{After-of_front-front}
use Rattle.rope_slice.proofs.excerpt.Excerpt.end_at.Goals as goal

front_is : (c : After-of_front-front) → c.of_front-front.result
    ≡ info_of c.args.self.now.node.now.breaks (take c.args.place.chars c.args.place.found.leaf)
front_is c =
    let k : ℕ = c.args.place.chars in
    c.of_front-front.ensures
    ∙ ap (λ b. info_of b (take k (chars c.as_str-leaf.result.now))) c.line_breaks-breaks.ensures
    ∙ ap (λ s. info_of c.args.self.now.node.now.breaks (take k s)) c.as_str-leaf.ensures.chars

pub of_front-front-requires-clause-info : goal.of_front-front-requires-clause-info
of_front-front-requires-clause-info c =
    c.requires.inside ∙ ap (λ b. info_of b c.args.place.found.leaf)
    (sym c.line_breaks-breaks.ensures)
    ∙ ap (info_of c.line_breaks-breaks.result) (sym c.as_str-leaf.ensures.chars)

pub of_front-front-requires-clause-within : goal.of_front-front-requires-clause-within
of_front-front-requires-clause-within c =
    let within =
    found_char (c.args.place.found.before.chars + c.args.place.chars) c.args.self.now.node.now
    c.args.place.found.leaf c.args.place.found.before c.requires.place.found in
    omega (arith, within.0, ap length c.as_str-leaf.ensures.chars)

pub of_front-front-requires-clause-place : goal.of_front-front-requires-clause-place
of_front-front-requires-clause-place c = c.requires.place.bytes_are
    ∙ ap (λ s. byte_len (take c.args.place.chars s)) (sym c.as_str-leaf.ensures.chars)

pub plus-requires : goal.plus-requires
plus-requires c =
    let small = small_found _ _ _ _ _ c.args.self.now.is_low.tree c.requires.place.found in
    let leaf : List ℕ = c.args.place.found.leaf in
    let k : ℕ = c.args.place.chars in
    let is = front_is (goal.at.plus-requires c).After-of_front-front in
    let less = size_le_all byte_len IsMeasure-byte_len leaf k in
    let fits = c.as_str-leaf.ensures.fits in
    let part = small_info c.args.self.now.node.now.breaks (take k leaf) (omega arith) in
    sum_of_small _ _ small (rw is part)

pub returns : goal.returns
returns c =
    let found = c.requires.place.found in
    let leaf : List ℕ = c.args.place.found.leaf in
    let k : ℕ = c.args.place.chars in
    let t = c.args.self.now.node.now in
    let i : ℕ = c.args.place.found.before.chars + k in
    let back : i - c.args.place.found.before.chars ≡ k = omega arith in
    let whole =
    c.plus.ensures.joined t.breaks (before t.leaves found.index) (take k leaf) found.before_is
    (front_is (goal.at.returns c).After-of_front-front)
    (ap (λ n. parts_crlf (before t.leaves found.index) (take n leaf)) (sym back)
    ∙ seam_before i t leaf c.args.place.found.before c.args.self.now.is_low.tree found) in
    end_found i t leaf c.args.place.found.before c.args.self.now.is_low.tree found c.plus.result
    (whole ∙ ap (λ n. info_of t.breaks (before t.leaves found.index ++ take n leaf)) (sym back))
