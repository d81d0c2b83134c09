use Rattle.std.proofs.Common.{◌≡◌, ◌∙◌, ap, sym, subst, refl, arith}
use Rattle.std.specs.Str.{chars}
use Rattle.rope_text.specs.Conversions.{byte_to_char}
use Rattle.rope_text.specs.TextInfo.{info_of, info_sum, HasSum}
use Rattle.rope_text.specs.LineParts.{first_line, after_byte}
use Rattle.rope_leaf.proofs.NodeTexts.{boundary_at}
use Rattle.rope_slice.proofs.Carets.{between_after, start_of_chunk}
use Rattle.rope_slice.proofs.CaretSteps.{info_small, place_fits, pass_inside, more_small, pass_over}
use Rattle.rope_slice.proofs.lines.Caret.pass_line.Goals.{After-of_first_line-first}
use Rattle.rope_leaf.proofs.Infos.{sum_of_small}
use Rattle.rope_slice.proofs.lines.Caret.pass_line.Goals as goal

pub range_from-held-requires : goal.range_from-held-requires
range_from-held-requires c = λ _. boundary_at c.chunk.result.now
    (byte_to_char (chars c.chunk.result.now) c.self.inside.inside) c.self.inside.inside c.chunk.utf8
    (sym (rw c.chunk.ensures c.self.invariant.between))

first_is : (c : After-of_first_line-first) → c.of_first_line-first.result ≡ info_of c.args.breaks
    (first_line c.args.breaks (after_byte c.self.inside.span.here c.self.inside.inside))
first_is c =
    let b = c.self.inside.inside in
    let cut = between_after c.chunk.result.now c.range_from-held.result.now b c.chunk.utf8
    (rw c.chunk.ensures c.self.invariant.between) c.range_from-held.ensures.value in
    c.of_first_line-first.ensures ∙ ap (λ t. info_of c.args.breaks (first_line c.args.breaks t))
    (cut ∙ ap (λ t. after_byte t b) c.chunk.ensures)

pub overflow_add-self : goal.overflow_add-self
overflow_add-self c =
    let small = place_fits c.args.breaks c.self.inside.span c.self.inside.inside c.self.invariant
    c.of_first_line-first.result
    (first_is (goal.at.overflow_add-self c).After-of_first_line-first) in
    omega (arith, small)

pub invariant_of-self : goal.invariant_of-self
invariant_of-self c =
    (pass_inside c.args.breaks c.self.inside.span c.self.inside.inside c.self.invariant
    c.of_first_line-first.result
    (first_is (goal.at.invariant_of-self c).After-of_first_line-first) c.if-first-gt0.true).caret

pub plus-requires : goal.plus-requires
plus-requires c =
    subst (HasSum c.args.before.now) (sym (pass_inside c.args.breaks c.self.inside.span
    c.self.inside.inside c.self.invariant c.of_first_line-first.result
    (first_is (goal.at.plus-requires c).After-of_first_line-first) c.if-first-gt0.true).counts)
    (rw (← c.self.view_is) at c.requires)

pub returns-then-first-gt0 : goal.returns-then-first-gt0
returns-then-first-gt0 c =
    let it = pass_inside c.args.breaks c.self.inside.span c.self.inside.inside c.self.invariant
    c.of_first_line-first.result
    (first_is (goal.at.returns-then-first-gt0 c).After-of_first_line-first) c.if-first-gt0.true in
    rw (← c.self.view_is) record {
      front = it.front_is;
      back = it.back_is;
      chunks = refl;
      counts = c.plus.ensures.sum ∙ ap (info_sum c.args.before.now) it.counts;
    }

pub invariant_of-self-in_default : goal.invariant_of-self-in_default
invariant_of-self-in_default c = start_of_chunk c.pass_chunk.new.span c.pass_chunk.ensures.chunks

pub plus-requires-2 : goal.plus-requires-2
plus-requires-2 c =
    let one = info_small c.args.breaks c.self.inside.span c.self.inside.inside c.self.invariant
    c.of_first_line-first.result
    (first_is (goal.at.plus-requires-2 c).After-of_first_line-first) in
    let two = more_small c.args.breaks c.self.inside.span c.self.inside.inside c.self.invariant
    c.of_first_line-first.result
    (first_is (goal.at.plus-requires-2 c).After-of_first_line-first)
    c.pass_chunk.new.span c.in-Some.inside c.pass_chunk.new.more c.if-first-gt0.false
    (rw c.in-Some.is at c.pass_chunk.ensures.passes) in
    sum_of_small _ _ one two

pub plus-requires-3 : goal.plus-requires-3
plus-requires-3 c = subst (HasSum c.args.before.now) (sym
    (pass_over c.args.breaks c.self.inside.span c.self.inside.inside c.self.invariant
    c.of_first_line-first.result (first_is (goal.at.plus-requires-3 c).After-of_first_line-first)
    c.pass_chunk.new.span c.in-Some.inside c.pass_chunk.new.more c.if-first-gt0.false
    (rw c.in-Some.is at c.pass_chunk.ensures.passes) c.plus-2.result c.plus-2.ensures.sum).counts)
    (rw (← c.self.view_is) at c.requires)

pub returns : goal.returns
returns c =
    let it =
    pass_over c.args.breaks c.self.inside.span c.self.inside.inside c.self.invariant
    c.of_first_line-first.result (first_is (goal.at.returns c).After-of_first_line-first)
    c.pass_chunk.new.span c.in-Some.inside c.pass_chunk.new.more c.if-first-gt0.false
    (rw c.in-Some.is at c.pass_chunk.ensures.passes) c.plus-2.result c.plus-2.ensures.sum in
    rw (← c.self.view_is) record {
      front = it.front_is;
      back = it.back_is;
      chunks = c.pass_chunk.ensures.same;
      counts = c.plus-3.ensures.sum ∙ ap (info_sum c.args.before.now) it.counts;
    }
