use Rattle.std.proofs.Common.{refl, sym, ap, ◌∙◌, subst, arith, drop}
use Rattle.rope_slice.specs.Slice.{content_of}
use Rattle.ropey.specs.View.{content}
use Rattle.ropey_c.specs.Before.{IsBefore}
use Rattle.ropey_c.proofs.ByteParts as parts
use Rattle.ropey_c.proofs.slices.part_at_byte.Goals as goal

pub returns-in_err-rest-clause-whole : goal.returns-in_err-rest-clause-whole
returns-in_err-rest-clause-whole c = (
  λ some. absurd (parts.none_is_no_some _ c.from_residual.ensures some),
  λ both. absurd (c.in_err-rest.ensures
      (parts.rest_has_range (content c.args.rope.now) (content c.args.rope.now) c.args.start
      c.args.end c.len_bytes.result
      c.requires.ordered c.requires.within c.len_bytes.ensures.value both.0)),
)

pub returns-in_err-part-clause-whole : goal.returns-in_err-part-clause-whole
returns-in_err-part-clause-whole c = (
  λ some. absurd (parts.none_is_no_some _ c.from_residual-in_err-part.ensures some),
  λ both. absurd (c.in_err-part.ensures
      (parts.part_has_range (content c.args.rope.now) (content_of c.in_ok-rest.rest) c.args.start
      c.args.end c.len_bytes.result c.requires.ordered c.requires.within c.len_bytes.ensures.value
      c.in_ok-rest.ensures.0 c.in_ok-rest.ensures.1 both.1)),
)

pub before_rest-before-requires-clause-rest : goal.before_rest-before-requires-clause-rest
before_rest-before-requires-clause-rest c =
    parts.rest_is_drop (content c.args.rope.now) (content_of c.in_ok-rest.rest) c.args.start
    c.args.end c.len_bytes.result c.requires.ordered c.requires.within c.len_bytes.ensures.value
    c.in_ok-rest.ensures.0 c.in_ok-rest.ensures.1
    ∙ ap (λ n. drop n c.args.rope.now.text)
    (sym (parts.chars_before (content c.args.rope.now) (content_of c.in_ok-rest.rest) c.args.start
    c.args.end c.len_bytes.result c.requires.ordered c.requires.within c.len_bytes.ensures.value
    c.in_ok-rest.ensures.0 c.in_ok-rest.ensures.1)
    ∙ omega (arith, c.len_chars.ensures.value, c.len_chars-2.ensures))

pub returns-clause-part : goal.returns-clause-part
returns-clause-part c =
    parts.part_is (content c.args.rope.now) (content_of c.in_ok-rest.rest) c.args.start c.args.end
    c.len_bytes.result c.requires.ordered c.requires.within c.len_bytes.ensures.value
    c.in_ok-rest.ensures.0 c.in_ok-rest.ensures.1 (content_of c.in_ok-part.part)
    c.in_ok-part.ensures.1

pub returns-clause-before : goal.returns-clause-before
returns-clause-before c =
    subst (λ n. IsBefore c.args.rope.now.breaks c.args.rope.now.text n c.before_rest-before.result)
    (omega (arith, c.len_chars.ensures.value, c.len_chars-2.ensures)
    ∙ parts.chars_before (content c.args.rope.now) (content_of c.in_ok-rest.rest) c.args.start
    c.args.end c.len_bytes.result c.requires.ordered c.requires.within c.len_bytes.ensures.value
    c.in_ok-rest.ensures.0 c.in_ok-rest.ensures.1) c.before_rest-before.ensures

pub returns-clause-whole : goal.returns-clause-whole
returns-clause-whole c = (
  λ _. (
    parts.begins (content c.args.rope.now) (content_of c.in_ok-rest.rest) c.args.start
        c.args.end c.len_bytes.result c.requires.ordered c.requires.within c.len_bytes.ensures.value
        c.in_ok-rest.ensures.0 c.in_ok-rest.ensures.1,
    parts.ends (content c.args.rope.now) (content_of c.in_ok-rest.rest) c.args.start c.args.end
        c.len_bytes.result c.requires.ordered c.requires.within c.len_bytes.ensures.value
        c.in_ok-rest.ensures.0 c.in_ok-rest.ensures.1 c.in_ok-part.ensures.0,
  ),
  λ _. refl,
)
