use Rattle.std.proofs.Common.{◌≡◌, ◌≤◌, [], length, get_or, ap, sym, ◌∙◌, ◌==◌, true, false, inl, inr, arith}
use Rattle.std.specs.Str.{chars}
use Rattle.std.proofs.lemmas.Bool.{cases_lt, cases_eq}
use Rattle.std.proofs.lemmas.Bool.Decides.{nat_tests}
use Rattle.rope_text.specs.Text.{byte_len}
use Rattle.rope_text.specs.Lookup.{chunk_index_at_char}
use Rattle.rope_slice.specs.Slice.{text_of, chunks_of, breaks_of}
use Rattle.rope_slice.proofs.FoundChunks.{only_chunk, whole_chunk, found_text}
use Rattle.rope_slice.proofs.slice.RopeSlice.only_chunk.Goals.{After-chunk_at}
use Rattle.rope_slice.proofs.slice.RopeSlice.only_chunk.Goals as goal

first : (c : After-chunk_at) → chars c.chunk_at.result.0.now
    ≡ get_or (chunks_of c.args.self) (chunk_index_at_char (chunks_of c.args.self) 0) []
first c = found_text (breaks_of c.args.self) (chunks_of c.args.self) _ _ _ _ _ c.chunk_at.ensures

one : (c : After-chunk_at) → byte_len (chars c.chunk_at.result.0.now) ≡ c.info-len.result.bytes
    → length (chunks_of c.args.self) ≤ 1
one c same =
    let cut = c.info-len.ensures.kept.cut in
    whole_chunk (chunks_of c.args.self) (chars c.chunk_at.result.0.now) cut.nonempty (first c) (same
    ∙ ap (λ x. x.bytes) c.info-len.ensures.value ∙ ap byte_len (sym cut.joined))

value : (c : After-chunk_at) → length (chunks_of c.args.self) ≤ 1
    → chars c.chunk_at.result.0.now ≡ text_of c.args.self
value c few =
    let cut = c.info-len.ensures.kept.cut in
    only_chunk (chunks_of c.args.self) (chars c.chunk_at.result.0.now) cut.nonempty (first c) few
    ∙ cut.joined

pub returns-clause-one : goal.returns-clause-one
returns-clause-one c =
    let at = (goal.at.returns-clause-one c).After-chunk_at in
    elim (cases_eq c.byte_len_of.result c.info-len.result.bytes) [
      | inl same ↦
          let is : (c.byte_len_of.result == c.info-len.result.bytes) ≡ true =
          grind (arith, nat_tests) in
          rw (c.then_some.ensures, is) (one at (sym c.byte_len_of.ensures ∙ same))
      | inr other ↦
          let is : (c.byte_len_of.result == c.info-len.result.bytes) ≡ false =
          grind (arith, nat_tests) in
          rw (c.then_some.ensures, is) tt
    ]

pub returns-clause-value : goal.returns-clause-value
returns-clause-value c =
    let at = (goal.at.returns-clause-value c).After-chunk_at in
    elim (cases_eq c.byte_len_of.result c.info-len.result.bytes) [
      | inl same ↦
          let is : (c.byte_len_of.result == c.info-len.result.bytes) ≡ true =
          grind (arith, nat_tests) in
          rw (c.then_some.ensures, is) (value at (one at (sym c.byte_len_of.ensures ∙ same)))
      | inr other ↦
          let is : (c.byte_len_of.result == c.info-len.result.bytes) ≡ false =
          grind (arith, nat_tests) in
          rw (c.then_some.ensures, is) tt
    ]

pub returns-clause-more : goal.returns-clause-more
returns-clause-more c =
    let at = (goal.at.returns-clause-more c).After-chunk_at in
    elim (cases_eq c.byte_len_of.result c.info-len.result.bytes) [
      | inl same ↦
          let is : (c.byte_len_of.result == c.info-len.result.bytes) ≡ true =
          grind (arith, nat_tests) in
          rw (c.then_some.ensures, is) tt
      | inr other ↦
          let is : (c.byte_len_of.result == c.info-len.result.bytes) ≡ false =
          grind (arith, nat_tests) in
          rw (c.then_some.ensures, is) (elim (cases_lt 1 (length (chunks_of c.args.self))) [
            | inl more ↦ more
            | inr few ↦ absurd (other (c.byte_len_of.ensures ∙ ap byte_len (value at few)
                ∙ sym (ap (λ x. x.bytes) c.info-len.ensures.value)))
          ])
    ]
