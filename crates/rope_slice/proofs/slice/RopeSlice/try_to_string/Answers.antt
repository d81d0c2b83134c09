use Rattle.std.proofs.Common.{◌++◌, sym, ap, ◌∙◌, append_assoc, refl}
use Rattle.std.proofs.lemmas.List.{append-nil}
use Rattle.std.proofs.lemmas.Str.{chars-encodes}
use Rattle.std.specs.Str.{chars, encode_utf8_all}
use Rattle.std.specs.String.{string_bytes}
use Rattle.rope_slice.specs.Slice.{text_of}
use Rattle.rope_slice.specs.Rest.{bytes_ahead}
use Rattle.rope_slice.proofs.Taken.{chunk_taken, none_taken}
use Rattle.rope_slice.proofs.slice.RopeSlice.try_to_string.Goals as goal

pub loop-chunk-preserved : goal.loop-chunk-preserved
loop-chunk-preserved c =
    let now = c.loop-chunk.chunk-iterator in
    let next = c.next.new.self in
    let had = string_bytes c.loop-chunk.text in
    let bytes = encode_utf8_all (chars c.in-Some.chunk.now) in
    let taken = chunk_taken now next _ bytes c.in-Some.ensures.steps refl in
    ap (λ x. x ++ bytes_ahead next) c.in_ok-push_chunk.ensures
    ∙ append_assoc had bytes (bytes_ahead next) ∙ ap (λ x. had ++ x) (sym taken)
    ∙ c.loop-chunk.invariant

pub returns-clause-text : goal.returns-clause-text
returns-clause-text c =
    let none = none_taken c.loop-chunk.chunk-iterator c.in-None.ensures.steps.0 in
    ap chars (sym (append-nil (string_bytes c.loop-chunk.text))
    ∙ sym (ap (λ x. string_bytes c.loop-chunk.text ++ x) none) ∙ c.loop-chunk.invariant)
    ∙ chars-encodes (text_of c.args.self.now) c.len_bytes.ensures.kept.scalars
