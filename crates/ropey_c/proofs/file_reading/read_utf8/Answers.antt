use Rattle.std.proofs.Common.{◌≡◌, ◌-◌, List, ℕ, ◌++◌, length, take, drop, nat_eq, sym, ap, ◌∙◌, arith}
use Rattle.std.proofs.lemmas.List.{length-drop, length-take, take_all}
use Rattle.std.proofs.lemmas.Str.{encodes-chars, utf8_valid_len_le}
use Rattle.std.specs.List.{starts_with}
use Rattle.std.specs.Str.{chars, encode_utf8_all}
use Rattle.rope_files.specs.Encodings.{mark_of, encode_unmarked}
use Rattle.rope_files.proofs.Files.{after_mark, spelled_utf8}
use Rattle.ropey_c.proofs.file_reading.read_utf8.Goals as goal

pub overflow_add-result : goal.overflow_add-result
overflow_add-result c =
    let mark : ℕ = length c.mark-mark.result.now in
    let rest : ℕ = length c.args.bytes.now - mark in
    omega (
      arith,
      c.valid_len.ensures,
      utf8_valid_len_le (take rest (drop mark c.args.bytes.now)),
      length-take rest (drop mark c.args.bytes.now),
      length-drop mark c.args.bytes.now,
      c.mark-mark.ensures.few,
    )

pub returns-in-Ok : goal.returns-in-Ok
returns-in-Ok c =
    let e = c.args.encoding in
    let bytes : List ℕ = c.args.bytes.now in
    let mark : ℕ = length c.mark-mark.result.now in
    let body : List ℕ = take (length bytes - mark) (drop mark bytes) in
    let tells : c.starts_with.result ≡ starts_with nat_eq bytes (mark_of e) =
    c.starts_with.ensures.value ∙ ap (λ m. starts_with nat_eq bytes m) c.mark-mark.ensures.mark in
    let whole : bytes ≡ mark_of e ++ drop (length (mark_of e)) bytes =
    after_mark bytes (mark_of e) (sym tells ∙ c.if-not-starts_with.false) in
    let all : body ≡ drop mark bytes = take_all (length bytes - mark) (drop mark bytes) (omega (
      arith,
      length-drop mark bytes,
    )) in
    let spelled : encode_unmarked e c.in-Ok.rope.text ≡ drop (length (mark_of e)) bytes =
    spelled_utf8 e c.in-Ok.rope.text c.requires
    ∙ ap encode_utf8_all (c.in-Ok.ensures.text ∙ ap chars c.in-Some.ensures.0)
    ∙ encodes-chars body c.in-Some.ensures.1 ∙ all
    ∙ ap (λ m. drop (length m) bytes) c.mark-mark.ensures.mark in
    (whole ∙ ap (λ xs. mark_of e ++ xs) (sym spelled), c.in-Ok.ensures.kept)
