use Rattle.std.proofs.Common.{◌≡◌, refl, ap, subst, sym, ◌∙◌, [], ◌++◌, length, Err}
use Rattle.std.proofs.lemmas.List.{take-append-drop}
use Rattle.std.proofs.lemmas.Str.{encodes-chars, scalars-chars}
use Rattle.std.specs.Str.{chars, encode_utf8_all}
use Rattle.std.specs.Str.Lossy.{utf8_valid_len}
use Rattle.rope_io.specs.Reading.{Answers}
use Rattle.ropey.specs.View.{text_of}
use Rattle.rope_text.specs.Edit.{size_error, IsRefusal}
use Rattle.rope_text.specs.Read.{text_front, text_rest}
use Rattle.rope_text.proofs.ReadLaws.{IsUtf8-text_front}
use Rattle.rope_files.proofs.reading.read_utf8.Goals as goal

pub returns-in-Err-Rope-clause-answer : goal.returns-in-Err-Rope-clause-answer
returns-in-Err-Rope-clause-answer g c =
    let a = c.in-Err-Rope.ensures.answer in
    let bytes = a.0 in
    let refused = subst (λ z. Answers text_of bytes
    (g.S.Source.remaining c.from_watched_with.new.source)
    (g.S.Mark.marked c.from_watched_with.new.source) (Err z)) c.in-Err-Rope.field-0-is a.2 in
    let front = text_front bytes in
    let spelled : encode_utf8_all (chars front)
    ≡ front = encodes-chars front (IsUtf8-text_front bytes) in
    let whole = sym (take-append-drop (utf8_valid_len bytes) bytes)
    ∙ ap (λ xs. xs ++ text_rest bytes) (sym spelled) in
    let refusal = subst (λ n. IsRefusal (size_error n) c.in-Err-Rope.error)
    (ap length (sym spelled)) refused.0 in (
      bytes,
      a.1,
      (
        refused.2,
        chars front,
        text_rest bytes,
        record { whole = whole; scalars = scalars-chars front (IsUtf8-text_front bytes) },
        refusal,
      ),
    )

pub returns-in-Ok-clause-answer : goal.returns-in-Ok-clause-answer
returns-in-Ok-clause-answer g c =
    let a = c.in-Ok.ensures.answer in (a.0, a.1, (a.2.3, sym a.2.0, a.2.2))

-- no character is told apart here: all bytes are a rest
pub returns-in-Err-Read-clause-answer : goal.returns-in-Err-Read-clause-answer
returns-in-Err-Read-clause-answer g c =
    let a = c.in-Err-Read.ensures.answer in
    let read = subst (λ z. Answers text_of a.0 (g.S.Source.remaining c.from_watched_with.new.source)
    (g.S.Mark.marked c.from_watched_with.new.source) (Err z)) c.in-Err-Read.field-0-is a.2 in
    (a.0, a.1, (read.2, [], a.0, record { whole = refl; scalars = refl }, read.0))

pub returns-in-Err-InvalidData-clause-answer : goal.returns-in-Err-InvalidData-clause-answer
returns-in-Err-InvalidData-clause-answer g c =
    let a = c.in-Err-InvalidData.ensures.answer in
    let refused = subst (λ z. Answers text_of a.0
    (g.S.Source.remaining c.from_watched_with.new.source)
    (g.S.Mark.marked c.from_watched_with.new.source) (Err z)) c.in-Err-InvalidData.field-0-is a.2 in
    (a.0, a.1, (refused.3, refl, refused.0))
