use Rattle.std.proofs.Common.{ℕ, List, ◌≡◌, ◌≤◌, length, drop, nat_eq, length-drop, arith, sym, ap, subst, ◌∙◌, inl}
use Rattle.std.proofs.lemmas.List.{length-take}
use Rattle.std.specs.Io.KnownBytes.{Consumes, prepend_known}
use Rattle.std.specs.List.{starts_with}
use Rattle.std.specs.Option.{unwrap_or}
use Rattle.ropey.specs.View.{text_of}
use Rattle.rope_io.specs.Failing.{count_failure}
use Rattle.rope_files.specs.Encodings.{mark_of, marked_encoding, encode_unmarked, layout_of}
use Rattle.rope_files.specs.Heads.{head_bytes, held_bytes}
use Rattle.rope_files.specs.Reading.{any_failure, Answers, FailedAs, Gives, ReadsAny, text_read}
use Rattle.rope_files.proofs.Files.{built_beside, encoding_is, encoding_of_file, failed_as, failure_beside, fails_as, file_reads, read_beside, reads_whole, reads_encoding, some_encoding}
use Rattle.rope_files.proofs.reading.read_any_watched.Goals as goal

pub returns-in-Err-clause-answer : goal.returns-in-Err-clause-answer
returns-in-Err-clause-answer g c =
    let before = g.S.Source.remaining c.args.source in
    let same : g.S.Source.remaining c.clear.new.self
    ≡ before = ap g.S.Source.remaining c.clear.ensures
    ∙ g.met.S.Source.cleared_remaining c.args.source in
    let a = c.in-Err.ensures.answer in
    let e = some_encoding c.args.declared before in (
      e.0,
      e.1,
      tt,
      inl (
        a.0,
        subst (λ x. Consumes x (g.S.Source.remaining c.read.new.source) a.0)
            same a.1,
        (c.in-Err.ensures.err, a.2),
      ),
    )

pub returns-then-not-starts_with-clause-answer : goal.returns-then-not-starts_with-clause-answer
returns-then-not-starts_with-clause-answer g c =
    let head = head_bytes c.in-Ok.head in
    let encoding = c.unwrap_or-encoding.result in
    let same : g.S.Source.remaining c.clear.new.self
    ≡ g.S.Source.remaining c.args.source = ap g.S.Source.remaining c.clear.ensures
    ∙ g.met.S.Source.cleared_remaining c.args.source in
    let given = subst (λ x. Consumes x (g.S.Source.remaining c.read.new.source) head) same
    c.in-Ok.ensures.answer.0 in
    let is : encoding ≡ unwrap_or c.args.declared (marked_encoding head) =
    c.unwrap_or-encoding.ensures ∙ ap (λ e. unwrap_or c.args.declared e)
    (c.of_mark.ensures ∙ ap marked_encoding c.as_slice.ensures) in
    let tells : c.starts_with.result ≡ starts_with nat_eq head (mark_of encoding) =
    c.starts_with.ensures.value ∙ ap (λ xs. starts_with nat_eq xs c.mark-mark.result.now)
    c.as_slice-2.ensures ∙ ap (λ m. starts_with nat_eq head m) c.mark-mark.ensures.mark in
    let clear = c.in-Ok.ensures.ok ∙ ap g.S.Mark.marked c.clear.ensures
    ∙ g.met.S.Mark.cleared_unmarked c.args.source in (
      encoding,
      encoding_of_file c.args.declared (g.S.Source.remaining c.args.source)
          (g.S.Source.remaining c.read.new.source) head encoding given c.in-Ok.ensures.answer.1
          (encoding_is c.args.declared head encoding is),
      tt,
      inl (head, given, (clear, sym tells ∙ c.if-not-starts_with.true, c.in-Ok.ensures.answer.1)),
    )

pub returns-clause-answer : goal.returns-clause-answer
returns-clause-answer g c =
    let head = head_bytes c.in-Ok.head in
    let encoding = c.unwrap_or-encoding.result in
    let same : g.S.Source.remaining c.clear.new.self
    ≡ g.S.Source.remaining c.args.source = ap g.S.Source.remaining c.clear.ensures
    ∙ g.met.S.Source.cleared_remaining c.args.source in
    let given = subst (λ x. Consumes x (g.S.Source.remaining c.read.new.source) head) same
    c.in-Ok.ensures.answer.0 in
    let is : encoding ≡ unwrap_or c.args.declared (marked_encoding head) =
    c.unwrap_or-encoding.ensures ∙ ap (λ e. unwrap_or c.args.declared e)
    (c.of_mark.ensures ∙ ap marked_encoding c.as_slice.ensures) in
    let tells : c.starts_with.result ≡ starts_with nat_eq head (mark_of encoding) =
    c.starts_with.ensures.value ∙ ap (λ xs. starts_with nat_eq xs c.mark-mark.result.now)
    c.as_slice-2.ensures ∙ ap (λ m. starts_with nat_eq head m) c.mark-mark.ensures.mark in
    let ahead = c.read_body-rope.new.source in
    let held = held_bytes ahead in
    let short : length held ≤ 3 = omega (
      arith,
      length-drop ahead.at (head_bytes ahead.head),
      length-take ahead.head.len ahead.head.bytes,
      ahead.head.within,
    ) in
    let begun : held_bytes c.new-ahead.result
    ≡ drop (length (mark_of encoding)) head = c.new-ahead.ensures.held
    ∙ ap (λ m. drop (length m) head) c.mark-mark.ensures.mark in
    let decide = λ (bytes : List ℕ). Answers text_of (encode_unmarked encoding) (layout_of encoding)
    (length (mark_of encoding)) bytes (prepend_known held (g.S.Source.remaining ahead.source))
    (g.S.Mark.marked ahead.source) c.read_body-rope.result in
    let answers = subst (λ x. Gives (prepend_known x (g.S.Source.remaining c.read.new.source))
    (prepend_known held (g.S.Source.remaining ahead.source)) decide) begun
    (subst (λ s. Gives (prepend_known (held_bytes c.new-ahead.result) (g.S.Source.remaining s))
    (prepend_known held (g.S.Source.remaining ahead.source)) decide) c.new-ahead.ensures.source
    c.read_body-rope.ensures.answer) in
    let reads = file_reads c.args.declared (g.S.Source.remaining c.args.source)
    (g.S.Source.remaining c.read.new.source)
    (g.S.Source.remaining ahead.source) head held encoding (g.S.Mark.marked ahead.source)
    c.read_body-rope.result c.with_encoding.result given c.in-Ok.ensures.answer.1 is
    (sym tells ∙ c.if-not-starts_with.false) short answers c.with_encoding.ensures in
    subst (λ s. ReadsAny text_read c.args.declared (g.S.Source.remaining c.args.source)
    (g.S.Source.remaining s) (g.S.Mark.marked s) c.with_encoding.result)
    (sym c.into_source.ensures) reads

pub returns-clause-ok : goal.returns-clause-ok
returns-clause-ok g c =
    let head = head_bytes c.in-Ok.head in
    let encoding = c.unwrap_or-encoding.result in
    let same : g.S.Source.remaining c.clear.new.self
    ≡ g.S.Source.remaining c.args.source = ap g.S.Source.remaining c.clear.ensures
    ∙ g.met.S.Source.cleared_remaining c.args.source in
    let given = subst (λ x. Consumes x (g.S.Source.remaining c.read.new.source) head) same
    c.in-Ok.ensures.answer.0 in
    let is : encoding ≡ unwrap_or c.args.declared (marked_encoding head) =
    c.unwrap_or-encoding.ensures ∙ ap (λ e. unwrap_or c.args.declared e)
    (c.of_mark.ensures ∙ ap marked_encoding c.as_slice.ensures) in
    let tells : c.starts_with.result ≡ starts_with nat_eq head (mark_of encoding) =
    c.starts_with.ensures.value ∙ ap (λ xs. starts_with nat_eq xs c.mark-mark.result.now)
    c.as_slice-2.ensures ∙ ap (λ m. starts_with nat_eq head m) c.mark-mark.ensures.mark in
    let ahead = c.read_body-rope.new.source in
    let held = held_bytes ahead in
    let short : length held ≤ 3 = omega (
      arith,
      length-drop ahead.at (head_bytes ahead.head),
      length-take ahead.head.len ahead.head.bytes,
      ahead.head.within,
    ) in
    let begun : held_bytes c.new-ahead.result
    ≡ drop (length (mark_of encoding)) head = c.new-ahead.ensures.held
    ∙ ap (λ m. drop (length m) head) c.mark-mark.ensures.mark in
    let decide = λ (bytes : List ℕ). Answers text_of (encode_unmarked encoding) (layout_of encoding)
    (length (mark_of encoding)) bytes (prepend_known held (g.S.Source.remaining ahead.source))
    (g.S.Mark.marked ahead.source) c.read_body-rope.result in
    let answers = subst (λ x. Gives (prepend_known x (g.S.Source.remaining c.read.new.source))
    (prepend_known held (g.S.Source.remaining ahead.source)) decide) begun
    (subst (λ s. Gives (prepend_known (held_bytes c.new-ahead.result) (g.S.Source.remaining s))
    (prepend_known held (g.S.Source.remaining ahead.source)) decide) c.new-ahead.ensures.source
    c.read_body-rope.ensures.answer) in
    let reads = file_reads c.args.declared (g.S.Source.remaining c.args.source)
    (g.S.Source.remaining c.read.new.source)
    (g.S.Source.remaining ahead.source) head held encoding (g.S.Mark.marked ahead.source)
    c.read_body-rope.result c.with_encoding.result given c.in-Ok.ensures.answer.1 is
    (sym tells ∙ c.if-not-starts_with.false) short answers c.with_encoding.ensures in
    reads_whole _ _ _ _ c.with_encoding.result reads

pub returns-clause-encoding : goal.returns-clause-encoding
returns-clause-encoding g c =
    let head = head_bytes c.in-Ok.head in
    let encoding = c.unwrap_or-encoding.result in
    let same : g.S.Source.remaining c.clear.new.self
    ≡ g.S.Source.remaining c.args.source = ap g.S.Source.remaining c.clear.ensures
    ∙ g.met.S.Source.cleared_remaining c.args.source in
    let given = subst (λ x. Consumes x (g.S.Source.remaining c.read.new.source) head) same
    c.in-Ok.ensures.answer.0 in
    let is : encoding ≡ unwrap_or c.args.declared (marked_encoding head) =
    c.unwrap_or-encoding.ensures ∙ ap (λ e. unwrap_or c.args.declared e)
    (c.of_mark.ensures ∙ ap marked_encoding c.as_slice.ensures) in
    let tells : c.starts_with.result ≡ starts_with nat_eq head (mark_of encoding) =
    c.starts_with.ensures.value ∙ ap (λ xs. starts_with nat_eq xs c.mark-mark.result.now)
    c.as_slice-2.ensures ∙ ap (λ m. starts_with nat_eq head m) c.mark-mark.ensures.mark in
    let ahead = c.read_body-rope.new.source in
    let held = held_bytes ahead in
    let short : length held ≤ 3 = omega (
      arith,
      length-drop ahead.at (head_bytes ahead.head),
      length-take ahead.head.len ahead.head.bytes,
      ahead.head.within,
    ) in
    let begun : held_bytes c.new-ahead.result
    ≡ drop (length (mark_of encoding)) head = c.new-ahead.ensures.held
    ∙ ap (λ m. drop (length m) head) c.mark-mark.ensures.mark in
    let decide = λ (bytes : List ℕ). Answers text_of (encode_unmarked encoding) (layout_of encoding)
    (length (mark_of encoding)) bytes (prepend_known held (g.S.Source.remaining ahead.source))
    (g.S.Mark.marked ahead.source) c.read_body-rope.result in
    let answers = subst (λ x. Gives (prepend_known x (g.S.Source.remaining c.read.new.source))
    (prepend_known held (g.S.Source.remaining ahead.source)) decide) begun
    (subst (λ s. Gives (prepend_known (held_bytes c.new-ahead.result) (g.S.Source.remaining s))
    (prepend_known held (g.S.Source.remaining ahead.source)) decide) c.new-ahead.ensures.source
    c.read_body-rope.ensures.answer) in
    let reads = file_reads c.args.declared (g.S.Source.remaining c.args.source)
    (g.S.Source.remaining c.read.new.source)
    (g.S.Source.remaining ahead.source) head held encoding (g.S.Mark.marked ahead.source)
    c.read_body-rope.result c.with_encoding.result given c.in-Ok.ensures.answer.1 is
    (sym tells ∙ c.if-not-starts_with.false) short answers c.with_encoding.ensures in
    reads_encoding _ _ _ _ c.with_encoding.result reads

pub returns-clause-failure : goal.returns-clause-failure
returns-clause-failure g c =
    let ahead = c.read_body-rope.new.source in
    let known = c.read_body-rope.ensures.failure.0
    ∙ failure_beside c.read_body-rope.result c.unwrap_or-encoding.result c.with_encoding.result
    c.with_encoding.ensures in
    subst (λ s. FailedAs c.with_encoding.result (g.S.Mark.failure s)) (sym c.into_source.ensures)
    (failed_as ahead.is_quiet (g.S.Mark.failure ahead.source) c.with_encoding.result known)

pub returns-clause-failures : goal.returns-clause-failures
returns-clause-failures g c =
    let rope = c.read_body-rope.result in
    let before = ap g.S.Mark.failures c.new-ahead.ensures.source ∙ c.in-Ok.ensures.failures
    ∙ ap g.S.Mark.failures c.clear.ensures ∙ g.met.S.Mark.cleared_failures c.args.source in
    ap g.S.Mark.failures c.into_source.ensures ∙ c.read_body-rope.ensures.failure.1
    ∙ ap (λ n. count_failure (any_failure rope) n) before
    ∙ ap (λ k. count_failure k (g.S.Mark.failures c.args.source))
    (failure_beside rope c.unwrap_or-encoding.result c.with_encoding.result c.with_encoding.ensures)

pub returns-clause-failed : goal.returns-clause-failed
returns-clause-failed g c =
    let ahead = c.read_body-rope.new.source in
    let encoding = c.unwrap_or-encoding.result in
    let rope = c.read_body-rope.result in
    let a = c.read_body-rope.ensures.answer in
    let beside = read_beside rope encoding c.with_encoding.result c.with_encoding.ensures in
    let fails = fails_as (encode_unmarked encoding) (layout_of encoding) (length (mark_of encoding))
    a.0 (prepend_known (held_bytes ahead) (g.S.Source.remaining ahead.source))
    (g.S.Mark.marked ahead.source) rope a.2 in
    let same = ap g.S.Mark.marked c.into_source.ensures in
    (λ h. same ∙ fails.0 (beside.0 h), λ e. beside.1 (fails.1 (sym same ∙ e)))

pub returns-clause-kept : goal.returns-clause-kept
returns-clause-kept g c =
    built_beside c.args.breaks c.read_body-rope.result c.unwrap_or-encoding.result
    c.with_encoding.result c.with_encoding.ensures c.read_body-rope.ensures.kept
