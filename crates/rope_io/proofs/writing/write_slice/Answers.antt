use Rattle.std.proofs.Common.{◌∷◌, ◌++◌, [], ap, sym, ◌∙◌, append_assoc}
use Rattle.std.proofs.KnownBytes.{Appends-nil}
use Rattle.std.specs.List.{concat}
use Rattle.std.specs.Str.{chars}
use Rattle.rope_text.specs.Sides.{ahead}
use Rattle.rope_slice.specs.Slice.{text_of}
use Rattle.rope_slice.proofs.Kept.{chunks_join}
use Rattle.rope_io.specs.Failing.{count_failure}
use Rattle.rope_io.proofs.Writings.{chunk_written, chunk_begun, all_written, front_all}
use Rattle.rope_io.proofs.writing.write_slice.Goals as goal

pub loop-chunk-init : goal.loop-chunk-init
loop-chunk-init g c =
    let old = c.args.sink.now in
    record {
      written = record {
        before = [];
        whole = sym (chunks_join c.args.slice.now)
            ∙ ap (λ x. concat (ahead x))
            (sym (c.into_iter-chunk-iterator.ensures.into_iter_gives
            ∙ c.chunks-chunk-items.ensures));
        appended =
            rw (c.clear.ensures, g.met.S.Sink.cleared_contents old)
            (Appends-nil (g.S.Sink.contents old));
      };
      none_failed = record {
        clear = rw c.clear.ensures (g.met.S.Mark.cleared_unmarked old);
        none = rw c.clear.ensures (g.met.S.Mark.cleared_failure old);
        same = rw c.clear.ensures (g.met.S.Mark.cleared_failures old);
      };
    }

pub loop-chunk-preserved : goal.loop-chunk-preserved
loop-chunk-preserved g c =
    let i = c.loop-chunk.invariant.written in
    let s = c.as_bytes.result.now in
    let more = ahead c.next.new.self in
    let w = c.in_ok-write_bytes.ensures.failure in
    record {
      written = record {
        before = i.before ++ chars s;
        whole = i.whole ∙ ap (λ a. i.before ++ concat a) (c.in-Some.ensures.steps
            ∙ ap (λ b. chars b ∷ more) (sym c.as_bytes.ensures.value))
            ∙ sym (append_assoc i.before (chars s) (concat more));
        appended =
            chunk_written _ _ _ i.before s c.as_bytes.ensures.utf8 i.appended
            c.in_ok-write_bytes.ensures.ok;
      };
      none_failed = record {
        clear = c.in_ok-write_bytes.ensures.clear;
        none = w.0;
        same = w.1 ∙ ap (λ k. count_failure k (g.S.Mark.failures c.loop-chunk.sink)) w.0
            ∙ c.loop-chunk.invariant.none_failed.same;
      };
    }

pub returns-in_err-write_bytes-clause-front : goal.returns-in_err-write_bytes-clause-front
returns-in_err-write_bytes-clause-front g c =
    let i = c.loop-chunk.invariant.written in
    let s = c.as_bytes.result.now in
    let more = ahead c.next.new.self in
    chunk_begun _ _ _ (text_of c.args.slice.now) i.before s more c.as_bytes.ensures.utf8
    (i.whole ∙ ap (λ a. i.before ++ concat a) (c.in-Some.ensures.steps
    ∙ ap (λ b. chars b ∷ more) (sym c.as_bytes.ensures.value)))
    i.appended c.in_err-write_bytes.ensures.front

pub returns-clause-front : goal.returns-clause-front
returns-clause-front g c =
    let i = c.loop-chunk.invariant.written in
    front_all _ _ _ (all_written _ _ _ i.before (ahead c.loop-chunk.chunk-iterator)
    c.in-None.ensures.steps.0 i.whole i.appended)

pub returns-clause-ok : goal.returns-clause-ok
returns-clause-ok g c =
    let i = c.loop-chunk.invariant.written in
    all_written _ _ _ i.before (ahead c.loop-chunk.chunk-iterator) c.in-None.ensures.steps.0 i.whole
    i.appended

pub returns-clause-failed : goal.returns-clause-failed
returns-clause-failed g c =
    let clear = c.loop-chunk.invariant.none_failed.clear in
    ((λ e. absurd (cc)), (λ m. absurd (cc)))

pub returns-clause-failure : goal.returns-clause-failure
returns-clause-failure g c =
    let f = c.loop-chunk.invariant.none_failed in (
      f.none,
      f.same ∙ ap (λ k. count_failure k (g.S.Mark.failures c.args.sink.now)) (sym f.none),
    )
