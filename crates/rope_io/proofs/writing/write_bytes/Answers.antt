use Rattle.std.proofs.Common.{◌≡◌, ◌++◌, None, Ok, take, drop, arith, sym, ap, ◌∙◌, inl, append_assoc, length-drop, [], refl, length}
use Rattle.std.proofs.KnownBytes.{Appends-nil, Appends-trans}
use Rattle.std.proofs.lemmas.Bool.{eqb-true}
use Rattle.std.proofs.lemmas.List.{take-append-drop, take_all}
use Rattle.rope_io.specs.Failing.{write_failure, count_failure}
use Rattle.rope_io.proofs.Writings.{took_some, front_all, all_done}
use Rattle.rope_io.proofs.writing.write_bytes.Goals as goal

pub loop-rest-preserved : goal.loop-rest-preserved
loop-rest-preserved g c =
    let i = c.loop-rest.invariant.writing in
    let f = c.loop-rest.invariant.none_failed in
    let n = c.in_ok-count.count in
    let r = c.loop-rest.rest.now in
    let good : write_failure (Ok n) r ≡ None = took_some n r (omega arith) in
    record {
      writing = record {
        done = i.done ++ take n r;
        whole = i.whole ∙ ap (λ zs. i.done ++ zs) (sym (take-append-drop n r))
            ∙ sym (append_assoc i.done (take n r) (drop n r))
            ∙ ap (λ zs. (i.done ++ take n r) ++ zs)
            (sym (take_all _ (drop n r) (omega (arith, length-drop n r))));
        appended = Appends-trans _ _ _ i.done (take n r) i.appended c.in_ok-count.ensures.bytes;
      };
      none_failed = record {
        clear = c.in_ok-count.ensures.ok (inl (omega arith)) ∙ f.clear;
        none = c.in_ok-count.ensures.failure ∙ good;
        same = c.in_ok-count.ensures.failures
            ∙ ap (λ k. count_failure k (g.S.Mark.failures c.loop-rest.sink)) good ∙ f.same;
      };
    }

pub returns-then-count-eq0-clause-ok : goal.returns-then-count-eq0-clause-ok
returns-then-count-eq0-clause-ok g c = tt

pub returns-clause-clear : goal.returns-clause-clear
returns-clause-clear g c = c.loop-rest.invariant.none_failed.clear

pub returns-clause-failure : goal.returns-clause-failure
returns-clause-failure g c =
    let f = c.loop-rest.invariant.none_failed in (
      f.none,
      f.same ∙ ap (λ k. count_failure k (g.S.Mark.failures c.args.sink.now)) (sym f.none),
    )

pub loop-rest-init : goal.loop-rest-init
loop-rest-init g c =
    record {
      writing = record {
        done = [];
        whole = refl;
        appended = Appends-nil (g.S.Sink.contents c.args.sink.now);
      };
      none_failed = record { clear = c.requires.clear; none = c.requires.none; same = refl };
    }

pub returns-clause-ok : goal.returns-clause-ok
returns-clause-ok g c =
    all_done _ _ c.args.bytes.now c.loop-rest.rest.now c.loop-rest.invariant.writing
    (eqb-true (length c.loop-rest.rest.now) 0 (sym c.loop-rest-test.ensures))

pub returns-clause-front : goal.returns-clause-front
returns-clause-front g c =
    front_all _ _ _
    (all_done _ _ c.args.bytes.now c.loop-rest.rest.now c.loop-rest.invariant.writing
    (eqb-true (length c.loop-rest.rest.now) 0 (sym c.loop-rest-test.ensures)))

pub returns-then-count-eq0-clause-front : goal.returns-then-count-eq0-clause-front
returns-then-count-eq0-clause-front g c =
    let i = c.loop-rest.invariant.writing in
    let n = c.in_ok-count.count in
    let r = c.loop-rest.rest.now in
    record {
      front = i.done ++ take n r;
      back = drop n r;
      whole = i.whole ∙ ap (λ zs. i.done ++ zs) (sym (take-append-drop n r))
          ∙ sym (append_assoc i.done (take n r) (drop n r));
      appended = Appends-trans _ _ _ i.done (take n r) i.appended c.in_ok-count.ensures.bytes;
    }
