-- The texts passed in are those that the iterator yielded.
use Rattle.std.proofs.lemmas.Result.{IfOk-weaker, IfErr-weaker}
use Rattle.ropey.proofs.TextsGiven.{Appended-push, yields_all, passed_on}
use Rattle.ropey.proofs.TextsGiven.{stops_at_text, stops_at_end}
use Rattle.ropey.proofs.texts.take_texts.Goals as goal

pub loop-text-preserved : goal.loop-text-preserved
loop-text-preserved g c =
    let goes = c.in-Some.ensures.goes.on c.loop-text.invariant.is_finite in
    record {
      can_next = goes.0;
      is_finite = goes.1;
      appended = Appended-push g.I.Iterator.next_gives g.T.AsStr.text c.args.texts.now
          c.loop-text.texts c.next.new.self c.in-Some.text c.as_str.result.now
          c.loop-text.builder c.append.new.self c.loop-text.invariant.appended
          c.in-Some.ensures.steps c.as_str.utf8 c.as_str.ensures c.in_ok-append.ensures.ok.0
          c.in_ok-append.ensures.ok.1 c.append.ensures.breaks c.in_ok-append.ensures.ok.2;
    }

pub returns-in_err-append-clause-refused : goal.returns-in_err-append-clause-refused
returns-in_err-append-clause-refused g c =
    let error = c.in_err-append.field-0.0 in
    passed_on c.from_residual.result error _ c.from_residual.ensures.1
    (stops_at_text g.I.Iterator.next_gives g.T.AsStr.text c.args.texts.now c.loop-text.texts
    c.next.new.self c.in-Some.text c.as_str.result.now c.loop-text.builder error
    c.loop-text.invariant.appended c.in-Some.ensures.steps c.as_str.utf8 c.as_str.ensures
    c.in_err-append.ensures.refused)

pub returns-clause-text : goal.returns-clause-text
returns-clause-text g c = IfOk-weaker c.finish.result _ _
    (λ rope is. yields_all g.I.Iterator.next_gives g.T.AsStr.text c.args.texts.now
    c.loop-text.texts c.next.new.self c.loop-text.builder rope.text
    c.loop-text.invariant.appended c.in_default.ensures.steps is)
    c.finish.ensures.text

pub returns-clause-refused : goal.returns-clause-refused
returns-clause-refused g c = IfErr-weaker c.finish.result _ _
    (λ error is. stops_at_end g.I.Iterator.next_gives g.T.AsStr.text c.args.texts.now
    c.loop-text.texts c.next.new.self c.loop-text.builder error
    c.loop-text.invariant.appended c.in_default.ensures.steps is)
    c.finish.ensures.refused
