use Rattle.std.proofs.Common.{◌≡◌, ap, subst, sym, ◌∙◌, rules}
use Rattle.std.specs.Io.KnownBytes.{Appends}
use Rattle.std.proofs.lemmas.Result.{on_ok_weaker}
use Rattle.rope_io.specs.Failing.{count_failure}
use Rattle.rope_io.specs.Writing.{AppendsFront}
use Rattle.rope_text.specs.Sides.{ahead}
use Rattle.rope_files.specs.Layouts.{laid_out}
use Rattle.rope_files.proofs.Writings.{CanHave, can_all, front_front, gather_none, gather_more, gathered_front, gathered_all, can_rest}
use Rattle.rope_files.proofs.writing.write_laid.Goals as goal

pub returns-in_err-write_bytes-clause-front : goal.returns-in_err-write_bytes-clause-front
returns-in_err-write_bytes-clause-front g c = front_front _ _ c.args.mark.now
    (laid_out c.args.layout c.args.rope.now.text) c.in_err-write_bytes.ensures.front

pub returns-in_err-make_room-clause-front : goal.returns-in_err-make_room-clause-front
returns-in_err-make_room-clause-front g c =
    gathered_front c.args.layout _ _ _ c.args.mark.now c.args.rope.now.text c.loop-c.gathered.items
    (ahead c.loop-c.c-iterator) c.loop-c.invariant.gathering c.in_err-make_room.ensures.front

pub loop-c-preserved : goal.loop-c-preserved
loop-c-preserved g c =
    let i = c.loop-c.invariant in
    let more = ahead c.next.new.self in
    let s = c.in_ok-make_room.ensures.ok in
    let w = c.in_ok-make_room.ensures.failure in
    record {
      gathering = gather_more c.args.layout _ _ _ c.args.mark.now c.args.rope.now.text
          c.loop-c.gathered.items (ahead c.loop-c.c-iterator) more s.sent
          c.make_room.new.gathered.items
          c.push_char.new.gathered.items c.in-Some.c i.gathering c.in-Some.ensures.steps s.whole
          s.appended c.push_char.ensures;
      can_have = can_rest c.args.layout c.in-Some.c more
          (subst (CanHave c.args.layout) c.in-Some.ensures.steps i.can_have);
      none_failed = record {
        clear = c.in_ok-make_room.ensures.clear;
        none = w.0;
        same = w.1 ∙ ap (λ k. count_failure k (g.S.Mark.failures c.loop-c.sink)) w.0
            ∙ i.none_failed.same;
      };
    }

pub returns-clause-ok : goal.returns-clause-ok
returns-clause-ok g c =
    on_ok_weaker c.write_bytes-2.result
    (λ p. gathered_all c.args.layout _ _ _ c.args.mark.now c.args.rope.now.text
    c.loop-c.gathered.items (ahead c.loop-c.c-iterator) c.loop-c.invariant.gathering
    c.in-None.ensures.steps.0
    (subst (Appends (g.S.Sink.contents c.loop-c.sink) (g.S.Sink.contents c.write_bytes-2.new.sink))
    c.as_slice.ensures.value p)) c.write_bytes-2.ensures.ok

pub returns-clause-front : goal.returns-clause-front
returns-clause-front g c =
    gathered_front c.args.layout _ _ _ c.args.mark.now c.args.rope.now.text c.loop-c.gathered.items
    (ahead c.loop-c.c-iterator) c.loop-c.invariant.gathering
    (subst (AppendsFront (g.S.Sink.contents c.loop-c.sink)
    (g.S.Sink.contents c.write_bytes-2.new.sink)) c.as_slice.ensures.value
    c.write_bytes-2.ensures.front)

pub loop-c-init : goal.loop-c-init
loop-c-init g c =
    let all : ahead c.into_iter-c-iterator.result ≡ c.args.rope.now.text =
    ap ahead (c.into_iter-c-iterator.ensures.into_iter_gives ∙ c.chars-c-items.ensures) in
    let w = c.in_ok-write_bytes.ensures.failure in
    record {
      gathering = gather_none c.args.layout _ _ c.args.mark.now c.args.rope.now.text
          (ahead c.into_iter-c-iterator.result) c.new.result.items all c.new.ensures
          c.in_ok-write_bytes.ensures.ok;
      can_have = subst (CanHave c.args.layout) (sym all)
          (can_all c.args.layout c.args.rope.now.text c.requires.encodable);
      none_failed = record {
        clear = c.in_ok-write_bytes.ensures.clear;
        none = w.0;
        same = w.1 ∙ ap (λ k. count_failure k (g.S.Mark.failures c.args.sink.now)) w.0;
      };
    }

pub returns-in_err-make_room-clause-failure : goal.returns-in_err-make_room-clause-failure
returns-in_err-make_room-clause-failure g c = (
  search rules,
  c.in_err-make_room.ensures.failure.1
      ∙ ap (count_failure (g.S.Mark.failure c.make_room.new.sink))
      c.loop-c.invariant.none_failed.same,
)

pub returns-clause-failure : goal.returns-clause-failure
returns-clause-failure g c = (
  c.write_bytes-2.ensures.failure.0,
  c.write_bytes-2.ensures.failure.1
      ∙ ap (count_failure (g.S.Mark.failure c.write_bytes-2.new.sink))
      c.loop-c.invariant.none_failed.same,
)
