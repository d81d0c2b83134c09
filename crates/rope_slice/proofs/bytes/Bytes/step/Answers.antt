use Rattle.std.proofs.Common.{◌<◌, sym, ◌∙◌, arith}
use Rattle.rope_slice.proofs.ByteCursors.{IsReady, ready_here, ready_beside, before_room, left_some, right_some, goes_left, goes_right}
use Rattle.rope_slice.proofs.bytes.Bytes.step.Goals.{Joined-self-end_of, then-self-end_of+else-end_of-self+in_ok-chunk, else-self-end_of}
use Rattle.rope_slice.proofs.bytes.Bytes.step.Goals as goal

-- it is adjacent to a byte of its chunk, with unchanged sides
ready : (c : Joined-self-end_of) → let s = c.if-self-end_of.self-inside in
    IsReady c.args.is_left s.is_backward c.args.self.now s.span s.chunk.now s.at s.before s.total
ready c =
    let s = c.self.inside in
    rw (← c.self.view_is) elim c.if-self-end_of.branch [
      | then-self-end_of+else-end_of-self+in_ok-chunk w ↦
          rw (w.self-inside-is) (ready_beside c.args.is_left s.is_backward s.span
          w.step_chunk.new.span s.chunk.now w.in_ok-chunk.chunk.now w.in_ok-chunk.ensures.moved
          w.in_ok-chunk.ensures.chunk s.at w.in_ok-chunk.at s.before s.total c.self.invariant
          (rw (← c.end_of.ensures) w.if-self-end_of.true)
          (λ e. w.if-end_of-self.false (w.end_of-then-self-end_of.ensures ∙ sym e))
          w.in_ok-chunk.ensures.at)
      | else-self-end_of w ↦ rw (w.self-inside-is)
          (ready_here c.args.is_left s.is_backward s.span s.chunk.now s.at s.before s.total
          c.self.invariant (rw (← c.end_of.ensures) w.if-self-end_of.false))
    ]

pub overflow_sub-self : goal.overflow_sub-self
overflow_sub-self c =
    before_room c.args.is_left c.self.inside.span c.step_chunk.new.span c.in_ok-chunk.chunk.now
    c.in_ok-chunk.ensures.moved c.in_ok-chunk.ensures.chunk c.self.inside.chunk.now c.self.inside.at
    c.in_ok-chunk.at c.self.inside.before c.self.inside.total c.self.invariant
    c.in_ok-chunk.ensures.at

pub overflow_sub-self-then-is_left : goal.overflow_sub-self-then-is_left
overflow_sub-self-then-is_left c =
    left_some _ _ _ _ _ _ _ c.args.is_left c.if-is_left.true
    (ready (goal.at.overflow_sub-self-then-is_left c).Joined-self-end_of)

pub overflow_sub-result : goal.overflow_sub-result
overflow_sub-result c =
    left_some _ _ _ _ _ _ _ c.args.is_left c.if-is_left.true
    (ready (goal.at.overflow_sub-result c).Joined-self-end_of)

pub bounds-as_bytes-at : goal.bounds-as_bytes-at
bounds-as_bytes-at c =
    let r = ready (goal.at.bounds-as_bytes-at c).Joined-self-end_of in
    let some : 0 < c.if-self-end_of.self-inside.at =
    left_some _ _ _ _ _ _ _ c.args.is_left c.if-is_left.true r in
    rw c.as_bytes.ensures.value (omega (arith, some, r.cursor.within))

pub invariant_of-self-then-is_left : goal.invariant_of-self-then-is_left
invariant_of-self-then-is_left c =
    let r = ready (goal.at.invariant_of-self-then-is_left c).Joined-self-end_of in
    let i = r.cursor in
    record {
      chunk_is = i.chunk_is;
      within = omega (arith, i.within);
      before_is = i.before_is;
      total_is = i.total_is;
      solid = i.solid;
    }

pub returns-then-is_left : goal.returns-then-is_left
returns-then-is_left c =
    rw (c.if-is_left.true, c.as_bytes.ensures.value)
    (goes_left _ _ _ _ _ _ _ c.args.is_left c.if-is_left.true
    (ready (goal.at.returns-then-is_left c).Joined-self-end_of))

pub bounds-as_bytes-at-2 : goal.bounds-as_bytes-at-2
bounds-as_bytes-at-2 c =
    rw c.as_bytes-2.ensures.value
    (right_some _ _ _ _ _ _ _ c.args.is_left c.if-is_left.false
    (ready (goal.at.bounds-as_bytes-at-2 c).Joined-self-end_of))

pub invariant_of-self-2 : goal.invariant_of-self-2
invariant_of-self-2 c =
    let r = ready (goal.at.invariant_of-self-2 c).Joined-self-end_of in
    let some = right_some _ _ _ _ _ _ _ c.args.is_left c.if-is_left.false r in
    let i = r.cursor in
    record {
      chunk_is = i.chunk_is;
      within = omega (arith, some);
      before_is = i.before_is;
      total_is = i.total_is;
      solid = i.solid;
    }

pub returns : goal.returns
returns c =
    rw (c.if-is_left.false, c.as_bytes-2.ensures.value)
    (goes_right _ _ _ _ _ _ _ c.args.is_left c.if-is_left.false
    (ready (goal.at.returns c).Joined-self-end_of))
