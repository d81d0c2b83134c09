use Rattle.std.proofs.Common.{◌+◌, ◌-◌, ◌≤◌, ◌++◌, length, take, length-drop, refl, ap, ◌∙◌, arith}
use Rattle.std.proofs.KnownBytes.{Consumes-kept}
use Rattle.std.proofs.lemmas.List.{append-nil}
use Rattle.rope_files.specs.Layouts.{laid_out}
use Rattle.rope_io.proofs.Buffers.{given_more, length-front_read}
use Rattle.rope_files.proofs.Decodings.{read_on, length_on, settle_answers, end_answers}
use Rattle.rope_files.proofs.Fronts.{length-laid_out}
use borrow.Rule.Slice.PartMut.{put_mid}
use Rattle.rope_files.proofs.decode.read_layout.Goals as goal

pub returns-in-Err-clause-answer : goal.returns-in-Err-clause-answer
returns-in-Err-clause-answer g c =
    let i = c.loop-count.invariant.reading in
    let bytes = laid_out c.args.layout c.loop-count.builder.text
    ++ take c.loop-count.filled c.loop-count.buffer in (
      bytes,
      Consumes-kept _ _ _ bytes i.given c.in-Err.ensures.bytes,
      (
        c.in-Err.ensures.err,
        c.loop-count.builder.text,
        take c.loop-count.filled c.loop-count.buffer,
        record { whole = refl; scalars = i.scalars },
        i.is_open,
      ),
    )

pub returns-in_err-decoded-clause-answer : goal.returns-in_err-decoded-clause-answer
returns-in_err-decoded-clause-answer g c =
    let i = c.loop-count.invariant.reading in
    let l = c.args.layout in
    let text = c.loop-count.builder.text in
    let buffer = c.loop-count.buffer in
    let filled = c.loop-count.filled in
    let count = c.in-Ok.count in
    let ys = c.take.new.buf in
    let within : filled ≤ length buffer = omega (arith, i.room, i.size) in
    let held = take (filled + count) (put_mid filled (1968 - filled) buffer ys) in
    let given = given_more (g.S.Source.remaining c.args.source.now)
    (g.S.Source.remaining c.loop-count.source) (g.S.Source.remaining c.take.new.self)
    (laid_out l text) buffer ys filled (1968 - filled) count within c.in-Ok.ensures.bound.0
    i.given c.in-Ok.ensures.bytes.0 in
    let clear = c.in-Ok.ensures.ok ∙ i.clear in
    settle_answers l c.args.mark _ _ _ text c.settle.new.builder.text held c.loop-count.offset
    c.from_residual.result c.in_err-decoded.field-0.0 c.from_residual.ensures.1
    c.in_err-decoded.ensures.refused given clear i.at i.scalars

pub returns-then-filled-eq0-clause-answer : goal.returns-then-filled-eq0-clause-answer
returns-then-filled-eq0-clause-answer g c =
    let i = c.loop-count.invariant.reading in
    let l = c.args.layout in
    let text = c.loop-count.builder.text in
    let buffer = c.loop-count.buffer in
    let filled = c.loop-count.filled in
    let count = c.in-Ok.count in
    let ys = c.take.new.buf in
    let within : filled ≤ length buffer = omega (arith, i.room, i.size) in
    let held = take (filled + count) (put_mid filled (1968 - filled) buffer ys) in
    let given = given_more (g.S.Source.remaining c.args.source.now)
    (g.S.Source.remaining c.loop-count.source) (g.S.Source.remaining c.take.new.self)
    (laid_out l text) buffer ys filled (1968 - filled) count within c.in-Ok.ensures.bound.0
    i.given c.in-Ok.ensures.bytes.0 in
    let clear = c.in-Ok.ensures.ok ∙ i.clear in
    let size = length-front_read buffer ys filled (1968 - filled) count within
    c.in-Ok.ensures.bound.0 in
    let n = c.in_ok-decoded.decoded in
    let s = c.in_ok-decoded.ensures.ok in
    let next = read_on l c.args.mark _ _ text c.settle.new.builder.text held c.settle.new.buffer n
    c.loop-count.offset (filled + count - n) c.saturating_add-offset.result _ given i.at clear s
    (omega (arith, i.size, c.settle.auto.buffer)) c.in_ok-decoded.ensures.fits
    (omega (arith, size)) (omega (arith, c.saturating_add-offset.ensures)) i.scalars in
    let end = c.in-Ok.ensures.bytes.1 c.if-count-eq0.true
    (omega (arith, i.room, i.size, c.take.auto.buf, length-drop filled buffer)) in
    let whole = ap (λ k. laid_out l c.settle.new.builder.text ++ take k c.settle.new.buffer)
    c.if-filled-eq0.true ∙ append-nil (laid_out l c.settle.new.builder.text) in (
      laid_out l c.settle.new.builder.text ++ take (filled + count - n) c.settle.new.buffer,
      next.given,
      (clear, whole, end),
    )

pub returns-then-filled-eq0-clause-scalars : goal.returns-then-filled-eq0-clause-scalars
returns-then-filled-eq0-clause-scalars g c =
    let i = c.loop-count.invariant.reading in
    let l = c.args.layout in
    let text = c.loop-count.builder.text in
    let buffer = c.loop-count.buffer in
    let filled = c.loop-count.filled in
    let count = c.in-Ok.count in
    let ys = c.take.new.buf in
    let within : filled ≤ length buffer = omega (arith, i.room, i.size) in
    let held = take (filled + count) (put_mid filled (1968 - filled) buffer ys) in
    let given = given_more (g.S.Source.remaining c.args.source.now)
    (g.S.Source.remaining c.loop-count.source) (g.S.Source.remaining c.take.new.self)
    (laid_out l text) buffer ys filled (1968 - filled) count within c.in-Ok.ensures.bound.0
    i.given c.in-Ok.ensures.bytes.0 in
    let clear = c.in-Ok.ensures.ok ∙ i.clear in
    let size = length-front_read buffer ys filled (1968 - filled) count within
    c.in-Ok.ensures.bound.0 in
    let n = c.in_ok-decoded.decoded in
    let s = c.in_ok-decoded.ensures.ok in
    let next = read_on l c.args.mark _ _ text c.settle.new.builder.text held c.settle.new.buffer n
    c.loop-count.offset (filled + count - n) c.saturating_add-offset.result _ given i.at clear s
    (omega (arith, i.size, c.settle.auto.buffer)) c.in_ok-decoded.ensures.fits
    (omega (arith, size)) (omega (arith, c.saturating_add-offset.ensures)) i.scalars in
    next.scalars

pub returns-then-count-eq0-clause-answer : goal.returns-then-count-eq0-clause-answer
returns-then-count-eq0-clause-answer g c =
    let i = c.loop-count.invariant.reading in
    let l = c.args.layout in
    let text = c.loop-count.builder.text in
    let buffer = c.loop-count.buffer in
    let filled = c.loop-count.filled in
    let count = c.in-Ok.count in
    let ys = c.take.new.buf in
    let within : filled ≤ length buffer = omega (arith, i.room, i.size) in
    let held = take (filled + count) (put_mid filled (1968 - filled) buffer ys) in
    let given = given_more (g.S.Source.remaining c.args.source.now)
    (g.S.Source.remaining c.loop-count.source) (g.S.Source.remaining c.take.new.self)
    (laid_out l text) buffer ys filled (1968 - filled) count within c.in-Ok.ensures.bound.0
    i.given c.in-Ok.ensures.bytes.0 in
    let clear = c.in-Ok.ensures.ok ∙ i.clear in
    let size = length-front_read buffer ys filled (1968 - filled) count within
    c.in-Ok.ensures.bound.0 in
    let n = c.in_ok-decoded.decoded in
    let s = c.in_ok-decoded.ensures.ok in
    let next = read_on l c.args.mark _ _ text c.settle.new.builder.text held c.settle.new.buffer n
    c.loop-count.offset (filled + count - n) c.saturating_add-offset.result _ given i.at clear s
    (omega (arith, i.size, c.settle.auto.buffer)) c.in_ok-decoded.ensures.fits
    (omega (arith, size)) (omega (arith, c.saturating_add-offset.ensures)) i.scalars in
    let end = c.in-Ok.ensures.bytes.1 c.if-count-eq0.true
    (omega (arith, i.room, i.size, c.take.auto.buf, length-drop filled buffer)) in
    end_answers l c.args.mark _ _ _ c.settle.new.builder.text c.settle.new.builder.text
    c.settle.new.buffer (filled + count - n) c.saturating_add-offset.result c.end_error.result
    next c.if-filled-eq0.false end c.end_error.ensures

pub loop-count-smaller : goal.loop-count-smaller
loop-count-smaller g c =
    let i = c.loop-count.invariant.reading in
    let l = c.args.layout in
    let text = c.loop-count.builder.text in
    let buffer = c.loop-count.buffer in
    let filled = c.loop-count.filled in
    let count = c.in-Ok.count in
    let ys = c.take.new.buf in
    let within : filled ≤ length buffer = omega (arith, i.room, i.size) in
    let held = take (filled + count) (put_mid filled (1968 - filled) buffer ys) in
    let given = given_more (g.S.Source.remaining c.args.source.now)
    (g.S.Source.remaining c.loop-count.source) (g.S.Source.remaining c.take.new.self)
    (laid_out l text) buffer ys filled (1968 - filled) count within c.in-Ok.ensures.bound.0
    i.given c.in-Ok.ensures.bytes.0 in
    let clear = c.in-Ok.ensures.ok ∙ i.clear in
    let size = length-front_read buffer ys filled (1968 - filled) count within
    c.in-Ok.ensures.bound.0 in
    let n = c.in_ok-decoded.decoded in
    let s = c.in_ok-decoded.ensures.ok in
    let next = read_on l c.args.mark _ _ text c.settle.new.builder.text held c.settle.new.buffer n
    c.loop-count.offset (filled + count - n) c.saturating_add-offset.result _ given i.at clear s
    (omega (arith, i.size, c.settle.auto.buffer)) c.in_ok-decoded.ensures.fits
    (omega (arith, size)) (omega (arith, c.saturating_add-offset.ensures)) i.scalars in
    let longer = length_on l text c.settle.new.builder.text held c.settle.new.buffer n s in
    omega (
      arith,
      longer,
      size,
      s.within,
      next.room,
      next.fits,
      i.room,
      i.fits,
      length-laid_out l text,
      length-laid_out l c.settle.new.builder.text,
      c.if-count-eq0.false,
    )

pub loop-count-preserved : goal.loop-count-preserved
loop-count-preserved g c =
    let i = c.loop-count.invariant.reading in
    let l = c.args.layout in
    let text = c.loop-count.builder.text in
    let buffer = c.loop-count.buffer in
    let filled = c.loop-count.filled in
    let count = c.in-Ok.count in
    let ys = c.take.new.buf in
    let within : filled ≤ length buffer = omega (arith, i.room, i.size) in
    let held = take (filled + count) (put_mid filled (1968 - filled) buffer ys) in
    let given = given_more (g.S.Source.remaining c.args.source.now)
    (g.S.Source.remaining c.loop-count.source) (g.S.Source.remaining c.take.new.self)
    (laid_out l text) buffer ys filled (1968 - filled) count within c.in-Ok.ensures.bound.0
    i.given c.in-Ok.ensures.bytes.0 in
    let clear = c.in-Ok.ensures.ok ∙ i.clear in
    let size = length-front_read buffer ys filled (1968 - filled) count within
    c.in-Ok.ensures.bound.0 in
    let n = c.in_ok-decoded.decoded in
    let s = c.in_ok-decoded.ensures.ok in
    let next = read_on l c.args.mark _ _ text c.settle.new.builder.text held c.settle.new.buffer n
    c.loop-count.offset (filled + count - n) c.saturating_add-offset.result _ given i.at clear s
    (omega (arith, i.size, c.settle.auto.buffer)) c.in_ok-decoded.ensures.fits
    (omega (arith, size)) (omega (arith, c.saturating_add-offset.ensures)) i.scalars in
    record {
      reading = next;
      none_failed = c.in-Ok.ensures.failures ∙ c.loop-count.invariant.none_failed;
      fresh = c.in_ok-decoded.ensures.fresh;
      breaks = c.in_ok-decoded.ensures.breaks ∙ c.loop-count.invariant.breaks;
    }
