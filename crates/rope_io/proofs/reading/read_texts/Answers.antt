use Rattle.std.proofs.Common.{◌-◌, ◌≤◌, ◌≡◌, ◌++◌, length, take, refl, ap, sym, ◌∙◌, arith, length-drop}
use Rattle.std.specs.Str.{encode_utf8_all}
use Rattle.std.proofs.lemmas.List.{length-take-le, append-nil, nil_from_length}
use Rattle.rope_io.proofs.Readings.{nothing_read, rest_is, front_fits, refused_full, refused_at_end, given_kept, given_more, read_on, refused_on, bounded, length_on, refusal_answers}
use Rattle.rope_io.proofs.reading.read_texts.Goals as goal

pub loop-count-init : goal.loop-count-init
loop-count-init g c = record {
  reading = record {
    read = nothing_read (g.S.Source.remaining c.args.source.now) c.args.builder.now.text
        c.requires.empty;
    room = omega arith;
    size = refl;
    clear = c.requires.clear;
  };
  none_failed = refl;
  breaks = refl;
}

pub returns-in-Err-clause-answer : goal.returns-in-Err-clause-answer
returns-in-Err-clause-answer g c =
    let i = c.loop-count.invariant.reading in
    let held = take c.loop-count.filled c.loop-count.buffer in
    let h = i.read in (
      encode_utf8_all c.loop-count.builder.text ++ held,
      given_kept _ _ _ held h _ c.in-Err.ensures.bytes,
      (
        omega (
          arith,
          ap length (rest_is _ _ _ held h),
          i.room,
          i.size,
          length-take-le c.loop-count.filled c.loop-count.buffer (omega (arith, i.room, i.size)),
        ),
        front_fits _ _ _ held h,
        c.in-Err.ensures.err,
      ),
    )

pub returns-in_err-filled-clause-answer : goal.returns-in_err-filled-clause-answer
returns-in_err-filled-clause-answer g c =
    let i = c.loop-count.invariant.reading in
    let filled = c.loop-count.filled in
    let buffer = c.loop-count.buffer in
    let within : filled ≤ length buffer = omega (arith, i.room, i.size) in
    let some = c.in-Ok.ensures.bound.0 in (
      _,
      given_more _ _ _ c.loop-count.builder.text buffer c.take.new.buf filled (1968 - filled)
          c.in-Ok.count within some i.read c.in-Ok.ensures.bytes.0,
      refusal_answers _ _ _ _ c.from_residual.result c.in_err-filled.field-0.0
          c.from_residual.ensures.1 (
            refused_on _ _ _ c.loop-count.builder.text buffer c.take.new.buf filled (1968 - filled)
                c.in-Ok.count within some i.read c.in-Ok.ensures.bytes.0 c.in_err-filled.field-0.0
                c.in_err-filled.ensures.refused,
            bounded _ _ _ c.loop-count.builder.text buffer c.take.new.buf filled (1968 - filled)
                c.in-Ok.count within some i.read c.in-Ok.ensures.bytes.0
                (omega (arith, i.room, i.size, some, c.take.auto.buf, length-drop filled buffer)),
            c.in-Ok.ensures.ok ∙ i.clear,
          ),
    )

pub returns-then-filled-eq-BUFFER_BYTES-clause-answer :
    goal.returns-then-filled-eq-BUFFER_BYTES-clause-answer
returns-then-filled-eq-BUFFER_BYTES-clause-answer g c =
    let i = c.loop-count.invariant.reading in
    let e = c.in_ok-filled.ensures in
    let filled = c.loop-count.filled in
    let buffer = c.loop-count.buffer in
    let within : filled ≤ length buffer = omega (arith, i.room, i.size) in
    let held = take c.in_ok-filled.filled c.settle.new.buffer in
    let h = read_on _ _ _ c.loop-count.builder.text buffer c.take.new.buf filled (1968 - filled)
    c.in-Ok.count within c.in-Ok.ensures.bound.0 i.read c.in-Ok.ensures.bytes.0
    c.settle.new.builder.text held e.text e.rest e.fits in
    let full = length-take-le c.in_ok-filled.filled c.settle.new.buffer (omega arith)
    ∙ c.if-filled-eq-BUFFER_BYTES.true in (
      encode_utf8_all c.settle.new.builder.text ++ held,
      h.given,
      (
        refused_full _ _ _ held h full,
        omega (arith, ap length (rest_is _ _ _ held h), full),
        front_fits _ _ _ held h,
        c.in-Ok.ensures.ok ∙ i.clear,
      ),
    )

pub returns-then-count-eq0-clause-answer : goal.returns-then-count-eq0-clause-answer
returns-then-count-eq0-clause-answer g c =
    let i = c.loop-count.invariant.reading in
    let e = c.in_ok-filled.ensures in
    let filled = c.loop-count.filled in
    let buffer = c.loop-count.buffer in
    let within : filled ≤ length buffer = omega (arith, i.room, i.size) in
    let held = take c.in_ok-filled.filled c.settle.new.buffer in
    let h = read_on _ _ _ c.loop-count.builder.text buffer c.take.new.buf filled (1968 - filled)
    c.in-Ok.count within c.in-Ok.ensures.bound.0 i.read c.in-Ok.ensures.bytes.0
    c.settle.new.builder.text held e.text e.rest e.fits in
    let size = length-take-le c.in_ok-filled.filled c.settle.new.buffer (omega arith) in
    let end =
    c.in-Ok.ensures.bytes.1 c.if-count-eq0.true
    (omega (arith, i.room, i.size, c.take.auto.buf, length-drop filled buffer)) in (
      encode_utf8_all c.settle.new.builder.text ++ held,
      h.given,
      (
        refused_at_end _ _ _ held h (omega (arith, size)) end,
        omega (arith, ap length (rest_is _ _ _ held h), size),
        front_fits _ _ _ held h,
        c.in-Ok.ensures.ok ∙ i.clear,
      ),
    )

pub returns-then-filled-eq0-clause-answer : goal.returns-then-filled-eq0-clause-answer
returns-then-filled-eq0-clause-answer g c =
    let i = c.loop-count.invariant.reading in
    let e = c.in_ok-filled.ensures in
    let filled = c.loop-count.filled in
    let buffer = c.loop-count.buffer in
    let within : filled ≤ length buffer = omega (arith, i.room, i.size) in
    let held = take c.in_ok-filled.filled c.settle.new.buffer in
    let h = read_on _ _ _ c.loop-count.builder.text buffer c.take.new.buf filled (1968 - filled)
    c.in-Ok.count within c.in-Ok.ensures.bound.0 i.read c.in-Ok.ensures.bytes.0
    c.settle.new.builder.text held e.text e.rest e.fits in
    let none : length held ≡ 0 =
    length-take-le c.in_ok-filled.filled c.settle.new.buffer (omega arith) ∙ c.if-filled-eq0.true in
    let end =
    c.in-Ok.ensures.bytes.1 c.if-count-eq0.true
    (omega (arith, i.room, i.size, c.take.auto.buf, length-drop filled buffer)) in (
      encode_utf8_all c.settle.new.builder.text ++ held,
      h.given,
      (
        sym (ap (λ xs. encode_utf8_all c.settle.new.builder.text ++ xs) (nil_from_length held none)
            ∙ append-nil (encode_utf8_all c.settle.new.builder.text)),
        omega (arith, ap length (rest_is _ _ _ held h), none),
        end,
        c.in-Ok.ensures.ok ∙ i.clear,
      ),
    )

pub returns-then-filled-eq0-clause-utf8 : goal.returns-then-filled-eq0-clause-utf8
returns-then-filled-eq0-clause-utf8 g c =
    let i = c.loop-count.invariant.reading in
    let e = c.in_ok-filled.ensures in
    let filled = c.loop-count.filled in
    let buffer = c.loop-count.buffer in
    let within : filled ≤ length buffer = omega (arith, i.room, i.size) in
    let held = take c.in_ok-filled.filled c.settle.new.buffer in
    let h = read_on _ _ _ c.loop-count.builder.text buffer c.take.new.buf filled (1968 - filled)
    c.in-Ok.count within c.in-Ok.ensures.bound.0 i.read c.in-Ok.ensures.bytes.0
    c.settle.new.builder.text held e.text e.rest e.fits in
    h.utf8

pub loop-count-smaller : goal.loop-count-smaller
loop-count-smaller g c =
    let i = c.loop-count.invariant.reading in
    let e = c.in_ok-filled.ensures in
    let filled = c.loop-count.filled in
    let buffer = c.loop-count.buffer in
    let within : filled ≤ length buffer = omega (arith, i.room, i.size) in
    let held = take c.in_ok-filled.filled c.settle.new.buffer in
    let n = length_on _ _ _ c.loop-count.builder.text buffer c.take.new.buf filled (1968 - filled)
    c.in-Ok.count within c.in-Ok.ensures.bound.0 i.read c.in-Ok.ensures.bytes.0
    c.settle.new.builder.text held e.text e.rest in
    let size =
    length-take-le c.in_ok-filled.filled c.settle.new.buffer
    (omega (
      arith,
      i.size,
      c.settle.auto.buffer,
      e.bound,
      c.in-Ok.ensures.bound.0,
      c.take.auto.buf,
      length-drop filled buffer,
    )) in
    let fits = i.read.fits in
    omega (arith, n, size, i.room, fits, e.fits, e.bound, c.in-Ok.ensures.bound.0, c.take.auto.buf)

pub loop-count-preserved : goal.loop-count-preserved
loop-count-preserved g c =
    let i = c.loop-count.invariant.reading in
    let e = c.in_ok-filled.ensures in
    let filled = c.loop-count.filled in
    let buffer = c.loop-count.buffer in
    let within : filled ≤ length buffer = omega (arith, i.room, i.size) in
    let held = take c.in_ok-filled.filled c.settle.new.buffer in
    record {
      reading = record {
        read = read_on _ _ _ c.loop-count.builder.text buffer c.take.new.buf filled (1968 - filled)
            c.in-Ok.count within c.in-Ok.ensures.bound.0 i.read c.in-Ok.ensures.bytes.0
            c.settle.new.builder.text held e.text e.rest e.fits;
        room = omega (
          arith,
          i.room,
          i.size,
          c.take.auto.buf,
          length-drop filled buffer,
          e.bound,
          c.in-Ok.ensures.bound.0,
        );
        size = omega (arith, i.size, c.settle.auto.buffer);
        clear = c.in-Ok.ensures.ok ∙ i.clear;
      };
      none_failed = c.in-Ok.ensures.failures ∙ c.loop-count.invariant.none_failed;
      breaks = e.breaks ∙ c.loop-count.invariant.breaks;
    }
