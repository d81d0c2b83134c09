use Rattle.std.proofs.Common.{◌≡◌, ◌-◌, ◌++◌, take, ap, arith}
use Rattle.std.specs.Char.{encode_utf8}
use Rattle.rope_slice.proofs.Points.{ascii_before, char_between_front}
use Rattle.rope_slice.proofs.point.char_before.Goals as goal

pub returns-then-byte-lt128 : goal.returns-then-byte-lt128
returns-then-byte-lt128 c =
    rw c.as_bytes.ensures.value
    (ascii_before c.args.text.now c.args.at c.utf8.text c.requires.cut c.requires.some
    (rw (← c.as_bytes.ensures.value) c.if-byte-lt128.true))

pub returns : goal.returns
returns c =
    let s = c.as_str.result.now in
    let z : c.args.at ≡ c.args.at - 0 = omega arith in
    let h : take c.args.at c.args.text.now ≡ s ++ encode_utf8 c.in-Some.c =
    rw (
      c.as_str.ensures,
      ← c.in-Some.ensures.steps,
      c.chars-front.ensures.rest,
      c.range.ensures.value,
    ) (ap (λ n. take n c.args.text.now) z) in
    char_between_front c.args.text.now s c.args.at c.in-Some.c c.utf8.text c.requires.cut
    c.as_str.utf8 h
