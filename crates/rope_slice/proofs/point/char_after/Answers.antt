use Rattle.std.proofs.Common.{◌≡◌, ◌++◌, drop}
use Rattle.std.specs.Char.{encode_utf8}
use Rattle.rope_slice.proofs.Points.{ascii_after, char_between_rest}
use Rattle.rope_slice.proofs.point.char_after.Goals as goal

pub returns-then-byte-lt128 : goal.returns-then-byte-lt128
returns-then-byte-lt128 c =
    rw c.as_bytes.ensures.value
    (ascii_after c.args.text.now c.args.at c.utf8.text c.requires.cut c.requires.within
    (rw (← c.as_bytes.ensures.value) c.if-byte-lt128.true))

pub returns : goal.returns
returns c =
    let s = c.as_str.result.now in
    let h : drop c.args.at c.args.text.now ≡ encode_utf8 c.in-Some.c ++ s =
    cc (c.in-Some.ensures.steps.0) in
    char_between_rest c.args.text.now s c.args.at c.in-Some.c c.utf8.text c.requires.cut h
