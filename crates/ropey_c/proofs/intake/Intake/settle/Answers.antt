use Rattle.std.proofs.Common.{◌≡◌, ◌++◌, length, ap, arith}
use Rattle.std.specs.Str.{chars}
use Rattle.rope_text.specs.Text.{byte_len}
use Rattle.rope_text.proofs.Walks.{byte_len-chars}
use Rattle.rope_text.proofs.EditLaws.{size_error-fits}
use Rattle.ropey_c.specs.Intake.{Taking}
use Rattle.ropey_c.proofs.Bytes.{byte_len-following}
use Rattle.ropey_c.proofs.Pending.{none_waits}
use Rattle.ropey_c.proofs.intake.Intake.settle.Goals as goal

pub invariant_of-self-2 : goal.invariant_of-self-2
invariant_of-self-2 c =
    let old = c.self-2.inside.texts.text in
    let text = c.args.text.now in
    let front = c.front-front.result.now in
    let shown = ap (λ (t : Taking). t.refused) c.self-2.view_is in
    let wanted = c.requires.open in
    let none : c.self-2.inside.refused ≡ 0 = cc in
    let is = c.self-2.invariant.taken_is none in
    let shown_text = ap (λ (t : Taking). byte_len t.text) c.self-2.view_is in
    let first =
    byte_len-following old (chars text) (length text) (byte_len-chars text c.utf8.text) in
    let second =
    byte_len-following (old ++ chars text) (chars front) (length front)
    (byte_len-chars front c.front-front.utf8) in
    record {
      taken_is = λ _. omega (arith, is, first, second, ap byte_len c.in-Ok.ensures.ok.0);
      fits = omega (arith, is, shown_text, size_error-fits _ c.if-not-has_room.ensures);
      short = omega (arith, c.if-left-gt3.false);
      no_text = none_waits _ _ _ _ c.front-front.ensures c.copy_from_slice.ensures.after;
      sound = λ _. c.in-Ok.ensures.ok.1;
    }
