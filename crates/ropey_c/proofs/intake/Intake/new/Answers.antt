use Rattle.std.proofs.Common.{ap, sym, arith}
use Rattle.std.proofs.lemmas.Str.{IsUtf8-nil, utf8_valid_len-IsUtf8}
use Rattle.rope_text.specs.Text.{byte_len}
use Rattle.ropey_c.proofs.intake.Intake.new.Goals as goal

pub invariant_of-result : goal.invariant_of-result
invariant_of-result c = record {
  taken_is = λ _. sym (ap byte_len c.in_ok-new_with.ensures.text);
  fits = omega arith;
  short = omega arith;
  no_text = utf8_valid_len-IsUtf8 _ IsUtf8-nil;
  sound = λ _. c.in_ok-new_with.ensures.failed;
}
