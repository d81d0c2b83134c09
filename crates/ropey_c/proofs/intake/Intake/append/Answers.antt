use Rattle.std.proofs.Common.{◌≡◌, ◌<◌, ◌∙◌, [], length, sym, ap, arith, rules}
use Rattle.std.proofs.lemmas.List.{length-take, nil_from_length}
use Rattle.ropey_c.specs.Intake.{Taking}
use Rattle.ropey_c.proofs.Takings.{Settles, taking_of, takes_none, takes_all}
use Rattle.ropey_c.proofs.intake.Intake.append.Goals as goal

pub returns-then-is_empty : goal.returns-then-is_empty
returns-then-is_empty c =
    let none : c.args.bytes.now ≡ [] = nil_from_length c.args.bytes.now (search rules) in
    let open_ = sym (ap (λ (t : Taking). t.refused) c.self.view_is) ∙ c.if-self-ne-OK.false in
    takes_none c.args.self.now c.args.bytes.now c.args.valid.now
    (taking_of _ _ _ _ _ _ c.self.invariant c.self.view_is) open_ none

pub returns : goal.returns
returns c =
    let old = c.args.self.now in
    let open_ = sym (ap (λ (t : Taking). t.refused) c.self.view_is) ∙ c.if-self-ne-OK.false in
    let some : 0 < length c.args.bytes.now = search rules in
    let none : length old.rest ≡ 0 =
    omega (
      arith,
      ap (λ (t : Taking). length t.rest) c.self.view_is,
      length-take c.self.inside.rest_len c.self.inside.rest,
      c.if-self-gt0.false,
    ) in
    let settled : Settles old [] c.args.bytes.now c.settle.result c.args.valid.now
    c.settle.new.valid c.settle.new.self = record {
      faulty = c.settle.ensures.faulty;
      fine = c.settle.ensures.fine;
      place = c.settle.ensures.place;
      kept = c.settle.ensures.kept;
      taken = c.settle.ensures.taken;
      refused = c.settle.ensures.refused;
      breaks = c.settle.ensures.breaks;
    } in
    takes_all old c.settle.new.self c.args.bytes.now c.settle.result c.args.valid.now
    c.settle.new.valid open_ some none settled
