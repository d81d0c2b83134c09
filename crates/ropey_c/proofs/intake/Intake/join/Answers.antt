use Rattle.std.proofs.Common.{◌≡◌, ◌∙◌, ℕ, ◌-◌, ◌<◌, List, [], ◌++◌, length, take, drop, refl, sym, ap, subst, arith, rules}
use Rattle.std.proofs.lemmas.List.{length-take, length-drop, take_all}
use Rattle.std.specs.Str.Lossy.{utf8_valid_len}
use Rattle.rope_text.specs.Read.{text_front}
use Rattle.rope_text.proofs.ReadLaws.{length-text_front}
use Rattle.ropey_c.specs.Intake.{Taking}
use Rattle.ropey_c.proofs.Pending.{past}
use Rattle.ropey_c.proofs.Takings.{Settles, takes_split, takes_head}
use Rattle.ropey_c.proofs.intake.Intake.join.Goals as goal

pub returns-then-is_empty : goal.returns-then-is_empty
returns-then-is_empty c =
    let old = c.args.self.now in
    let k : ℕ = 4 - length old.rest in
    let first_is = c.front-first.ensures ∙ ap text_front c.four-len.ensures.bytes in
    let empty : length c.front-first.result.now ≡ 0 = search rules in
    let nothing : utf8_valid_len (old.rest ++ take k c.args.bytes.now) ≡ 0 =
    sym (length-text_front _) ∙ sym (ap length first_is) ∙ empty in
    let Settled : List ℕ → Type 0 =
    λ bytes. Settles old [] bytes c.settle.result c.args.valid.now c.settle.new.valid
    c.settle.new.self in
    let settled : Settled (take c.four-len.result.1 c.four-len.result.0) = record {
      faulty = c.settle.ensures.faulty;
      fine = c.settle.ensures.fine;
      place = c.settle.ensures.place;
      kept = c.settle.ensures.kept;
      taken = c.settle.ensures.taken;
      refused = c.settle.ensures.refused;
      breaks = c.settle.ensures.breaks;
    } in
    takes_head old c.settle.new.self c.args.bytes.now c.settle.result c.args.valid.now
    c.settle.new.valid c.requires.open c.requires.some k
    c.four-len.ensures.no_text c.four-len.ensures.waiting refl nothing
    (subst Settled c.four-len.ensures.bytes settled)

pub overflow_sub-first : goal.overflow_sub-first
overflow_sub-first c =
    let old = c.args.self.now in
    let k : ℕ = 4 - length old.rest in
    let first_is = c.front-first.ensures ∙ ap text_front c.four-len.ensures.bytes in
    let more : 0 < length c.front-first.result.now = search rules in
    let len = ap length first_is ∙ length-text_front (old.rest ++ take k c.args.bytes.now) in
    let waiting = ap (λ (t : Taking). length t.rest) c.settle-2.view_is in
    omega (
      arith,
      len,
      waiting,
      length-take c.settle-2.inside.rest_len c.settle-2.inside.rest,
      c.settle-2.told,
      c.settle-2.invariant.short,
      past old.rest c.args.bytes.now k c.four-len.ensures.no_text (omega (arith, len, more)),
    )

pub returns : goal.returns
returns c =
    let old = c.args.self.now in
    let bytes = c.args.bytes.now in
    let k : ℕ = 4 - length old.rest in
    let head = old.rest ++ take k bytes in
    let first = c.front-first.result.now in
    let first_is = c.front-first.ensures ∙ ap text_front c.four-len.ensures.bytes in
    let more : 0 < length c.front-first.result.now = search rules in
    let len = ap length first_is ∙ length-text_front head in
    let waiting : c.settle-2.inside.rest_len ≡ length old.rest = omega (
      arith,
      ap (λ (t : Taking). length t.rest) c.settle-2.view_is,
      length-take c.settle-2.inside.rest_len c.settle-2.inside.rest,
      c.settle-2.told,
      c.settle-2.invariant.short,
    ) in
    let gone : ℕ = length first - c.settle-2.inside.rest_len in
    let same : gone ≡ utf8_valid_len head - length old.rest = omega (arith, len, waiting) in
    let following : take (length bytes - gone) (drop gone bytes)
    ≡ drop (utf8_valid_len head - length old.rest) bytes =
    take_all _ _ (omega (arith, length-drop gone bytes)) ∙ ap (λ n. drop n bytes) same in
    let Settled : List ℕ → List ℕ → Type 0 =
    λ text rest. Settles old text rest c.settle-3.result c.args.valid.now c.settle-3.new.valid
    c.settle-3.new.self in
    let settled : Settled first (take (length bytes - gone) (drop gone bytes)) = record {
      faulty = c.settle-3.ensures.faulty;
      fine = c.settle-3.ensures.fine;
      place = c.settle-3.ensures.place;
      kept = c.settle-3.ensures.kept;
      taken = c.settle-3.ensures.taken;
      refused = c.settle-3.ensures.refused;
      breaks = c.settle-3.ensures.breaks;
    } in
    takes_split old c.settle-3.new.self bytes c.settle-3.result c.args.valid.now
    c.settle-3.new.valid c.requires.open c.requires.some k
    c.four-len.ensures.no_text c.four-len.ensures.waiting (omega (arith, len, more))
    (subst (λ (text : List ℕ). Settled text (drop (utf8_valid_len head - length old.rest) bytes))
    first_is (subst (Settled first) following settled))
