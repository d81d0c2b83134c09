use Rattle.std.proofs.Common.{◌≡◌, ℕ, List, [], Some, sym, subst, rules}
use Rattle.std.proofs.lemmas.List.{nil_from_length}
use Rattle.std.specs.Str.{chars}
use Rattle.rope_text.specs.declared.error.Error.TheVariants.{TooLong}
use Rattle.ropey_c.specs.ByteEdits.{replaced, replaced_size_error}
use Rattle.ropey_c.proofs.Idle.{nothing_replaced}
use Rattle.ropey_c.proofs.replace.exchange.Goals as goal

pub returns-then-not-has_room-clause-empty : goal.returns-then-not-has_room-clause-empty
unfolding chars
returns-then-not-has_room-clause-empty c = λ _ none fine.
    let text = c.args.rope.now.text in
    let Long : List ℕ → Type 0 =
    λ bytes. replaced_size_error text c.args.start c.args.end (chars bytes) ≡ Some TooLong in
    let long : Long [] =
    subst Long (nil_from_length c.args.text.now none) c.if-not-has_room.ensures in
    absurd (cc)

pub returns-then-is_empty-clause-ok : goal.returns-then-is_empty-clause-ok
unfolding chars
returns-then-is_empty-clause-ok c = λ _.
    let text = c.args.rope.now.text in
    let none : c.args.text.now ≡ [] = nil_from_length c.args.text.now (search rules) in
    let same : c.args.start ≡ c.args.end = search rules in
    let Idle : ℕ → Type 0 = λ end. text ≡ replaced text c.args.start end [] in
    let idle : Idle c.args.end = subst Idle same (sym (nothing_replaced text c.args.start)) in
    let Done : List ℕ → Type 0 = λ bytes. text
    ≡ replaced text c.args.start c.args.end (chars bytes) in
    subst Done (sym none) idle

pub returns-clause-ok : goal.returns-clause-ok
returns-clause-ok c = search rules

pub returns-in-None-clause-empty : goal.returns-in-None-clause-empty
returns-in-None-clause-empty c = search rules
