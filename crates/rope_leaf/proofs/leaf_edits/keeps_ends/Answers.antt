use Rattle.std.proofs.Common.{◌≡◌, ℕ, ◌<◌, ◌≤◌, Bool, true, false, List, [], length, refl, sym, ap, ◌∙◌, arith}
use Rattle.std.specs.Prelude.{◌==◌}
use Rattle.std.specs.Str.{chars, IsUtf8}
use Rattle.std.proofs.lemmas.Bool.Decides.{nat_tests}
use Rattle.rope_text.proofs.Apart.{has_chars}
use Rattle.rope_text.specs.Breaks.{ends_in_cr}
use Rattle.rope_leaf.proofs.LeafTexts.{no_chars}
use Rattle.rope_leaf.proofs.leaf_edits.keeps_ends.Goals as goal

has_some : (bs : List ℕ) (b : Bool) → IsUtf8 bs → b ≡ (length bs == 0) → b ≡ false
    → 1 ≤ length (chars bs)
has_some bs b u e is =
    let test : (length bs == 0) ≡ false = sym e ∙ is in
    let some : 0 < length bs = grind (arith, nat_tests) in
    has_chars bs u some

is_none : (bs : List ℕ) (b : Bool) → b ≡ (length bs == 0) → b ≡ true → chars bs ≡ []
is_none bs b e is =
    let test : (length bs == 0) ≡ true = sym e ∙ is in
    no_chars bs (grind (arith, nat_tests))

pub returns-then-is_empty-clause-last : goal.returns-then-is_empty-clause-last
returns-then-is_empty-clause-last c = λ yes none.
    ap ends_in_cr (is_none c.args.front.now _ c.is_empty.ensures c.if-is_empty.true)

pub returns-then-is_empty-clause-when : goal.returns-then-is_empty-clause-when
returns-then-is_empty-clause-when c = λ first last.
    let none = is_none c.args.front.now _ c.is_empty.ensures c.if-is_empty.true in
    let no_lf = first (ap length none) in
    rw (c.begins_with_lf.ensures, no_lf) refl

pub returns-then-is_empty-2-clause-first : goal.returns-then-is_empty-2-clause-first
returns-then-is_empty-2-clause-first c = λ yes none.
    absurd (omega (
      arith,
      none,
      has_some c.args.front.now _ c.utf8.front c.is_empty.ensures c.if-is_empty.false,
    ))

pub returns-then-is_empty-2-clause-when : goal.returns-then-is_empty-2-clause-when
returns-then-is_empty-2-clause-when c = λ first last.
    let none = is_none c.args.back.now _ c.is_empty-2.ensures c.if-is_empty-2.true in
    let no_cr = last (ap length none) in
    rw (c.ends_in_cr.ensures, no_cr) refl

pub returns-clause-first : goal.returns-clause-first
returns-clause-first c = λ yes none.
    absurd (omega (
      arith,
      none,
      has_some c.args.front.now _ c.utf8.front c.is_empty.ensures c.if-is_empty.false,
    ))

pub returns-clause-last : goal.returns-clause-last
returns-clause-last c = λ yes none.
    absurd (omega (
      arith,
      none,
      has_some c.args.back.now _ c.utf8.back c.is_empty-2.ensures c.if-is_empty-2.false,
    ))
