-- The two sides of a split text, by characters.
use Rattle.std.proofs.Common.{◌≡◌, ℕ, ◌<◌, ◌≤◌, List, [], ◌∷◌, ◌++◌, length, take, drop, sym, ap, ap₂, ◌∙◌, arith, take-append-drop, ◌-◌}
use Rattle.std.proofs.lemmas.List.{length-take-le, length-drop}
use Rattle.std.specs.Str.{chars, IsUtf8}
use Rattle.rope_text.specs.Text.{byte_len}
use Rattle.rope_text.proofs.TextParts.{chars_front, chars_back}

some_bytes : (cs : List ℕ) → 1 ≤ length (chars cs) → 1 ≤ length cs
unfolding chars
some_bytes [] some = some
some_bytes (c ∷ cs) some = omega arith

-- both sides of a text that is split inside, by the bytes of its characters
pub record AreCut (bs fs gs cs : List ℕ) (at : ℕ) : Type 0 where
  pub front : chars fs ≡ take at cs
  pub back : chars gs ≡ drop at cs
  pub whole : chars fs ++ chars gs ≡ cs
  pub front_some : 1 ≤ length fs
  pub back_some : 1 ≤ length gs

pub are_cut : (bs fs gs cs : List ℕ) (at place : ℕ) → IsUtf8 bs → chars bs ≡ cs
    → place ≡ byte_len (take at cs) → fs ≡ take (place - 0) bs → gs ≡ drop place bs → 1 ≤ at
    → at < length cs → AreCut bs fs gs cs at
are_cut bs fs gs cs at place u same e front back some within =
    let place_is : place ≡ byte_len (take at (chars bs)) = e
    ∙ ap (λ s. byte_len (take at s)) (sym same) in
    let f : chars fs ≡ take at cs = chars_front bs fs cs at place u same place_is front in
    let g : chars gs ≡ drop at cs = chars_back bs gs cs at place u same place_is back in
    record {
      front = f;
      back = g;
      whole = ap₂ (λ x y. x ++ y) f g ∙ take-append-drop at cs;
      front_some = some_bytes fs (omega (arith, ap length f, length-take-le at cs (omega arith)));
      back_some = some_bytes gs (omega (arith, ap length g, length-drop at cs));
    }
