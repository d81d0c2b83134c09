-- A chunk is taken from those that are ahead.
use Rattle.std.proofs.Common.{◌≡◌, ℕ, List, [], ◌∷◌, ◌++◌, sym, ap, ◌∙◌, Result, Ok, Err, OnOk, if◌then◌else◌, length, arith}
use Rattle.std.specs.Result.{is_ok}
use Rattle.std.specs.List.{concat}
use Rattle.std.specs.Str.{encode_utf8_all}
use Rattle.std.proofs.lemmas.Str.{encodes-append}
use Rattle.rope_text.specs.Sides.{Sides, ahead}
use Rattle.rope_slice.specs.Rest.{bytes_ahead}

pub chunk_taken : (s t : Sides (List ℕ)) (chunk bytes : List ℕ) → ahead s ≡ chunk ∷ ahead t
    → bytes ≡ encode_utf8_all chunk → bytes_ahead s ≡ bytes ++ bytes_ahead t
chunk_taken s t chunk bytes e f =
    ap (λ x. encode_utf8_all (concat x)) e ∙ encodes-append chunk (concat (ahead t))
    ∙ ap (λ x. x ++ bytes_ahead t) (sym f)

pub none_taken : (s : Sides (List ℕ)) → ahead s ≡ [] → bytes_ahead s ≡ []
none_taken s e = ap (λ x. encode_utf8_all (concat x)) e

-- a text is appended where that was not refused
pub appended : {E : Type 0} (r : Result (Unit {0}) E) (old new text bytes : List ℕ)
    → new ≡ (if is_ok r then old ++ text else old) → text ≡ bytes → OnOk r (new ≡ old ++ bytes)
appended (Ok x) old new text bytes e f = e ∙ ap (λ z. old ++ z) f
appended (Err x) old new text bytes e f = tt

-- no byte is left where the piece and those after it are empty
pub nothing_ahead : (piece pieces : List ℕ) → length piece ≡ 0 → pieces ≡ [] → piece ++ pieces ≡ []
nothing_ahead [] pieces e f = f
nothing_ahead (x ∷ xs) pieces e f = absurd (omega (arith, e))
