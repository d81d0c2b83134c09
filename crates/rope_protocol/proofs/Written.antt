-- Texts that grow by the line of each element of a list.
use Rattle.std.proofs.Common.{◌≡◌, ℕ, ◌+◌, ◌<◌, List, [], ◌∷◌, ◌++◌, length, take, get_or, sym, ap, ◌∙◌, append_assoc}
use Rattle.std.specs.List.{flat_map}
use Rattle.std.proofs.lemmas.List.{append-nil, take_more}
use Rattle.std.proofs.lemmas.List.Concat.{flat_map-cons}
use Rattle.std.proofs.lemmas.Grind.{flat_map-append}

-- the line of one more element follows the others
pub flat_map-push : {X : Type 0} (f : X → List ℕ) (xs : List X) (x : X)
    → flat_map f (xs ++ x ∷ []) ≡ flat_map f xs ++ f x
flat_map-push f xs x = flat_map-append f xs (x ∷ [])
    ∙ ap (λ ys. flat_map f xs ++ ys) (flat_map-cons f x [] ∙ append-nil (f x))

pub written_more : {X : Type 0} (f : X → List ℕ) (before head : List ℕ) (xs : List X) (x : X)
    → (before ++ (head ++ flat_map f xs)) ++ f x ≡ before ++ (head ++ flat_map f (xs ++ x ∷ []))
written_more f before head xs x =
    append_assoc before (head ++ flat_map f xs) (f x)
    ∙ ap (λ ys. before ++ ys) (append_assoc head (flat_map f xs) (f x)
    ∙ ap (λ ys. head ++ ys) (sym (flat_map-push f xs x)))

pub written_next : {X : Type 0} (f : X → List ℕ) (before head : List ℕ) (xs : List X) (i : ℕ)
    (x : X) → i < length xs → x ≡ get_or xs i x
    → (before ++ (head ++ flat_map f (take i xs))) ++ f x ≡ before
    ++ (head ++ flat_map f (take (i + 1) xs))
written_next f before head xs i x h e =
    written_more f before head (take i xs) x
    ∙ ap (λ ys. before ++ (head ++ flat_map f ys))
    (sym (take_more xs i x h ∙ ap (λ y. take i xs ++ y ∷ []) (sym e)))
