-- The bytes that were looked at, given once more.
use Rattle.std.proofs.Common.{◌≡◌, ℕ, ◌+◌, List, ◌++◌, take, drop, sym, subst, append_assoc, [], Option, Some, None, Result}
use Rattle.std.proofs.KnownBytes.{prepend_known-nil}
use Rattle.std.proofs.lemmas.List.{take-append-drop, drop-drop}
use Rattle.std.specs.Io.KnownBytes.{Consumes, ReadConsumes, prepend_known}

front_given : (rest : Option (List ℕ)) (xs ys : List ℕ)
    → Consumes (prepend_known (xs ++ ys) rest) (prepend_known ys rest) xs
front_given None xs ys = tt
front_given (Some zs) xs ys = append_assoc xs ys zs

pub held_given : (rest : Option (List ℕ)) (bytes given : List ℕ) (at count : ℕ)
    → given ≡ take count (drop at bytes)
    → Consumes (prepend_known (drop at bytes) rest)
    (prepend_known (drop (at + count) bytes) rest) given
held_given rest bytes given at count e =
    subst (λ xs. Consumes (prepend_known (drop at bytes) rest)
    (prepend_known (drop (at + count) bytes) rest) xs) (sym e)
    (subst (λ xs. Consumes (prepend_known xs rest) (prepend_known (drop (at + count) bytes) rest)
    (take count (drop at bytes))) (take-append-drop count (drop at bytes))
    (subst (λ ys. Consumes (prepend_known (take count (drop at bytes) ++ drop count (drop at bytes))
    rest) (prepend_known ys rest) (take count (drop at bytes))) (drop-drop count at bytes)
    (front_given rest (take count (drop at bytes)) (drop count (drop at bytes)))))

-- a read that goes past them
pub read_past : {E : Type 0} (held : List ℕ) (a b : Option (List ℕ)) (r : Result ℕ E) (buf : List ℕ)
    → held ≡ [] → ReadConsumes a b r buf
    → ReadConsumes (prepend_known held a) (prepend_known held b) r buf
read_past held a b r buf e p =
    subst (λ xs. ReadConsumes (prepend_known xs a) (prepend_known xs b) r buf) (sym e)
    (subst (λ x. ReadConsumes x (prepend_known [] b) r buf) (sym (prepend_known-nil a))
    (subst (λ y. ReadConsumes a y r buf) (sym (prepend_known-nil b)) p))
