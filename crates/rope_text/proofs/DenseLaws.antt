-- Adjacent chunks, no two of them both short.
use Rattle.std.proofs.Common.{◌≡◌, ℕ, ◌+◌, ◌*◌, ◌/◌, ◌≤◌, List, [], ◌∷◌, ◌++◌, length, min, refl, arith, All}
use Rattle.std.specs.List.{concat}
use Rattle.std.proofs.lemmas.List.Elements.{All-head, All-tail}
use Rattle.rope_text.specs.Text.{byte_len}
use Rattle.rope_text.specs.Dense.{IsDenseAfter, AreDense, last_bytes}
use Rattle.rope_text.proofs.Measures.{IsMeasure-byte_len}

pub last_bytes-append : (n : ℕ) (xs ys : List (List ℕ))
    → last_bytes n (xs ++ ys) ≡ last_bytes (last_bytes n xs) ys
last_bytes-append n [] ys = refl
last_bytes-append n (x ∷ xs) ys = last_bytes-append (byte_len x) xs ys

pub last_bytes-some : (m n : ℕ) (xs : List (List ℕ)) → 1 ≤ length xs
    → last_bytes m xs ≡ last_bytes n xs
last_bytes-some m n [] some = absurd (omega arith)
last_bytes-some m n (x ∷ xs) some = refl

pub last_bytes_more : (m n : ℕ) (xs : List (List ℕ)) → m ≤ n → last_bytes m xs ≤ last_bytes n xs
last_bytes_more m n [] more = more
last_bytes_more m n (x ∷ xs) more = omega arith

pub last_bytes_least : (n : ℕ) (xs : List (List ℕ)) → 1 ≤ n → All (λ x. 1 ≤ byte_len x) xs
    → 1 ≤ last_bytes n xs
last_bytes_least n [] some each = some
last_bytes_least n (x ∷ xs) some each =
    last_bytes_least (byte_len x) xs (All-head (λ x. 1 ≤ byte_len x) x xs each)
    (All-tail (λ x. 1 ≤ byte_len x) x xs each)

pub dense-append : (n : ℕ) (xs ys : List (List ℕ)) → IsDenseAfter n xs
    → IsDenseAfter (last_bytes n xs) ys → IsDenseAfter n (xs ++ ys)
dense-append n [] ys a b = b
dense-append n (x ∷ xs) ys a b = (a.0, dense-append (byte_len x) xs ys a.1 b)

pub dense_left : (n : ℕ) (xs ys : List (List ℕ)) → IsDenseAfter n (xs ++ ys) → IsDenseAfter n xs
dense_left n [] ys a = tt
dense_left n (x ∷ xs) ys a = (a.0, dense_left (byte_len x) xs ys a.1)

pub dense_right : (n : ℕ) (xs ys : List (List ℕ)) → IsDenseAfter n (xs ++ ys)
    → IsDenseAfter (last_bytes n xs) ys
dense_right n [] ys a = a
dense_right n (x ∷ xs) ys a = dense_right (byte_len x) xs ys a.1

pub dense_more : (m n : ℕ) (xs : List (List ℕ)) → m ≤ n → IsDenseAfter m xs → IsDenseAfter n xs
dense_more m n [] more a = tt
dense_more m n (x ∷ xs) more a = (omega (arith, a.0), a.1)

-- after 492 bytes any chunk is allowed
pub dense_alone : (n : ℕ) (xs : List (List ℕ)) → IsDenseAfter n xs → AreDense xs
dense_alone n [] a = tt
dense_alone n (x ∷ xs) a = (omega arith, a.1)

-- after 491 bytes any chunk that is not empty is allowed
pub dense_after_half : (n : ℕ) (xs : List (List ℕ)) → 491 ≤ n → All (λ x. 1 ≤ byte_len x) xs
    → AreDense xs → IsDenseAfter n xs
dense_after_half n [] half each a = tt
dense_after_half n (x ∷ xs) half each a =
    (omega (arith, All-head (λ x. 1 ≤ byte_len x) x xs each), a.1)

-- after k bytes any chunk that is allowed after the smaller of two numbers, if that is at most k
pub dense_after_fewer : (m n k : ℕ) (xs : List (List ℕ)) → min m n ≤ k → IsDenseAfter m xs
    → IsDenseAfter n xs → IsDenseAfter k xs
dense_after_fewer m n k [] least a b = tt
dense_after_fewer m n k (x ∷ xs) least a b = (omega (arith, a.0, b.0), a.1)

-- at most one chunk for each 246 bytes, and one for the rest
few_dense : (chunks : List (List ℕ)) → All (λ x. 1 ≤ byte_len x) chunks → AreDense chunks
    → 246 * length chunks ≤ byte_len (concat chunks) + 245
few_dense [] each a = omega arith
few_dense (x ∷ []) each a =
    omega (arith, All-head (λ x. 1 ≤ byte_len x) x [] each, IsMeasure-byte_len.joined x [])
few_dense (x ∷ y ∷ chunks) each a =
    let rest =
    All-tail (λ x. 1 ≤ byte_len x) y chunks (All-tail (λ x. 1 ≤ byte_len x) x (y ∷ chunks) each) in
    omega (
      arith,
      few_dense chunks rest (dense_alone (byte_len y) chunks a.1.1),
      a.1.0,
      IsMeasure-byte_len.joined x (y ++ concat chunks),
      IsMeasure-byte_len.joined y (concat chunks),
    )

pub few_chunks : (chunks : List (List ℕ)) → All (λ x. 1 ≤ byte_len x) chunks → AreDense chunks
    → length chunks ≤ (byte_len (concat chunks) + 245) / 246
few_chunks chunks each a = omega (arith, few_dense chunks each a)
