-- Rows of numbers: 24 of them, read from a row of twice the length, and rows into which others are
-- copied.
use Rattle.std.proofs.Common.{◌≡◌, ℕ, ◌+◌, ◌-◌, ◌<◌, ◌≤◌, List, ◌++◌, length, take, drop, get_or, replicate, ap, ◌∙◌, arith}
use Rattle.std.proofs.lemmas.List.{length-replicate, length-append, length-take-le, length-drop, get_or-replicate, get_or-drop, get_or-take, get_or_append_left, get_or-append_right}

abbrev pub two_rows : ℕ → ℕ → List ℕ
two_rows a b = replicate 24 a ++ replicate 24 b

abbrev pub row_from : ℕ → ℕ → ℕ → List ℕ
row_from a b from = take (48 - from - (24 - from)) (drop (24 - from) (two_rows a b))

pub row_before : (a b from j : ℕ) → from ≤ 24 → j < from → get_or (row_from a b from) j 0 ≡ a
row_before a b from j le lt =
    get_or-take (48 - from - (24 - from)) (drop (24 - from) (replicate 24 a ++ replicate 24 b)) j 0
    (omega arith) ∙ get_or-drop (24 - from) (replicate 24 a ++ replicate 24 b) j 0
    ∙ get_or_append_left (replicate 24 a) (replicate 24 b) 0 (24 - from + j)
    (omega (arith, length-replicate 24 a)) ∙ get_or-replicate 24 (24 - from + j) a 0 (omega arith)

pub row_after : (a b from j : ℕ) → from ≤ 24 → from ≤ j → j < 24
    → get_or (row_from a b from) j 0 ≡ b
row_after a b from j le late lt =
    get_or-take (48 - from - (24 - from)) (drop (24 - from) (replicate 24 a ++ replicate 24 b)) j 0
    (omega arith) ∙ get_or-drop (24 - from) (replicate 24 a ++ replicate 24 b) j 0
    ∙ get_or-append_right (replicate 24 a) (replicate 24 b) 24 (24 - from + j) 0
    (length-replicate 24 a) (omega arith)
    ∙ get_or-replicate 24 (24 - from + j - 24) b 0 (omega arith)

-- numbers of another row, copied from an index on
pub put_before : (at count from : ℕ) (xs ys : List ℕ) (k : ℕ) → at ≤ length xs → k < at
    → get_or (take at xs ++ (take count (drop from ys) ++ drop (at + count) xs)) k 0 ≡ get_or xs k 0
put_before at count from xs ys k le lt =
    get_or_append_left (take at xs) (take count (drop from ys) ++ drop (at + count) xs) 0 k
    (omega (arith, length-take-le at xs le)) ∙ get_or-take at xs k 0 lt

pub put_within : (at count from : ℕ) (xs ys : List ℕ) (k : ℕ) → at ≤ length xs
    → from + count ≤ length ys → k < count
    → get_or (take at xs ++ (take count (drop from ys) ++ drop (at + count) xs)) (at + k) 0
    ≡ get_or ys (from + k) 0
put_within at count from xs ys k le fits lt =
    let m : at + k - at ≡ k = omega arith in
    get_or-append_right (take at xs) (take count (drop from ys) ++ drop (at + count) xs) at (at + k)
    0 (length-take-le at xs le) (omega arith)
    ∙ ap (λ n. get_or (take count (drop from ys) ++ drop (at + count) xs) n 0) m
    ∙ get_or_append_left (take count (drop from ys)) (drop (at + count) xs) 0 k
    (omega (arith, length-take-le count (drop from ys) (omega (arith, length-drop from ys))))
    ∙ get_or-take count (drop from ys) k 0 lt ∙ get_or-drop from ys k 0

pub put_length : (at count from : ℕ) (xs ys : List ℕ) → at + count ≤ length xs
    → from + count ≤ length ys
    → length (take at xs ++ (take count (drop from ys) ++ drop (at + count) xs)) ≡ length xs
put_length at count from xs ys le fits =
    omega (
      arith,
      length-append (take at xs) (take count (drop from ys) ++ drop (at + count) xs),
      length-append (take count (drop from ys)) (drop (at + count) xs),
      length-take-le at xs (omega arith),
      length-take-le count (drop from ys) (omega (arith, length-drop from ys)),
      length-drop from ys,
      length-drop (at + count) xs,
    )
