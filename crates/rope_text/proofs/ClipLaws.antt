-- Slices of slices, text and chunks.
use Rattle.std.proofs.Common.{◌≡◌, ℕ, ◌+◌, ◌-◌, ◌≤◌, min, List, [], ◌∷◌, ◌++◌, length, take, drop, refl, ap, sym, ◌∙◌, arith, inl, inr}
use Rattle.std.specs.List.{concat, slice_range}
use Rattle.std.proofs.lemmas.Bool.{cases_lt}
use Rattle.std.proofs.lemmas.List.{append-nil, take_all, drop_all, take-take, drop-take, drop-drop, take-append-le, drop-append-le, length-take, length-drop}
use Rattle.std.proofs.Math.Seq.{take-append-add, drop-append-add}
use Rattle.rope_text.specs.Cutting.{clip, cons_nonempty}

pub length-slice_range : (xs : List ℕ) (a b : ℕ)
    → length (slice_range xs a b) ≡ min (b - a) (length xs - a)
length-slice_range xs a b = length-take (b - a) (drop a xs) ∙ ap (min (b - a)) (length-drop a xs)

pub slice_range_empty : (xs : List ℕ) (a b : ℕ) → b ≤ a → slice_range xs a b ≡ []
slice_range_empty xs a b l = ap (λ n. take n (drop a xs)) (let e : b - a ≡ 0 = omega arith in e)

pub slice_range_past : (xs : List ℕ) (a b : ℕ) → length xs ≤ a → slice_range xs a b ≡ []
slice_range_past xs a b l = rw (drop_all a xs l) (take_all (b - a) [] (omega arith))

-- a part of a part
pub slice_range-slice_range : (xs : List ℕ) (a b c d : ℕ) → d ≤ b - a
    → slice_range (slice_range xs a b) c d ≡ slice_range xs (a + c) (a + d)
slice_range-slice_range xs a b c d l =
    elim (cases_lt c d) [
      | inl less ↦
          let m = (b - a) - c in
          let size : b - a ≡ c + m = omega arith in
          let width : (a + d) - (a + c) ≡ d - c = omega arith in
          rw (
            size,
            width,
            drop-take c m (drop a xs),
            take-take (d - c) m (drop c (drop a xs)) (omega arith),
            drop-drop c a xs,
          ) refl
      | inr more ↦ slice_range_empty (slice_range xs a b) c d more
          ∙ sym (slice_range_empty xs (a + c) (a + d) (omega arith))
    ]

-- a part of joined texts
pub slice_range-append : (p q : List ℕ) (a b : ℕ)
    → slice_range (p ++ q) a b ≡ slice_range p a b ++ slice_range q (a - length p) (b - length p)
slice_range-append p q a b =
    elim (cases_lt a (length p)) [
      | inl inside ↦
          let none : a - length p ≡ 0 = omega arith in
          let size = length-drop a p in
          rw (drop-append-le a p q (omega arith), none) (elim (cases_lt (length p) b) [
            | inl over ↦
                let width : b - a ≡ length (drop a p) + (b - length p) = omega arith in
                let whole : take (b - a) (drop a p) ≡ drop a p =
                take_all (b - a) (drop a p) (omega arith) in
                let rest : (b - length p) - 0 ≡ b - length p = omega arith in
                rw (whole, width, take-append-add (drop a p) q (b - length p), rest) refl
            | inr within ↦
                let nothing : (b - length p) - 0 ≡ 0 = omega arith in
                rw (nothing, take-append-le (b - a) (drop a p) q (omega arith))
                (sym (append-nil (take (b - a) (drop a p))))
          ])
      | inr past ↦
          let from : a ≡ length p + (a - length p) = omega arith in
          let width : (b - length p) - (a - length p) ≡ b - a = omega arith in
          let cut = ap (λ n. drop n (p ++ q)) from ∙ drop-append-add p q (a - length p) in
          rw (slice_range_past p a b past, cut, width) refl
    ]

pub clip_empty : (chunks : List (List ℕ)) (a b : ℕ) → b ≤ a → clip chunks a b ≡ []
clip_empty [] a b l = refl
clip_empty (chunk ∷ chunks) a b l =
    rw (slice_range_empty chunk a b l)
    (clip_empty chunks (a - length chunk) (b - length chunk) (omega arith))

-- the chunks of a slice join to the slice
concat-cons_nonempty : (xs : List ℕ) (chunks : List (List ℕ))
    → concat (cons_nonempty xs chunks) ≡ xs ++ concat chunks
concat-cons_nonempty [] chunks = refl
concat-cons_nonempty (x ∷ xs) chunks = refl

pub concat-clip : (chunks : List (List ℕ)) (a b : ℕ)
    → concat (clip chunks a b) ≡ slice_range (concat chunks) a b
concat-clip [] a b = sym (slice_range_past [] a b (omega arith))
concat-clip (chunk ∷ chunks) a b =
    concat-cons_nonempty (slice_range chunk a b) (clip chunks (a - length chunk) (b - length chunk))
    ∙ rw (concat-clip chunks (a - length chunk) (b - length chunk))
    (sym (slice_range-append chunk (concat chunks) a b))

-- one chunk clipped, before the others
clip-cons_nonempty : (xs : List ℕ) (chunks : List (List ℕ)) (c d : ℕ)
    → clip (cons_nonempty xs chunks) c d ≡ cons_nonempty (slice_range xs c d)
    (clip chunks (c - length xs) (d - length xs))
clip-cons_nonempty [] chunks c d =
    let from : c - 0 ≡ c = omega arith in
    let to : d - 0 ≡ d = omega arith in
    rw (from, to, slice_range_past [] c d (omega arith)) refl
clip-cons_nonempty (x ∷ xs) chunks c d = refl

-- a slice of a slice is the slice at the added offsets
pub clip-clip : (chunks : List (List ℕ)) (a b c d : ℕ) → d ≤ b - a
    → clip (clip chunks a b) c d ≡ clip chunks (a + c) (a + d)
clip-clip [] a b c d l = refl
clip-clip (chunk ∷ chunks) a b c d l =
    let n = length chunk in
    let part = slice_range chunk a b in
    let size : length part ≡ min (b - a) (n - a) = length-slice_range chunk a b in
    let inner = slice_range-slice_range chunk a b c d l in
    let rest : clip (clip chunks (a - n) (b - n)) (c - length part) (d - length part)
    ≡ clip chunks ((a + c) - n) ((a + d) - n) =
    elim (cases_lt n b) [
      | inl over ↦
          let start : (a - n) + (c - length part) ≡ (a + c) - n = omega arith in
          let end : (a - n) + (d - length part) ≡ (a + d) - n = omega arith in
          let step =
          clip-clip chunks (a - n) (b - n) (c - length part) (d - length part) (omega arith) in
          rw (start, end) at step
      | inr within ↦
          clip_empty (clip chunks (a - n) (b - n)) (c - length part) (d - length part) (omega arith)
          ∙ sym (clip_empty chunks ((a + c) - n) ((a + d) - n) (omega arith))
    ] in
    clip-cons_nonempty part (clip chunks (a - n) (b - n)) c d ∙ rw (inner, rest) refl
