-- A chunk of a clip: its number, and the counts before it.
use Rattle.std.proofs.Common.{◌≡◌, ℕ, suc, ◌+◌, ◌-◌, ◌<◌, min, List, [], ◌∷◌, ◌++◌, length, take, drop, get_or, refl, sym, ap, ◌∙◌, arith, inl, inr, All}
use Rattle.std.specs.List.{concat, slice_range}
use Rattle.std.proofs.lemmas.Bool.{cases_lt}
use Rattle.std.proofs.lemmas.List.{take_all, append_assoc, length-append, take_at, length-drop, length-take, take-take}
use Rattle.std.proofs.Math.Seq.{split_at, get_or-append_seam}
use Rattle.rope_text.specs.Cutting.{clip, cons_nonempty}
use Rattle.rope_text.specs.Lookup.{front_chunks}
use Rattle.rope_text.proofs.Measures.{IsMeasure, size_le}
use Rattle.rope_text.proofs.ClipLaws.{length-slice_range, slice_range_empty, slice_range_past, slice_range-append, concat-clip}
use Rattle.rope_text.proofs.ChunkLaws.{before, after, concat_at, before_more}
use Rattle.rope_text.proofs.LookupLaws.{size-front_chunks}
use Rattle.rope_slice.proofs.Excerpts.{part_of_front, size_part}

cons_nonempty-append : (s : List ℕ) (p q : List (List ℕ))
    → cons_nonempty s (p ++ q) ≡ cons_nonempty s p ++ q
cons_nonempty-append [] p q = refl
cons_nonempty-append (c ∷ s) p q = refl

pub cons_some : (s : List ℕ) (p : List (List ℕ)) → 0 < length s → cons_nonempty s p ≡ s ∷ p
cons_some [] p some = absurd (omega arith)
cons_some (c ∷ s) p some = refl

-- chunks, followed by more chunks
pub clip-append : (p q : List (List ℕ)) (a b : ℕ)
    → clip (p ++ q) a b ≡ clip p a b ++ clip q (a - length (concat p)) (b - length (concat p))
clip-append [] q a b =
    let from : a - 0 ≡ a = omega arith in
    let to : b - 0 ≡ b = omega arith in
    rw (from, to) refl
clip-append (x ∷ p) q a b =
    let long = length-append x (concat p) in
    let from : (a - length x) - length (concat p) ≡ a - length (x ++ concat p) = omega arith in
    let to : (b - length x) - length (concat p) ≡ b - length (x ++ concat p) = omega arith in
    ap (cons_nonempty (slice_range x a b)) (clip-append p q (a - length x) (b - length x))
    ∙ cons_nonempty-append (slice_range x a b) (clip p (a - length x) (b - length x))
    (clip q ((a - length x) - length (concat p)) ((b - length x) - length (concat p)))
    ∙ (rw (from, to) refl)

-- a part of a front of the text
pub slice_of_front : (text : List ℕ) (m a b : ℕ)
    → slice_range (take m text) a b ≡ slice_range text a (min m b)
slice_of_front text m a b = elim (cases_lt b a) [
  | inl none ↦ slice_range_empty (take m text) a b (omega arith)
      ∙ sym (slice_range_empty text a (min m b) (omega arith))
  | inr some ↦ elim (cases_lt m b) [
    | inr short ↦
        let same : min m b ≡ b = omega arith in
        rw same (part_of_front (take m text) a b some ∙ ap (drop a) (take-take b m text short)
        ∙ sym (part_of_front text a b some))
    | inl long ↦ elim (cases_lt m a) [
      | inl past ↦ slice_range_past (take m text) a b (omega (arith, length-take m text))
          ∙ sym (slice_range_empty text a (min m b) (omega arith))
      | inr inside ↦
          let same : min m b ≡ m = omega arith in
          rw same (take_all (b - a) (drop a (take m text))
          (omega (arith, length-drop a (take m text), length-take m text))
          ∙ sym (part_of_front text a m inside))
    ]
  ]
]

-- the size of a part is the difference of the fronts
pub size_of_part : (size : List ℕ → ℕ) → IsMeasure size → (text : List ℕ) (a e : ℕ)
    → size (slice_range text a e) ≡ size (take e text) - size (take a text)
size_of_part size m text a e = elim (cases_lt a e) [
  | inl some ↦ omega (arith, size_part size m text a e (omega arith))
  | inr none ↦ omega (
    arith,
    ap size (slice_range_empty text a e none),
    m.empty,
    size_le size m text e a none,
  )
]

-- the text before a chunk is a front of the text, and so is that up to its end
pub before_is_front : (parts : List (List ℕ)) (k : ℕ) → k < length parts
    → before parts k ≡ take (length (before parts k)) (concat parts)
before_is_front parts k l =
    sym (ap (take (length (before parts k))) (concat_at parts k l)
    ∙ take_at (before parts k) (get_or parts k [] ++ after parts k) (length (before parts k)) refl)

pub upto_is_front : (parts : List (List ℕ)) (k : ℕ) → k < length parts
    → before parts k ++ get_or parts k [] ≡ take
    (length (before parts k) + length (get_or parts k [])) (concat parts)
upto_is_front parts k l =
    let x : List ℕ = before parts k in
    let y : List ℕ = get_or parts k [] in
    sym (ap (take (length x + length y)) (concat_at parts k l
    ∙ sym (append_assoc x y (after parts k)))
    ∙ take_at (x ++ y) (after parts k) (length x + length y) (length-append x y))

-- where chunks are not empty, those before the last take less than all
pub front_less : (parts : List (List ℕ)) (j : ℕ) → All (λ part. 0 < length part) parts
    → suc j < length parts → length (front_chunks parts (suc j)) < length (concat parts)
front_less parts j full more =
    let next = ap length (before_more parts (suc j) more)
    ∙ length-append (before parts (suc j)) (get_or parts (suc j) []) in
    let some = full (suc j) [] more in
    let rest =
    size-front_chunks length (record {
      empty = refl;
      joined = length-append;
      one = λ c. omega arith;
    }) parts (suc (suc j)) (length parts) more in
    let all = ap (λ ps. length (concat ps)) (take_all (length parts) parts (omega arith)) in
    omega arith

-- the k-th chunk has a character of the part: it is clipped to this one
pub record Clipped (chunks : List (List ℕ)) (a b k j : ℕ) : Type 0 where
  pub within : j < length (clip chunks a b)
  pub chunk : get_or (clip chunks a b) j []
      ≡ slice_range (get_or chunks k []) (a - length (before chunks k))
      (b - length (before chunks k))
  pub front : front_chunks (clip chunks a b) j
      ≡ slice_range (concat chunks) a (length (before chunks k))
  pub upto : front_chunks (clip chunks a b) (suc j)
      ≡ slice_range (concat chunks) a
      (min (length (before chunks k) + length (get_or chunks k [])) b)

pub clipped : (chunks : List (List ℕ)) (a b k : ℕ) → k < length chunks → a < b
    → 0 < length (get_or chunks k []) → length (before chunks k) < b
    → a < length (before chunks k) + length (get_or chunks k [])
    → Clipped chunks a b k (length (clip (take k chunks) a b))
clipped chunks a b k l some full starts ends =
    let x : List ℕ = before chunks k in
    let y : List ℕ = get_or chunks k [] in
    let p : List (List ℕ) = clip (take k chunks) a b in
    let s : List ℕ = slice_range y (a - length x) (b - length x) in
    let r : List (List ℕ) =
    clip (drop (suc k) chunks) ((a - length x) - length y) ((b - length x) - length y) in
    let long : 0 < length s = omega (arith, length-slice_range y (a - length x) (b - length x)) in
    let parts : clip chunks a b ≡ p ++ (s ∷ r) =
    ap (λ cs. clip cs a b) (split_at chunks k [] l)
    ∙ clip-append (take k chunks) (y ∷ drop (suc k) chunks) a b
    ∙ ap (λ cs. p ++ cs) (cons_some s r long) in
    let first : concat p ≡ slice_range x a b = concat-clip (take k chunks) a b in
    let near : min (length x) b ≡ length x = omega arith in
    let within : length p < length (clip chunks a b) =
    omega (arith, ap length parts, length-append p (s ∷ r)) in
    let chunk : get_or (clip chunks a b) (length p) [] ≡ s =
    ap (λ cs. get_or cs (length p) []) parts ∙ get_or-append_seam p s r [] in
    let front : front_chunks (clip chunks a b) (length p) ≡ slice_range x a b =
    ap (λ cs. concat (take (length p) cs)) parts ∙ ap concat (take_at p (s ∷ r) (length p) refl)
    ∙ first in
    record {
      within = within;
      chunk = chunk;
      front = front ∙ ap (λ cs. slice_range cs a b) (before_is_front chunks k l)
          ∙ slice_of_front (concat chunks) (length x) a b ∙ ap (slice_range (concat chunks) a) near;
      upto =
          before_more (clip chunks a b) (length p) within
          ∙ ap (λ cs. cs ++ get_or (clip chunks a b) (length p) []) front
          ∙ ap (λ cs. slice_range x a b ++ cs) chunk
          ∙ sym (slice_range-append x y a b)
          ∙ ap (λ cs. slice_range cs a b) (upto_is_front chunks k l)
          ∙ slice_of_front (concat chunks) (length x + length y) a b;
    }
