-- Properties of the texts of adjacent leaves.
use Rattle.std.proofs.Common.{ℕ, ◌≤◌, ◌<◌, List, [], ◌∷◌, ◌++◌, length, take, drop, refl, sym, ap, ◌∙◌, arith}
use Rattle.std.specs.List.{All, concat}
use Rattle.std.proofs.lemmas.List.{append-nil, append_assoc, length-append, take-append-drop}
use Rattle.std.proofs.lemmas.List.Elements.{All-nil, All-cons, All-head, All-tail, All-append, All-weaker}
use Rattle.std.proofs.lemmas.Str.{length-le-encodes}
use Rattle.std.proofs.Math.Bool.{and-false}
use Rattle.rope_text.specs.Text.{byte_len}
use Rattle.rope_text.specs.Breaks.{ends_in_cr}
use Rattle.rope_text.proofs.CuttingLaws.{concat-append, ends_in_cr-append, KeepsCrlf-append}
use Rattle.rope_text.proofs.ChunkLaws.{KeepsCrlf-left, KeepsCrlf-right, KeepsCrlf_seam}
use Rattle.rope_text.specs.Dense.{IsDenseAfter, AreDense, last_bytes}
use Rattle.rope_text.proofs.DenseLaws.{last_bytes-append, last_bytes-some, last_bytes_more, dense-append, dense_left, dense_right, dense_more, dense_alone}
use Rattle.rope_leaf.specs.Leaves.{IsSeam, IsLeafText, AreLeaves, Recuts}

pub seam-nil : (xs : List ℕ) → IsSeam xs []
seam-nil xs = record { apart = and-false (ends_in_cr xs) }

pub nil-seam : (ys : List ℕ) → IsSeam [] ys
nil-seam ys = record { apart = refl }

-- the slices of a text next to a seam
pub seam_of_right : (p q r : List ℕ) → IsSeam (p ++ q) r → IsSeam q r
seam_of_right p [] r s = nil-seam r
seam_of_right p (x ∷ xs) r s = record { apart = rw (ends_in_cr-append p x xs) at s.apart }

pub seam_of_left : (p q r : List ℕ) → IsSeam p (q ++ r) → IsSeam p q
seam_of_left p [] r s = seam-nil p
seam_of_left p (x ∷ xs) r s = record { apart = s.apart }

pub seam_right_longer : (p q r : List ℕ) → IsSeam p q → IsSeam (p ++ q) r → IsSeam p (q ++ r)
seam_right_longer p [] r s t = rw append-nil at t
seam_right_longer p (x ∷ xs) r s t = record { apart = s.apart }

pub seam_left_longer : (p q r : List ℕ) → IsSeam p (q ++ r) → IsSeam q r → IsSeam (p ++ q) r
seam_left_longer p [] r s t = rw append-nil s
seam_left_longer p (x ∷ xs) r s t = record { apart = rw (ends_in_cr-append p x xs) t.apart }

pub seam-take : (n : ℕ) (xs ys : List ℕ) → IsSeam xs ys → IsSeam xs (take n ys)
seam-take n xs ys s = seam_of_left xs (take n ys) (drop n ys) (rw take-append-drop s)

pub seam-drop : (n : ℕ) (xs ys : List ℕ) → IsSeam xs ys → IsSeam (drop n xs) ys
seam-drop n xs ys s = seam_of_right (take n xs) (drop n xs) ys (rw take-append-drop s)

-- a property of all elements of two adjacent lists
pub all_left : {A : Type 0} (P : A → Type 0) (xs ys : List A) → All P (xs ++ ys) → All P xs
all_left P [] ys a = All-nil P
all_left P (x ∷ xs) ys a =
    All-cons P x xs (All-head P x (xs ++ ys) a) (all_left P xs ys (All-tail P x (xs ++ ys) a))

pub all_right : {A : Type 0} (P : A → Type 0) (xs ys : List A) → All P (xs ++ ys) → All P ys
all_right P [] ys a = a
all_right P (x ∷ xs) ys a = all_right P xs ys (All-tail P x (xs ++ ys) a)

-- no leaf is empty
pub nonempty_leaves : (xs : List (List ℕ)) → All IsLeafText xs → All (λ leaf. 0 < length leaf) xs
nonempty_leaves xs a = All-weaker IsLeafText (λ leaf. 0 < length leaf) (λ leaf i. i.some) xs a

-- each leaf has a byte
pub leaf_sizes : (xs : List (List ℕ)) → All IsLeafText xs → All (λ leaf. 1 ≤ byte_len leaf) xs
leaf_sizes xs a =
    All-weaker IsLeafText (λ leaf. 1 ≤ byte_len leaf)
    (λ leaf i. omega (arith, i.some, length-le-encodes leaf)) xs a

pub no_leaves : AreLeaves []
no_leaves = record { each = All-nil IsLeafText; whole = tt; dense = tt }

pub lone_leaf : (leaf : List ℕ) → IsLeafText leaf → AreLeaves (leaf ∷ [])
lone_leaf leaf i = record {
  each = All-cons IsLeafText leaf [] i (All-nil IsLeafText);
  whole = ((seam-nil leaf).apart, tt);
  dense = (omega arith, tt);
}

pub leaves-append : (xs ys : List (List ℕ)) → AreLeaves xs → AreLeaves ys
    → IsSeam (concat xs) (concat ys) → AreDense (xs ++ ys) → AreLeaves (xs ++ ys)
leaves-append xs ys a b s dense = record {
  each = All-append IsLeafText xs ys a.each b.each;
  whole = KeepsCrlf-append xs ys (nonempty_leaves xs a.each) a.whole b.whole s.apart;
  dense = dense;
}

pub leaves_left : (xs ys : List (List ℕ)) → AreLeaves (xs ++ ys) → AreLeaves xs
leaves_left xs ys a = record {
  each = all_left IsLeafText xs ys a.each;
  whole = KeepsCrlf-left xs ys (nonempty_leaves (xs ++ ys) a.each) a.whole;
  dense = dense_left 492 xs ys a.dense;
}

pub leaves_right : (xs ys : List (List ℕ)) → AreLeaves (xs ++ ys) → AreLeaves ys
leaves_right xs ys a = record {
  each = all_right IsLeafText xs ys a.each;
  whole = KeepsCrlf-right xs ys a.whole;
  dense = dense_alone (last_bytes 492 xs) ys (dense_right 492 xs ys a.dense);
}

pub leaves_seam : (xs ys : List (List ℕ)) → AreLeaves (xs ++ ys) → IsSeam (concat xs) (concat ys)
leaves_seam xs ys a =
    record { apart = KeepsCrlf_seam xs ys (nonempty_leaves (xs ++ ys) a.each) a.whole }

pub leaves_near : (xs ys : List (List ℕ)) → AreLeaves (xs ++ ys)
    → IsDenseAfter (last_bytes 492 xs) ys
leaves_near xs ys a = dense_right 492 xs ys a.dense

-- no more leaves than characters
pub leaves_le : (xs : List (List ℕ)) → All IsLeafText xs → length xs ≤ length (concat xs)
leaves_le [] a = omega arith
leaves_le (x ∷ xs) a =
    omega (
      arith,
      (All-head IsLeafText x xs a).some,
      leaves_le xs (All-tail IsLeafText x xs a),
      length-append x (concat xs),
    )

-- two lists as they are
pub recuts_kept : (xs ys : List (List ℕ)) → AreLeaves xs → AreLeaves ys
    → IsSeam (concat xs) (concat ys) → IsDenseAfter (last_bytes 492 xs) ys → Recuts xs ys (xs ++ ys)
recuts_kept xs ys a b s near = record {
  same_text = refl;
  leaves = leaves-append xs ys a b s (dense-append 492 xs ys a.dense near);
  following = λ some n dense. dense-append n xs ys dense (rw (last_bytes-some n 492 xs some) near);
  last = λ some m n. rw (last_bytes-append n xs ys, last_bytes-some m (last_bytes n xs) ys some)
      (omega arith);
}

-- leaves before the first list, or after the second
pub recuts_right : (zs xs ys new : List (List ℕ)) → AreLeaves (zs ++ xs)
    → IsSeam (concat (zs ++ xs)) (concat ys) → 1 ≤ length xs → Recuts xs ys new
    → Recuts (zs ++ xs) ys (zs ++ new)
recuts_right zs xs ys new a s some r =
    let seam : IsSeam (concat zs) (concat new) =
    rw (r.same_text, concat-append xs ys)
    (seam_right_longer (concat zs) (concat xs) (concat ys) (leaves_seam zs xs a)
    (rw (concat-append zs xs) at s)) in
    record {
      same_text = concat-append zs new ∙ ap (λ t. concat zs ++ t) r.same_text
          ∙ sym (concat-append zs (xs ++ ys)) ∙ ap concat (sym (append_assoc zs xs ys));
      leaves = leaves-append zs new (leaves_left zs xs a) r.leaves seam
          (dense-append 492 zs new (dense_left 492 zs xs a.dense)
          (r.following some (last_bytes 492 zs) (dense_right 492 zs xs a.dense)));
      following =
          λ _ n dense. dense-append n zs new (dense_left n zs xs dense)
          (r.following some (last_bytes n zs) (dense_right n zs xs dense));
      last = λ more m n. rw (last_bytes-append n zs new) (r.last more m (last_bytes n zs));
    }

pub recuts_left : (xs ys zs new : List (List ℕ)) → AreLeaves (ys ++ zs)
    → IsSeam (concat xs) (concat (ys ++ zs)) → 1 ≤ length ys → Recuts xs ys new
    → Recuts xs (ys ++ zs) (new ++ zs)
recuts_left xs ys zs new a s some r =
    let seam : IsSeam (concat new) (concat zs) =
    rw (r.same_text, concat-append xs ys)
    (seam_left_longer (concat xs) (concat ys) (concat zs) (rw (concat-append ys zs) at s)
    (leaves_seam ys zs a)) in
    let near : (n : ℕ) → IsDenseAfter (last_bytes n new) zs =
    λ n. dense_more (last_bytes 492 ys) (last_bytes n new) zs (r.last some 492 n)
    (dense_right 492 ys zs a.dense) in
    record {
      same_text = concat-append new zs ∙ ap (λ t. t ++ concat zs) r.same_text
          ∙ sym (concat-append (xs ++ ys) zs) ∙ ap concat (append_assoc xs ys zs);
      leaves = leaves-append new zs r.leaves (leaves_right ys zs a) seam
          (dense-append 492 new zs r.leaves.dense (near 492));
      following = λ more n dense. dense-append n new zs (r.following more n dense) (near n);
      last = λ _ m n. rw (last_bytes-append m ys zs, last_bytes-append n new zs)
          (last_bytes_more (last_bytes m ys) (last_bytes n new) zs (r.last some m n));
    }
