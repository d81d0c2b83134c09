-- Bytes that are read into a buffer.
use Rattle.std.proofs.Common.{◌≡◌, ℕ, ◌+◌, ◌-◌, ◌≤◌, List, ◌++◌, length, take, drop, sym, ap, subst, ◌∙◌, append_assoc, arith, zero-add, Option}
use Rattle.std.proofs.Math.Seq.{paste, take-append-add}
use Rattle.std.proofs.lemmas.List.{take-append-le, length-take-le, length-append, length-drop, drop-take}
use Rattle.std.proofs.lemmas.List.Edits.{take-paste}
use Rattle.std.specs.Io.KnownBytes.{Consumes}
use Rattle.std.specs.List.{copy_within}
use Rattle.std.proofs.KnownBytes.{Consumes-trans}
use borrow.Rule.Slice.PartMut.{put_mid, post_of}

-- the front of a buffer after a read
pub front_read : (buf ys : List ℕ) (filled room count : ℕ) → filled ≤ length buf → count ≤ length ys
    → take (filled + count) (put_mid filled room buf ys) ≡ take filled buf ++ take count ys
front_read buf ys filled room count h k =
    let f = length-take-le filled buf h in
    subst (λ n. take (n + count) (take filled buf ++ (ys ++ post_of filled room buf))
    ≡ take filled buf ++ take count (ys ++ post_of filled room buf)) f
    (take-append-add (take filled buf) (ys ++ post_of filled room buf) count)
    ∙ ap (λ zs. take filled buf ++ zs) (take-append-le count ys (post_of filled room buf) k)

pub length-front_read : (buf ys : List ℕ) (filled room count : ℕ) → filled ≤ length buf
    → count ≤ length ys → length (take (filled + count) (put_mid filled room buf ys))
    ≡ filled + count
length-front_read buf ys filled room count h k =
    omega (
      arith,
      ap length (front_read buf ys filled room count h k),
      length-append (take filled buf) (take count ys),
      length-take-le filled buf h,
      length-take-le count ys k,
    )

-- the bytes given so far are those before the buffer and those in it
pub given_more : (start mid new : Option (List ℕ)) (front buf ys : List ℕ) (filled room count : ℕ)
    → filled ≤ length buf → count ≤ length ys → Consumes start mid (front ++ take filled buf)
    → Consumes mid new (take count ys)
    → Consumes start new (front ++ take (filled + count) (put_mid filled room buf ys))
given_more start mid new front buf ys filled room count h k p q =
    subst (Consumes start new) (append_assoc front (take filled buf) (take count ys)
    ∙ ap (λ zs. front ++ zs) (sym (front_read buf ys filled room count h k)))
    (Consumes-trans start mid new (front ++ take filled buf) (take count ys) p q)

-- the rest of a buffer, moved to its front
pub moved_rest : (buf : List ℕ) (d f : ℕ) → d ≤ f → f ≤ length buf
    → take (f - d) (copy_within buf d f 0) ≡ drop d (take f buf)
moved_rest buf d f h g =
    let k : ℕ = f - d in
    let e : f ≡ d + k = omega arith in
    let p : take k (paste buf 0 (drop d buf) k) ≡ take k (drop d buf) =
    subst (λ j. take j (paste buf 0 (drop d buf) k) ≡ take k (drop d buf)) (zero-add k)
    (take-paste buf 0 (drop d buf) k (omega arith) (omega (arith, length-drop d buf))) in
    p ∙ sym (drop-take d k buf) ∙ ap (λ j. drop d (take j buf)) (sym e)
