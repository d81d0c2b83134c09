-- Bytes that are moved up, and others that are copied into the gap.
use Rattle.std.proofs.Common.{◌≡◌, ℕ, ◌+◌, ◌-◌, ◌≤◌, List, ◌++◌, length, take, drop, refl, sym, ap, ap₂, ◌∙◌, arith, take-append-drop}
use Rattle.std.specs.List.{insert_slice}
use Rattle.std.proofs.lemmas.List.{append_assoc, append-nil, length-take-le, length-drop, take-take, drop-take, take-append-le}
use Rattle.std.proofs.lemmas.List.Edits.{length-paste}
use Rattle.std.proofs.lemmas.Slice.{take-put_mid, drop-put_mid}
use Rattle.std.proofs.Math.ListN.{drop_of_length-le}
use Rattle.std.proofs.Math.Seq.{paste, drop-append_seam}
use borrow.Rule.Slice.PartMut.{put_mid}
use Rattle.rope_leaf.proofs.node_text.put_in_gap.Goals as goal

-- the front is unchanged, and the bytes from the gap's end on are those that were at its start
module _ (bs : List ℕ) (place end m : ℕ) (order : place ≤ end) (whole : end + m ≡ length bs) where
  moved_front : take place (paste bs end (drop place bs) m) ≡ take place bs
  moved_front =
      let n : length (take end bs) ≡ end = length-take-le end bs (omega arith) in
      ap (take place) (append_assoc (take end bs) (take m (drop place bs)) (drop (end + m) bs))
      ∙ take-append-le place (take end bs) (take m (drop place bs) ++ drop (end + m) bs)
      (omega arith) ∙ take-take place end bs order

  moved_back : drop end (paste bs end (drop place bs) m) ≡ take m (drop place bs)
  moved_back =
      let n : length (take end bs) ≡ end = length-take-le end bs (omega arith) in
      let rest = take m (drop place bs) ++ drop (end + m) bs in
      ap (drop end) (append_assoc (take end bs) (take m (drop place bs)) (drop (end + m) bs))
      ∙ ap (λ k. drop k (take end bs ++ rest)) (sym n) ∙ drop-append_seam (take end bs) rest
      ∙ ap (λ xs. take m (drop place bs) ++ xs) (drop_of_length-le bs (omega arith))
      ∙ append-nil (take m (drop place bs))

shifted : (bs zs added : List ℕ) (place old_len end k : ℕ) → place ≤ old_len
    → length bs ≡ old_len + length added → end ≡ place + length added → k ≡ end - place
    → zs ≡ paste bs end (drop place bs) (old_len - place)
    → put_mid place k zs added ≡ insert_slice (take old_len bs) place added
shifted bs zs added place old_len end k order len is gap after =
    let m = old_len - place in
    let whole : end + m ≡ length bs = omega arith in
    let below : place ≤ end = omega arith in
    let long : length zs ≡ length bs = ap length after
    ∙ length-paste bs end (drop place bs) m (omega arith) (omega (arith, length-drop place bs)) in
    let front : take end (put_mid place k zs added) ≡ take place bs ++ added =
    take-put_mid place k zs added end (omega arith) (omega arith)
    ∙ ap (λ xs. take place xs ++ added) after
    ∙ ap (λ xs. xs ++ added) (moved_front bs place end m below whole) in
    let back : drop end (put_mid place k zs added) ≡ take m (drop place bs) =
    drop-put_mid place k zs added end (omega arith) (omega arith) (omega arith)
    ∙ ap (drop end) after ∙ moved_back bs place end m below whole in
    let old_front : take place (take old_len bs) ≡ take place bs =
    take-take place old_len bs order in
    let old_back : drop place (take old_len bs) ≡ take m (drop place bs) =
    (let e : old_len ≡ place + m = omega arith in ap (λ n. drop place (take n bs)) e)
    ∙ drop-take place m bs in
    sym (take-append-drop end (put_mid place k zs added))
    ∙ ap₂ (λ x y. x ++ y) (front ∙ ap (λ x. x ++ added) (sym old_front)) (back ∙ sym old_back)

pub returns : goal.returns
returns c =
    ap (put_mid c.args.place _ c.copy_within.new.self) c.copy_from_slice.ensures.after
    ∙ shifted c.args.bytes.now c.copy_within.new.self c.args.added.now c.args.place c.args.old_len
    (c.args.place + length c.args.added.now) (c.args.place + length c.args.added.now - c.args.place)
    c.requires.place c.requires.len refl refl c.copy_within.ensures.after
