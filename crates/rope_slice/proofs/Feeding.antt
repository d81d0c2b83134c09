-- Bytes that are being written to a hasher.
use Rattle.std.proofs.Common.{◌≡◌, ℕ, ◌<◌, List, [], ◌++◌, length, take, fold, sym, ap, ◌∙◌, append_assoc, arith}
use Rattle.std.proofs.lemmas.List.{append-nil, length-take-le}
use Rattle.rope_text.specs.Compare.{blocks}
use Rattle.rope_text.proofs.CompareLaws.{blocks_full, blocks_last, blocks_none}

module _ {H : Type 0} (write : H → List ℕ → H) where
  -- the writes so far and those of the rest are those of all, whatever follows
  pub record IsFeeding (start now : H) (all left : List ℕ) : Type 0 where
    pub writes : (rest : List ℕ) → fold write now (blocks (left ++ rest))
        ≡ fold write start (blocks (all ++ rest))

  -- a whole block is written
  pub feed_block : (start now : H) (all left front back : List ℕ) → IsFeeding start now all left
      → left ≡ front ++ back → length front ≡ 256 → IsFeeding start (write now front) all back
  feed_block start now all left front back f e size = record {
    writes = λ rest.
        sym (ap (fold write now) (ap (λ x. blocks (x ++ rest)) e
        ∙ ap blocks (append_assoc front back rest) ∙ blocks_full front (back ++ rest) size))
        ∙ f.writes rest;
  }

  -- a partly filled block is written
  pub held_block : (now : H) (old block front back bytes : List ℕ) (held : ℕ) → length block ≡ 256
      → block ≡ take held old ++ front → bytes ≡ front ++ back
      → IsFeeding now (write now block) (take held old ++ bytes) back
  held_block now old block front back bytes held size e f = record {
    writes = λ rest.
        sym (ap (fold write now) (blocks_full block (back ++ rest) size))
        ∙ ap (λ x. fold write now (blocks x)) (
        ap (λ x. x ++ (back ++ rest)) e ∙ sym (append_assoc (take held old ++ front) back rest)
        ∙ ap (λ x. x ++ rest) (append_assoc (take held old) front back
        ∙ ap (λ x. take held old ++ x) (sym f))
        );
  }

  -- or none was held
  pub none_held : (now : H) (old bytes : List ℕ) (held : ℕ) → held ≡ 0
      → IsFeeding now now (take held old ++ bytes) bytes
  none_held now old bytes held none =
      record {
        writes =
            λ rest. ap (λ n. fold write now (blocks ((take n old ++ bytes) ++ rest))) (sym none);
      }

  -- a chunk moves from the rest to the held or written bytes
  pub feed_chunk : (start now next : H) (all held kept bytes ahead left : List ℕ)
      → IsFeeding start now all (held ++ ahead) → ahead ≡ bytes ++ left
      → ((rest : List ℕ) → fold write next (blocks (kept ++ rest))
      ≡ fold write now (blocks (held ++ (bytes ++ rest)))) → IsFeeding start next all (kept ++ left)
  feed_chunk start now next all held kept bytes ahead left f e w = record {
    writes = λ rest.
        ap (λ x. fold write next (blocks x)) (append_assoc kept left rest) ∙ w (left ++ rest)
        ∙ ap (λ x. fold write now (blocks x)) (
        ap (λ x. held ++ x) (sym (append_assoc bytes left rest))
        ∙ sym (append_assoc held (bytes ++ left) rest) ∙ ap (λ x. (held ++ x) ++ rest) (sym e)
        )
        ∙ f.writes rest;
  }

  all_fed : (start now : H) (all held left : List ℕ) → IsFeeding start now all (held ++ left)
      → left ≡ [] → fold write now (blocks held) ≡ fold write start (blocks all)
  all_fed start now all held left f e =
      sym (ap (λ x. fold write now (blocks x)) (append-nil (held ++ left) ∙ ap (λ x. held ++ x) e
      ∙ append-nil held))
      ∙ f.writes [] ∙ ap (λ x. fold write start (blocks x)) (append-nil all)

  -- at the end the held bytes are the last block, if there are any
  pub fed_last : (start now : H) (all block left : List ℕ) (held : ℕ)
      → IsFeeding start now all (take held block ++ left) → left ≡ [] → length block ≡ 256
      → 0 < held → held < 256
      → write now (take held block) ≡ fold write start (blocks all)
  fed_last start now all block left held f e size some room =
      let count = length-take-le held block (omega (arith, size, room)) in
      sym (ap (fold write now)
      (blocks_last (take held block) (omega (arith, count)) (omega (arith, count))))
      ∙ all_fed start now all (take held block) left f e

  pub fed_even : (start now : H) (all block left : List ℕ) (held : ℕ)
      → IsFeeding start now all (take held block ++ left) → left ≡ [] → held ≡ 0
      → now ≡ fold write start (blocks all)
  fed_even start now all block left held f e none =
      sym (ap (fold write now) (ap (λ n. blocks (take n block)) none ∙ blocks_none))
      ∙ all_fed start now all (take held block) left f e
