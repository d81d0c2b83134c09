-- A write in progress.
use Rattle.std.proofs.Common.{◌≡◌, ◌<◌, ℕ, Bool, false, List, [], ◌++◌, arith, Ok, sym, ap, subst, ◌∙◌, append_assoc, Option, None, length}
use Rattle.std.proofs.KnownBytes.{Appends-trans}
use Rattle.std.specs.Io.KnownBytes.{Appends}
use Rattle.std.specs.List.{concat}
use Rattle.std.specs.Str.{chars, encode_utf8_all, IsUtf8}
use Rattle.std.proofs.lemmas.Bool.{cond-false, ne_eqb}
use Rattle.std.proofs.lemmas.Str.{encodes-append, encodes-chars}
use Rattle.std.proofs.lemmas.List.{append-nil, nil_from_length}
use Rattle.rope_io.specs.declared.device.Failure.{Failure}
use Rattle.rope_io.specs.Failing.{write_failure}
use Rattle.rope_io.specs.Writing.{AppendsFront}

-- no call has failed since the writing began
pub record NoneFailed (marked : Bool) (failure : Option Failure) (start now : ℕ) : Type 0 where
  pub clear : marked ≡ false
  pub none : failure ≡ None
  pub same : now ≡ start

-- all bytes except the rest have been appended
pub record IsWriting (start now : Option (List ℕ)) (bytes rest : List ℕ) : Type 0 where
  pub done : List ℕ
  pub whole : bytes ≡ done ++ rest
  pub appended : Appends start now done

-- a write that took a byte has not failed
pub took_some : (n : ℕ) (bs : List ℕ) → 0 < n → write_failure (Ok n) bs ≡ None
took_some n bs some = cond-false _ _ _ (ne_eqb n 0 (λ e. omega (arith, e, some)))

pub front_all : (old new : Option (List ℕ)) (bs : List ℕ) → Appends old new bs
    → AppendsFront old new bs
front_all old new bs p = record { front = bs; back = []; whole = sym (append-nil bs); appended = p }

-- no byte is left
pub all_done : (start now : Option (List ℕ)) (bytes rest : List ℕ) → IsWriting start now bytes rest
    → length rest ≡ 0 → Appends start now bytes
all_done start now bytes rest w none =
    subst (Appends start now)
    (sym (w.whole ∙ ap (λ zs. w.done ++ zs) (nil_from_length rest none) ∙ append-nil w.done))
    w.appended

-- a write of the next bytes that stopped before their end
pub front_more : (start mid end : Option (List ℕ)) (bytes done next rest : List ℕ)
    → bytes ≡ done ++ (next ++ rest)
    → Appends start mid done → AppendsFront mid end next → AppendsFront start end bytes
front_more start mid end bytes done next rest e p q = record {
  front = done ++ q.front;
  back = q.back ++ rest;
  whole = e ∙ ap (λ y. done ++ y) (ap (λ y. y ++ rest) q.whole ∙ append_assoc q.front q.back rest)
      ∙ sym (append_assoc done q.front (q.back ++ rest));
  appended = Appends-trans start mid end done q.front p q.appended;
}

-- all chunks except those ahead have been written
pub record IsWritten (start now : Option (List ℕ)) (text : List ℕ) (ahead : List (List ℕ)) : Type 0
  where
    pub before : List ℕ
    pub whole : text ≡ before ++ concat ahead
    pub appended : Appends start now (encode_utf8_all before)

-- one more chunk was written completely
pub chunk_written : (start mid end : Option (List ℕ)) (before s : List ℕ) → IsUtf8 s
    → Appends start mid (encode_utf8_all before) → Appends mid end s
    → Appends start end (encode_utf8_all (before ++ chars s))
chunk_written start mid end before s u p q =
    subst (Appends start end)
    (sym (encodes-append before (chars s)
    ∙ ap (λ y. encode_utf8_all before ++ y) (encodes-chars s u)))
    (Appends-trans start mid end (encode_utf8_all before) s p q)

-- or only a prefix of it
pub chunk_begun : (start mid end : Option (List ℕ)) (text before s : List ℕ) (ahead : List (List ℕ))
    → IsUtf8 s → text ≡ before ++ (chars s ++ concat ahead)
    → Appends start mid (encode_utf8_all before) → AppendsFront mid end s
    → AppendsFront start end (encode_utf8_all text)
chunk_begun start mid end text before s ahead u e p q =
    front_more start mid end (encode_utf8_all text) (encode_utf8_all before) s
    (encode_utf8_all (concat ahead))
    (ap encode_utf8_all e ∙ encodes-append before (chars s ++ concat ahead)
    ∙ ap (λ y. encode_utf8_all before ++ y) (encodes-append (chars s) (concat ahead)
    ∙ ap (λ y. y ++ encode_utf8_all (concat ahead)) (encodes-chars s u)))
    p q

-- all text was written
pub all_written : (start now : Option (List ℕ)) (text before : List ℕ) (ahead : List (List ℕ))
    → ahead ≡ [] → text ≡ before ++ concat ahead
    → Appends start now (encode_utf8_all before) → Appends start now (encode_utf8_all text)
all_written start now text before ahead none e p =
    subst (λ t. Appends start now (encode_utf8_all t))
    (sym (e ∙ ap (λ a. before ++ concat a) none ∙ append-nil before)) p
