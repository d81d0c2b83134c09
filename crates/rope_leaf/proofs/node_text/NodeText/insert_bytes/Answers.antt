-- The text of a leaf with another inserted at a byte.
use Rattle.std.proofs.Common.{◌≡◌, ◌≤◌, ◌+◌, ℕ, ◌++◌, List, length, take, drop, sym, ap, subst, ◌∙◌, arith}
use Rattle.std.specs.List.{insert_slice}
use Rattle.std.specs.Str.{chars, IsUtf8, IsCharBoundary, encode_utf8_all}
use Rattle.std.proofs.lemmas.List.{length-append, length-take-le, length-drop}
use Rattle.std.proofs.lemmas.Str.{IsUtf8-from_is_utf8, is_utf8-from_IsUtf8, IsUtf8-take, IsUtf8-drop, IsUtf8-append, scalars-chars}
use Rattle.rope_text.specs.Text.{byte_len}
use Rattle.rope_text.proofs.Walks.{byte_len-chars}
use Rattle.rope_leaf.proofs.LeafTexts.{bytes_of, len_of}
use Rattle.rope_leaf.proofs.node_text.NodeText.insert_bytes.Goals.{After-put_bytes}
use Rattle.rope_leaf.proofs.node_text.NodeText.insert_bytes.Goals as goal

inserted_utf8 : (bs new : List ℕ) (i : ℕ) → IsUtf8 bs → IsUtf8 new → IsCharBoundary bs i
    → IsUtf8 (insert_slice bs i new)
inserted_utf8 bs new i u v at =
    IsUtf8-append (take i bs ++ new) (drop i bs)
    (IsUtf8-append (take i bs) new (IsUtf8-take bs i u at) v) (IsUtf8-drop bs i u at)

inserted_len : (bs new : List ℕ) (i : ℕ) → i ≤ length bs
    → length (insert_slice bs i new) ≡ length bs + length new
inserted_len bs new i within =
    omega (
      arith,
      length-append (take i bs ++ new) (drop i bs),
      length-append (take i bs) new,
      length-take-le i bs within,
      length-drop i bs,
    )

-- the bytes before the insert
same : (c : After-put_bytes) → encode_utf8_all c.args.self.now ≡ c.self.inside.bytes.items
same c = bytes_of c.self.inside.bytes.items c.args.self.now c.self.invariant.0 c.self.view_is

at : (c : After-put_bytes) → IsCharBoundary c.self.inside.bytes.items c.args.place
at c = subst (λ x. IsCharBoundary x c.args.place) (same c) c.requires.boundary

old_len : (c : After-put_bytes) → byte_len c.args.self.now ≡ length c.self.inside.bytes.items
old_len c = len_of c.self.inside.bytes.items c.args.self.now c.self.invariant.0 c.self.view_is

-- the bytes after the insert
now : (c : After-put_bytes) → c.put_bytes.new.bytes.items
    ≡ insert_slice c.self.inside.bytes.items c.args.place c.args.added.now
now c = c.put_bytes.ensures
    ∙ ap (insert_slice c.self.inside.bytes.items c.args.place) c.as_bytes.ensures.value

len : (c : After-put_bytes) → length c.put_bytes.new.bytes.items
    ≡ length c.self.inside.bytes.items + length c.args.added.now
len c = ap length (now c)
    ∙ inserted_len c.self.inside.bytes.items c.args.added.now c.args.place (at c).0

utf8 : (c : After-put_bytes) → IsUtf8 c.put_bytes.new.bytes.items
utf8 c = rw (now c) (inserted_utf8 c.self.inside.bytes.items c.args.added.now c.args.place
    (IsUtf8-from_is_utf8 c.self.inside.bytes.items c.self.invariant.0) c.utf8.added (at c))

pub put_bytes-requires-clause-place : goal.put_bytes-requires-clause-place
put_bytes-requires-clause-place c =
    (subst (λ x. IsCharBoundary x c.args.place)
    (bytes_of c.self.inside.bytes.items c.args.self.now c.self.invariant.0 c.self.view_is)
    c.requires.boundary).0

pub put_bytes-requires-clause-fits : goal.put_bytes-requires-clause-fits
put_bytes-requires-clause-fits c =
    omega (
      arith,
      c.requires.fits,
      len_of c.self.inside.bytes.items c.args.self.now
          c.self.invariant.0 c.self.view_is,
      ap length c.as_bytes.ensures.value,
    )

pub invariant_of-self : goal.invariant_of-self
invariant_of-self c =
    (is_utf8-from_IsUtf8 _ (utf8 c), omega (arith, len c, old_len c, c.requires.fits))

pub returns-clause-value : goal.returns-clause-value
returns-clause-value c =
    ap chars (now c ∙ ap (λ bs. insert_slice bs c.args.place c.args.added.now) (sym (same c)))

pub returns-clause-len : goal.returns-clause-len
returns-clause-len c = byte_len-chars _ (utf8 c) ∙ omega (arith, len c, old_len c)

pub returns-clause-scalars : goal.returns-clause-scalars
returns-clause-scalars c = scalars-chars _ (utf8 c)
