-- Steps of code, as those of the cursor of a walk.
use Rattle.std.proofs.Common.{◌≡◌, ℕ, ◌==◌, ◌≤◌, List, ◌∷◌, length, take, Bool, true, false, cond, MatchBool, Option, ap, sym, subst, ◌∙◌, arith}
use Rattle.std.specs.Option.{option_map}
use Rattle.std.proofs.lemmas.List.{take-append-drop, length-take-le}
use Rattle.std.specs.List.{concat}
use Rattle.rope_text.specs.Content.{Content}
use Rattle.rope_text.specs.Lines.{line_count}
use Rattle.rope_text.specs.Text.{byte_len}
use Rattle.rope_text.specs.Cursor.{Cursor}
use Rattle.rope_text.specs.Lookup.{chunk_index_at_byte, chunk_index_at_char, chunk_index_at_line_break}
use Rattle.rope_text.specs.Sides.{Sides, StepsAhead, StepsBack, at_place, cursor_of}
use Rattle.rope_text.proofs.LookupLaws.{chunk_index_at_byte-le, chunk_index_at_char-le, chunk_index_at_line_break-le}
use Rattle.rope_text.proofs.SidesLaws.{item_ahead, cursor_ahead, item_back, cursor_back}
use Rattle.rope_script.specs.declared.script.At.{At}
use Rattle.rope_script.specs.declared.script.At.TheVariants as at
use Rattle.rope_script.specs.declared.script.Item.{Item}
use Rattle.rope_script.specs.declared.script.Move.{Move}
use Rattle.rope_script.specs.declared.script.Move.TheVariants.{Next, Prev}
use Rattle.rope_script.specs.declared.script.Reply.{Reply}
use Rattle.rope_script.specs.declared.script.Reply.TheVariants as reply
use Rattle.rope_script.specs.Ask.{chunk_place}
use Rattle.rope_script.specs.Walk.{ShowsOption, Gives, IsWalkReply, Walks}

module _ {A X : Type 0} (shows : Item → X → Type 0) (view : A → X) where
  pub gives_next : (s t : Sides X) (r : Option A) (item : Option Item) → StepsAhead view s r t
      → ShowsOption shows item (option_map view r)
      → (moves : List Move) (items : List (Option Item)) → Gives shows (cursor_of t) moves items
      → Gives shows (cursor_of s) (Next ∷ moves) (item ∷ items)
  gives_next s t r item step shown moves items g = (
    subst (ShowsOption shows item) (item_ahead view s t r step) shown,
    subst (λ c. Gives shows c moves items) (cursor_ahead view s t r step) g,
  )

  pub gives_prev : (s t : Sides X) (r : Option A) (item : Option Item) → StepsBack view s r t
      → ShowsOption shows item (option_map view r)
      → (moves : List Move) (items : List (Option Item)) → Gives shows (cursor_of t) moves items
      → Gives shows (cursor_of s) (Prev ∷ moves) (item ∷ items)
  gives_prev s t r item step shown moves items g = (
    subst (ShowsOption shows item) (item_back view s t r step) shown,
    subst (λ c. Gives shows c moves items) (cursor_back view s t r step) g,
  )

-- the cursor at an index
pub cursor_at : {X : Type 0} (items : List X) (p : ℕ) → p ≤ length items
    → ◌≡◌ {A = Cursor X} (cursor_of (at_place items p))
    (record { items = items; place = p; forward = true })
cursor_at {X} items p l =
    let of : List X → ℕ → Cursor X = λ items place. record {
      items = items;
      place = place;
      forward = true;
    } in
    ap (λ whole. of whole (length (take p items))) (take-append-drop p items)
    ∙ ap (of items) (length-take-le p items l)

-- a walk from an index in bounds
pub walks_from : {X : Type 0} (shows : Item → X → Type 0) (inside : Bool) (items : List X) (p : ℕ)
    (s : Sides X) (moves : List Move) (r : Reply)
    → inside ≡ true → p ≤ length items → s ≡ at_place items p
    → IsWalkReply shows (cursor_of s) moves r → Walks shows inside items p moves r
walks_from {X} shows inside items p s moves r is l at g =
    let whole =
    subst (λ (c : Cursor X). IsWalkReply shows c moves r) (ap cursor_of at ∙ cursor_at items p l)
    g in
    subst (λ b. MatchBool b (IsWalkReply shows (record { items = items; place = p; forward = true })
    moves r) (r ≡ reply.Absent)) (sym is) whole

-- a cursor over chunks starts at one of them, or past the last
one_of : (b : Bool) (m n : ℕ) → n ≤ m → cond b m n ≤ m
one_of true m n l = omega arith
one_of false m n l = l

pub chunk_place-le : (c : Content) (at : At) (i : ℕ) → chunk_place c at i ≤ length c.chunks
chunk_place-le c at.Byte i =
    one_of (i == byte_len (concat c.chunks)) (length c.chunks) (chunk_index_at_byte c.chunks i)
    (omega (arith, chunk_index_at_byte-le c.chunks i))
chunk_place-le c at.Char i =
    one_of (i == length (concat c.chunks)) (length c.chunks) (chunk_index_at_char c.chunks i)
    (omega (arith, chunk_index_at_char-le c.chunks i))
chunk_place-le c at.LineBreak i =
    one_of (i == line_count c.breaks (concat c.chunks)) (length c.chunks)
    (chunk_index_at_line_break c.breaks c.chunks i)
    (omega (arith, chunk_index_at_line_break-le c.breaks c.chunks i))
