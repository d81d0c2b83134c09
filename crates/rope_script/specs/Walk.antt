-- The items of a cursor that makes some moves.
use Rattle.std.specs.Prelude.{◌≡◌, ℕ, Bool, true, List, [], ◌∷◌, ⊤, MatchBool, Option, Some, None}
use Rattle.std.specs.List.{AllZip}
use Rattle.std.specs.Str.{chars}
use Rattle.std.specs.String.{string_bytes}
use Rattle.rope_text.specs.Content.{Content}
use Rattle.rope_text.specs.Cursor.{Cursor, next_item, after_next, prev_item, after_prev, reversed}
use Rattle.rope_script.specs.declared.script.Move.{Move}
use Rattle.rope_script.specs.declared.script.Move.TheVariants.{Next, Prev, Reverse}
use Rattle.rope_script.specs.declared.script.Item.{Item}
use Rattle.rope_script.specs.declared.script.Item.TheVariants as item
use Rattle.rope_script.specs.declared.script.Reply.{Reply}
use Rattle.rope_script.specs.declared.script.Reply.TheVariants as reply

-- the result of each step of a cursor, in order; a reversal has none
abbrev pub walk : {X : Type 0} → Cursor X → List Move → List (Option X)
walk c [] = []
walk c (Next ∷ moves) = next_item c ∷ walk (after_next c) moves
walk c (Prev ∷ moves) = prev_item c ∷ walk (after_prev c) moves
walk c (Reverse ∷ moves) = walk (reversed c) moves

-- the item is this byte, this character, this text
abbrev pub IsByteItem : Item → ℕ → Type 0
IsByteItem (item.Byte b) byte = b ≡ byte
IsByteItem _ byte = ⊥

abbrev pub IsCharItem : Item → ℕ → Type 0
IsCharItem (item.Char c) char = c ≡ char
IsCharItem _ char = ⊥

abbrev pub IsTextItem : Item → List ℕ → Type 0
IsTextItem (item.Text s) text = chars (string_bytes s) ≡ text
IsTextItem _ text = ⊥

-- the item is the text of this line
abbrev pub IsLineItem : Item → Content → Type 0
IsLineItem item line = IsTextItem item line.text

module _ {X : Type 0} (shows : Item → X → Type 0) where
  -- both are none, or the item shows the value
  abbrev pub ShowsOption : Option Item → Option X → Type 0
  ShowsOption None None = ⊤
  ShowsOption (Some item) (Some value) = shows item value
  ShowsOption None (Some value) = ⊥
  ShowsOption (Some item) None = ⊥

  -- the items are the results of a cursor that makes these moves
  abbrev pub Gives : Cursor X → List Move → List (Option Item) → Type 0
  Gives c moves items = AllZip ShowsOption items (walk c moves)

  -- the reply has the results of a cursor that makes these moves
  abbrev pub IsWalkReply : Cursor X → List Move → Reply → Type 0
  IsWalkReply c moves (reply.Walk v) = Gives c moves v.items
  IsWalkReply c moves _ = ⊥

  -- the walk of a list from an index, facing forward, if the start is in bounds
  abbrev pub Walks : Bool → List X → ℕ → List Move → Reply → Type 0
  Walks is_inside items place moves r =
      MatchBool is_inside (IsWalkReply (record { items = items; place = place; forward = true })
      moves r) (r ≡ reply.Absent)
