-- One command on a list of ropes, and runs of commands.
use Rattle.std.specs.Prelude.{◌≡◌, ℕ, Bool, ◌==◌, ◌⊎◌, ⊤, List, [], ◌∷◌, ◌++◌, length, take, drop, All, slice_get, slice_set, MatchOption, MatchBool, Option, Result, Ok, Err}
use Rattle.std.specs.Str.{chars}
use Rattle.std.specs.String.{string_bytes}
use Rattle.rope_text.specs.declared.error.Error.{Error}
use Rattle.rope_text.specs.declared.error.Error.TheVariants.{OutOfMemory}
use Rattle.rope_text.specs.declared.line_breaks.LineBreaks.{LineBreaks}
use Rattle.rope_text.specs.declared.line_breaks.LineBreaks.TheVariants.{Unicode}
use Rattle.rope_text.specs.Content.{Content, IsRope, HasFewChunks}
use Rattle.rope_text.specs.Edit.{inserted, insert_error, removed, range_start, range_end, char_range_error, char_index_error, append_error}
use Rattle.rope_script.specs.declared.script.Command.{Command}
use Rattle.rope_script.specs.declared.script.Command.TheVariants as command
use Rattle.rope_script.specs.declared.script.Reply.{Reply}
use Rattle.rope_script.specs.declared.script.Reply.TheVariants.{Done, Made, NoRope, NoSlice, Refused}
use Rattle.rope_script.specs.declared.script.Query.{Query}
use Rattle.rope_script.specs.Ask.{Answers}
use Rattle.rope_script.specs.Part.{part_of}

-- this reply, and no rope is changed or added
abbrev pub Unchanged : Reply → List Content → Reply → List Content → Type 0
Unchanged expected old reply new = (reply ≡ expected) × (new ≡ old)

-- a rope with this text and this set of line breaks, with any cutting
pub record IsRopeOf (text : List ℕ) (breaks : LineBreaks) (rope : Content) : Type 0 where
  pub text_is : rope.text ≡ text
  pub breaks_are : rope.breaks ≡ breaks
  pub kept : IsRope rope

-- a rope with this text and set of line breaks is added, with any cutting
abbrev pub Adds : List ℕ → LineBreaks → (Content → Type 0) → List Content → Reply → List Content
    → Type 0
Adds text breaks P old reply new = (rope : Content) × IsRopeOf text breaks rope × P rope
    × (reply ≡ Made (length old)) × (new ≡ old ++ rope ∷ [])

-- the rope r now has this text, with any cutting, and this set of line breaks; the other ropes stay
abbrev pub Changes : ℕ → LineBreaks → List ℕ → (Content → Type 0) → List Content → Reply
    → List Content → Type 0
Changes r breaks text P old reply new = (rope : Content) × IsRopeOf text breaks rope × P rope
    × (reply ≡ Done) × (new ≡ slice_set old r rope)

-- no condition on the cutting
abbrev pub Any : Content → Type 0
Any rope = ⊤

-- it is done, or out of memory
abbrev pub OrNoMemory : Type 0 → List Content → Reply → List Content → Type 0
OrNoMemory P old reply new = P ⊎ Unchanged (Refused OutOfMemory) old reply new

-- an index, a range or a size is refused, else P
abbrev pub Unless : Option Error → Type 0 → List Content → Reply → List Content → Type 0
Unless error P old reply new = MatchOption error P (λ e. Unchanged (Refused e) old reply new)

-- a fact about the rope r, if there is one
abbrev pub OfRope : ℕ → (Content → Type 0) → List Content → Reply → List Content → Type 0
OfRope r P old reply new = MatchOption (slice_get old r) (Unchanged NoRope old reply new) P

-- a fact about this slice of a rope, if there is one
abbrev pub OfPart : Content → Option (ℕ × ℕ) → (Content → Type 0) → List Content → Reply
    → List Content → Type 0
OfPart rope range P old reply new =
    MatchOption (part_of rope range) (Unchanged NoSlice old reply new) P

-- the reply to an edit
abbrev pub edit_reply : {T : Type 0} → Result T Error → Reply
edit_reply (Ok done) = Done
edit_reply (Err error) = Refused error

-- an edit that gives the rope r this text: it fails with the error of its arguments, else it is
-- done, or out of memory; an idle one succeeds and changes nothing
abbrev pub Edits : ℕ → LineBreaks → Option Error → Bool → List ℕ → List Content → Reply
    → List Content → Type 0
Edits r breaks error idle text old reply new =
    Unless error (MatchBool idle (Unchanged Done old reply new)
    (OrNoMemory (Changes r breaks text Any old reply new) old reply new)) old reply new

-- an insert: that of the empty text is idle
abbrev pub Inserts : ℕ → ℕ → List ℕ → List Content → Reply → List Content → Type 0
Inserts r i text old reply new =
    OfRope r (λ rope. Edits r rope.breaks (insert_error rope.text i text) (length text == 0)
    (inserted rope.text i text) old reply new) old reply new

-- a removal: that of an empty range is idle
abbrev pub Removes : ℕ → Option ℕ → Option ℕ → List Content → Reply → List Content → Type 0
Removes r start end old reply new =
    OfRope r (λ rope. let len = length rope.text in let a = range_start start in
    let b = range_end end len in
    Edits r rope.breaks (char_range_error start end len) (a == b) (removed rope.text a b) old reply
    new) old reply new

-- this very rope is added, with its cutting
abbrev pub AddsSame : Content → List Content → Reply → List Content → Type 0
AddsSame rope old reply new = (reply ≡ Made (length old)) × (new ≡ old ++ rope ∷ [])

-- the rope r keeps the first i characters, and the rest is added as a rope, each with any cutting
abbrev pub Splits : ℕ → ℕ → Content → List Content → Reply → List Content → Type 0
Splits r i rope old reply new =
    (front : Content) × (back : Content) × IsRopeOf (take i rope.text) rope.breaks front
    × IsRopeOf (drop i rope.text) rope.breaks back
    × (reply ≡ Made (length old)) × (new ≡ slice_set old r front ++ back ∷ [])

-- a rope is split in two
abbrev pub Cuts : ℕ → ℕ → List Content → Reply → List Content → Type 0
Cuts r i old reply new =
    OfRope r (λ rope. Unless (char_index_error i (length rope.text))
    (OrNoMemory (Splits r i rope old reply new) old reply new) old reply new) old reply new

-- if one side is empty, the joined rope has the other's chunks
abbrev pub KeepsChunks : Content → Content → Content → Type 0
KeepsChunks rope other joined = (length rope.text ≡ 0 → joined.chunks ≡ other.chunks)
    × (length other.text ≡ 0 → joined.chunks ≡ rope.chunks)

-- the text of the rope s is appended to the rope r; s stays, unless it is r
abbrev pub Joins : ℕ → ℕ → List Content → Reply → List Content → Type 0
Joins r s old reply new =
    OfRope r (λ rope. OfRope s
    (λ other. Unless (append_error rope.breaks other.breaks rope.text other.text)
    (OrNoMemory (Changes r rope.breaks (rope.text ++ other.text) (KeepsChunks rope other) old reply
    new) old reply new)
    old reply new) old reply new) old reply new

-- a rope keeps its text, which is re-chunked, into few chunks
abbrev pub Shrinks : ℕ → List Content → Reply → List Content → Type 0
Shrinks r old reply new =
    OfRope r (λ rope. OrNoMemory (Changes r rope.breaks rope.text HasFewChunks old reply new) old
    reply new) old reply new

-- a rope of a slice of the rope r is added, with its set of line breaks and any cutting
abbrev pub Copies : ℕ → Option (ℕ × ℕ) → List Content → Reply → List Content → Type 0
Copies r range old reply new =
    OfRope r (λ rope. OfPart rope range
    (λ part. OrNoMemory (Adds part.text part.breaks Any old reply new) old reply new) old reply new)
    old reply new

-- the rope r, or a slice of it, is queried, and nothing changes
abbrev pub Asks : ℕ → Option (ℕ × ℕ) → Query → List Content → Reply → List Content → Type 0
Asks r range query old reply new =
    OfRope r (λ rope. OfPart rope range (λ part. Answers old part query reply × (new ≡ old)) old
    reply new) old reply new

-- from the ropes old the command may have this reply, and leave the ropes new
abbrev pub Step : List Content → Command → Reply → List Content → Type 0
Step old command.New reply new =
    OrNoMemory (Adds [] Unicode HasFewChunks old reply new) old reply new
Step old (command.Text s) reply new =
    OrNoMemory (Adds (chars (string_bytes s)) Unicode HasFewChunks old reply new) old reply new
Step old (command.TextWith breaks s) reply new =
    OrNoMemory (Adds (chars (string_bytes s)) breaks HasFewChunks old reply new) old reply new
Step old (command.Clone r) reply new =
    OfRope r (λ rope. OrNoMemory (AddsSame rope old reply new) old reply new) old reply new
Step old (command.Copy (r, range)) reply new = Copies r range old reply new
Step old (command.Insert r i s) reply new = Inserts r i (chars (string_bytes s)) old reply new
Step old (command.InsertChar r i c) reply new = Inserts r i (c ∷ []) old reply new
Step old (command.Remove r start end) reply new = Removes r start end old reply new
Step old (command.Cut r i) reply new = Cuts r i old reply new
Step old (command.Join r s) reply new = Joins r s old reply new
Step old (command.Shrink r) reply new = Shrinks r old reply new
Step old (command.Ask r range query) reply new = Asks r range query old reply new

-- each command's reply and the ropes after it are a step from the ropes before it
abbrev pub Runs : List Content → List Command → List Reply → List Content → Type 0
Runs old [] [] new = new ≡ old
Runs old (c ∷ commands) (r ∷ replies) new = (between : List Content) × Step old c r between
    × Runs between commands replies new
Runs old [] (r ∷ replies) new = ⊥
Runs old (c ∷ commands) [] new = ⊥

-- the replies after `before` are those to the first commands, one for each, and the ropes are those
-- that these commands left
pub record Ran (old : List Content) (commands : List Command) (before after : List Reply)
    (new : List Content) : Type 0 where
  pub added : List Reply
  pub appended : after ≡ before ++ added
  pub run : Runs old (take (length added) commands) added new

-- every rope after a run has the invariant of ropes, if those before it do
abbrev pub RunsKeepRopes : Type 0
RunsKeepRopes = (old new : List Content) (commands : List Command) (replies : List Reply)
    → All IsRope old → Runs old commands replies new → All IsRope new
