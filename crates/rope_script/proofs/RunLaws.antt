-- Runs continue, and every rope that they make or change has the invariant of ropes.
use Rattle.std.proofs.Common.{◌≡◌, ℕ, ◌+◌, ◌<◌, zero, suc, ◌==◌, ◌⊎◌, Bool, true, false, MatchBool, List, [], ◌∷◌, ◌++◌, length, take, get_or, slice_get, slice_set, MatchOption, Option, Some, None, All, refl, sym, ap, subst, ◌∙◌, inl, inr, arith, append_assoc, length-append}
use Rattle.std.proofs.lemmas.List.{take_more}
use Rattle.std.proofs.lemmas.List.Elements.{All-append, All-set, All-get_or}
use Rattle.std.proofs.lemmas.Option.{slice_get_cases}
use Rattle.rope_text.specs.Content.{Content, IsRope, HasFewChunks}
use Rattle.rope_text.specs.Edit.{inserted, insert_error, removed, range_start, range_end, char_range_error, char_index_error, append_error}
use Rattle.rope_text.specs.declared.error.Error.{Error}
use Rattle.rope_text.specs.declared.line_breaks.LineBreaks.{LineBreaks}
use Rattle.rope_text.specs.declared.line_breaks.LineBreaks.TheVariants.{Unicode}
use Rattle.std.specs.Str.{chars}
use Rattle.std.specs.String.{string_bytes}
use Rattle.rope_script.specs.declared.script.Command.{Command}
use Rattle.rope_script.specs.declared.script.Command.TheVariants as command
use Rattle.rope_script.specs.declared.script.Reply.{Reply}
use Rattle.rope_script.specs.declared.script.Reply.TheVariants.{NoSlice}
use Rattle.rope_script.specs.declared.script.Query.{Query}
use Rattle.rope_script.specs.Part.{part_of}
use Rattle.rope_script.specs.Step.{Any, KeepsChunks, OrNoMemory, Unchanged, Unless, OfPart, Copies, Asks, Adds, AddsSame, Changes, Edits, Splits, Step, Inserts, Removes, Cuts, Joins, Shrinks, Runs}

pub Runs-push : (old mid new : List Content) (commands : List Command) (replies : List Reply)
    (command : Command) (reply : Reply)
    → Runs old commands replies mid → Step mid command reply new
    → Runs old (commands ++ command ∷ []) (replies ++ reply ∷ []) new
Runs-push old mid new [] [] c r p q = (new, subst (λ s. Step s c r new) p q, refl)
Runs-push old mid new [] (r' ∷ rs) c r p q = absurd p
Runs-push old mid new (c' ∷ cs) [] c r p q = absurd p
Runs-push old mid new (c' ∷ cs) (r' ∷ rs) c r p q =
    (p.0, p.1, Runs-push p.0 mid new cs rs c r p.2 q)

-- a run in progress, after as many commands as replies
pub record IsRunning (old : List Content) (commands : List Command) (before after : List Reply)
    (new : List Content) (done : ℕ) : Type 0 where
  pub added : List Reply
  pub appended : after ≡ before ++ added
  pub count : length added ≡ done
  pub run : Runs old (take done commands) added new

pub running_more : (old mid new : List Content) (commands : List Command)
    (before after : List Reply) (done : ℕ) (command : Command) (reply : Reply)
    → done < length commands → command ≡ get_or commands done command
    → IsRunning old commands before after mid done → Step mid command reply new
    → IsRunning old commands before (after ++ reply ∷ []) new (done + 1)
running_more old mid new commands before after done command reply l e r s = record {
  added = r.added ++ reply ∷ [];
  appended = ap (λ xs. xs ++ reply ∷ []) r.appended ∙ append_assoc before r.added (reply ∷ []);
  count = length-append r.added (reply ∷ []) ∙ ap (λ n. n + 1) r.count;
  run = subst (λ cs. Runs old cs (r.added ++ reply ∷ []) new)
      (sym (take_more commands done command l ∙ ap (λ c. take done commands ++ c ∷ []) (sym e)))
      (Runs-push old mid new (take done commands) r.added command reply r.run s);
}

-- ---- every rope of a run has the invariant of ropes

-- the one element of a list
one : (x : Content) → IsRope x → All IsRope (x ∷ [])
one x p zero d h = p
one x p (suc i) d h = absurd (omega arith)

-- another rope is added
added_keep : (old : List Content) (rope : Content) → All IsRope old → IsRope rope
    → All IsRope (old ++ rope ∷ [])
added_keep old rope k p = All-append IsRope old (rope ∷ []) k (one rope p)

-- there is no such rope, or it is found
found : (old : List Content) (r : ℕ) (A : Type 0) (Q : Content → Type 0) → All IsRope old
    → MatchOption (slice_get old r) A Q → A ⊎ ((rope : Content) × IsRope rope × Q rope)
found old r A Q k m = elim (slice_get_cases old r).1 [
  | inl there ↦ let p : IsRope (get_or old r there.0) = All-get_or IsRope old r there.0 there.1 k in
      inr (there.0, rw there.3 at p, rw there.2 at m)
  | inr past ↦ inl (rw past.1 at m)
]

-- it fails and nothing changes, or else P
allowed : (error : Option Error) (P : Type 0) (old new : List Content) (reply : Reply)
    → Unless error P old reply new → (new ≡ old) ⊎ P
allowed None P old new reply m = inr m
allowed (Some e) P old new reply m = inl m.1

-- one of two facts
either : (b : Bool) (P Q : Type 0) → MatchBool b P Q → P ⊎ Q
either true P Q m = inl m
either false P Q m = inr m

changes_keep : (old new : List Content) (r : ℕ) (breaks : LineBreaks) (text : List ℕ) (Q : Content
    → Type 0) (reply : Reply) → All IsRope old → Changes r breaks text Q old reply new
    → All IsRope new
changes_keep old new r breaks text Q reply k s = rw s.4 (All-set IsRope old r s.0 s.1.kept k)

edits_keep : (old new : List Content) (r : ℕ) (breaks : LineBreaks) (error : Option Error)
    (idle : Bool) (text : List ℕ) (reply : Reply) → All IsRope old
    → Edits r breaks error idle text old reply new → All IsRope new
edits_keep old new r breaks error idle text reply k s = elim (allowed error _ old new reply s) [
  | inl refused ↦ rw refused k
  | inr fine ↦ elim (either idle _ _ fine) [
    | inl still ↦ rw still.1 k
    | inr full ↦ elim full [
      | inl changed ↦
          changes_keep old new r breaks text Any reply k changed
      | inr memory ↦ rw memory.1 k
    ]
  ]
]

inserts_keep : (old new : List Content) (r i : ℕ) (text : List ℕ) (reply : Reply) → All IsRope old
    → Inserts r i text old reply new → All IsRope new
inserts_keep old new r i text reply k s = elim (found old r _ _ k s) [
  | inl none ↦ rw none.1 k
  | inr some ↦ edits_keep old new r some.0.breaks (insert_error some.0.text i text)
      (length text == 0) (inserted some.0.text i text) reply k some.2
]

removes_keep : (old new : List Content) (r : ℕ) (start end : Option ℕ) (reply : Reply)
    → All IsRope old → Removes r start end old reply new → All IsRope new
removes_keep old new r start end reply k s = elim (found old r _ _ k s) [
  | inl none ↦ rw none.1 k
  | inr some ↦ let len = length some.0.text in
      edits_keep old new r some.0.breaks (char_range_error start end len)
      (range_start start == range_end end len)
      (removed some.0.text (range_start start) (range_end end len)) reply k some.2
]

splits_keep : (old new : List Content) (r i : ℕ) (rope : Content) (reply : Reply) → All IsRope old
    → Splits r i rope old reply new → All IsRope new
splits_keep old new r i rope reply k s =
    rw s.5 (added_keep (slice_set old r s.0) s.1 (All-set IsRope old r s.0 s.2.kept k) s.3.kept)

cuts_keep : (old new : List Content) (r i : ℕ) (reply : Reply) → All IsRope old
    → Cuts r i old reply new → All IsRope new
cuts_keep old new r i reply k s = elim (found old r _ _ k s) [
  | inl none ↦ rw none.1 k
  | inr some ↦ elim (allowed (char_index_error i (length some.0.text)) _ old new reply some.2) [
    | inl refused ↦ rw refused k
    | inr fine ↦ elim fine [
      | inl split ↦ splits_keep old new r i some.0 reply k split
      | inr memory ↦
          rw memory.1 k
    ]
  ]
]

joins_keep : (old new : List Content) (r s : ℕ) (reply : Reply) → All IsRope old
    → Joins r s old reply new → All IsRope new
joins_keep old new r s reply k j = elim (found old r _ _ k j) [
  | inl none ↦ rw none.1 k
  | inr first ↦ elim (found old s _ _ k first.2) [
    | inl none ↦ rw none.1 k
    | inr second ↦ let rope = first.0 in let other = second.0 in
        elim (allowed (append_error rope.breaks other.breaks rope.text other.text) _ old new reply
        second.2) [
          | inl refused ↦ rw refused k
          | inr fine ↦ elim fine [
            | inl changed ↦ changes_keep old new r rope.breaks (rope.text ++ other.text)
                (KeepsChunks rope other) reply k changed
            | inr memory ↦ rw memory.1 k
          ]
        ]
  ]
]

shrinks_keep : (old new : List Content) (r : ℕ) (reply : Reply) → All IsRope old
    → Shrinks r old reply new → All IsRope new
shrinks_keep old new r reply k s = elim (found old r _ _ k s) [
  | inl none ↦ rw none.1 k
  | inr some ↦ elim some.2 [
    | inl changed ↦
        changes_keep old new r some.0.breaks some.0.text HasFewChunks reply k changed
    | inr memory ↦ rw memory.1 k
  ]
]

adds_keep : (old new : List Content) (text : List ℕ) (breaks : LineBreaks) (Q : Content → Type 0)
    (reply : Reply) → All IsRope old → OrNoMemory (Adds text breaks Q old reply new) old reply new
    → All IsRope new
adds_keep old new text breaks Q reply k (inl s) = rw s.4 (added_keep old s.0 k s.1.kept)
adds_keep old new text breaks Q reply k (inr s) = rw s.1 k

clones_keep : (old new : List Content) (rope : Content) (reply : Reply) → All IsRope old
    → IsRope rope → OrNoMemory (AddsSame rope old reply new) old reply new → All IsRope new
clones_keep old new rope reply k p (inl s) = rw s.1 (added_keep old rope k p)
clones_keep old new rope reply k p (inr s) = rw s.1 k

-- there is no such slice of a rope, and nothing changes, or there is one
by_range : (rope : Content) (range : Option (ℕ × ℕ)) (P : Content → Type 0) (old new : List Content)
    (reply : Reply) → OfPart rope range P old reply new → (new ≡ old) ⊎ ((part : Content) × P part)
by_range rope range P old new reply h = go (part_of rope range) h
  where
    go : (found : Option Content) → MatchOption found (Unchanged NoSlice old reply new) P
        → (new ≡ old) ⊎ ((part : Content) × P part)
    go None h = inl h.1
    go (Some part) h = inr (part, h)

copies_keep : (old new : List Content) (r : ℕ) (range : Option (ℕ × ℕ)) (reply : Reply)
    → All IsRope old → Copies r range old reply new → All IsRope new
copies_keep old new r range reply k s = elim (found old r _ _ k s) [
  | inl none ↦ rw none.1 k
  | inr some ↦ elim (by_range some.0 range _ old new reply some.2) [
    | inl none ↦ rw none k
    | inr part ↦ adds_keep old new part.0.text part.0.breaks Any reply k part.1
  ]
]

asks_keep : (old new : List Content) (r : ℕ) (range : Option (ℕ × ℕ)) (query : Query)
    (reply : Reply) → All IsRope old → Asks r range query old reply new → All IsRope new
asks_keep old new r range query reply k s = elim (found old r _ _ k s) [
  | inl none ↦ rw none.1 k
  | inr some ↦ elim (by_range some.0 range _ old new reply some.2) [
    | inl none ↦
        rw none k
    | inr part ↦ rw part.1.1 k
  ]
]

step_keeps : (old new : List Content) (command : Command) (reply : Reply) → All IsRope old
    → Step old command reply new → All IsRope new
step_keeps old new command.New reply k s = adds_keep old new [] Unicode HasFewChunks reply k s
step_keeps old new (command.Text t) reply k s =
    adds_keep old new (chars (string_bytes t)) Unicode HasFewChunks reply k s
step_keeps old new (command.TextWith breaks t) reply k s =
    adds_keep old new (chars (string_bytes t)) breaks HasFewChunks reply k s
step_keeps old new (command.Clone r) reply k s =
    elim (found old r _ _ k s) [
      | inl none ↦ rw none.1 k
      | inr some ↦
          clones_keep old new some.0 reply k some.1 some.2
    ]
step_keeps old new (command.Copy (r, range)) reply k s = copies_keep old new r range reply k s
step_keeps old new (command.Insert r i t) reply k s =
    inserts_keep old new r i (chars (string_bytes t)) reply k s
step_keeps old new (command.InsertChar r i c) reply k s =
    inserts_keep old new r i (c ∷ []) reply k s
step_keeps old new (command.Remove r start end) reply k s =
    removes_keep old new r start end reply k s
step_keeps old new (command.Cut r i) reply k s = cuts_keep old new r i reply k s
step_keeps old new (command.Join r s) reply k j = joins_keep old new r s reply k j
step_keeps old new (command.Shrink r) reply k s = shrinks_keep old new r reply k s
step_keeps old new (command.Ask r range query) reply k s = asks_keep old new r range query reply k s

pub runs_keep : (old new : List Content) (commands : List Command) (replies : List Reply)
    → All IsRope old → Runs old commands replies new → All IsRope new
runs_keep old new [] [] k s = rw s k
runs_keep old new [] (r ∷ replies) k s = absurd s
runs_keep old new (c ∷ commands) [] k s = absurd s
runs_keep old new (c ∷ commands) (r ∷ replies) k s =
    runs_keep s.0 new commands replies (step_keeps old s.0 c r k s.1) s.2
