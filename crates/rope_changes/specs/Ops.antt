-- A change of a text, one character at a time.
use Rattle.std.specs.Prelude.{ℕ, zero, suc, List, [], ◌∷◌}

-- what a change does next: it keeps a character, deletes one, or inserts one
pub data Op : Type 0 where
  keep : Op
  delete : Op
  insert : ℕ → Op

-- the text after a change; characters after the last operation are kept
abbrev pub run : List Op → List ℕ → List ℕ
run [] text = text
run (keep ∷ ops) [] = run ops []
run (keep ∷ ops) (c ∷ text) = c ∷ run ops text
run (delete ∷ ops) [] = run ops []
run (delete ∷ ops) (c ∷ text) = run ops text
run (insert c ∷ ops) text = c ∷ run ops text

-- the number of characters that a change keeps or deletes: the length of a text that it is a change
-- of
abbrev pub len_before : List Op → ℕ
len_before [] = zero
len_before (keep ∷ ops) = suc (len_before ops)
len_before (delete ∷ ops) = suc (len_before ops)
len_before (insert c ∷ ops) = len_before ops

-- the number of characters that a change keeps or inserts: the length of the text after it
abbrev pub len_after : List Op → ℕ
len_after [] = zero
len_after (keep ∷ ops) = suc (len_after ops)
len_after (delete ∷ ops) = len_after ops
len_after (insert c ∷ ops) = suc (len_after ops)
