-- What a handle owns or lends, and what it shows.
use Rattle.std.specs.Prelude.{ℕ, List, [], Option, None, Some, IfSome}
use Rattle.std.specs.Coded.{Coded}
use base.Fml.{Fml, Lft, Share, ftrue, feq, fsep, fex, flft}
use denote.RattleType.{RattleType}
use denote.RawPtr.{Ptr, null_ptr, Testable}
use denote.Struct.Lending.{lent_at}
use Rattle.std.specs.Box.Ownership.{box_owns}
use Rattle.std.specs.declared.alloc.Global.{Global}
use Rattle.std.specs.contracts.impls.GlobalAllocator.TheImpl.{ghosts}
use Rattle.rope_text.specs.declared.line_breaks.LineBreaks.{LineBreaks}
use Rattle.rope_text.specs.declared.line_breaks.LineBreaks.TheVariants.{Unicode}
use Rattle.ropey.specs.View.{RopeView, IsRope}
use Rattle.ropey.specs.contracts.Rope.{the_row}

-- how the logic stores what a rope shows
abbrev pub rope_code : Coded RopeView
rope_code = the_row.coded

-- nothing at null, and otherwise what a box of the value owns
abbrev pub held_at : (R : RattleType) → Global → Ptr → Option R.Denot → Fml
held_at R alloc p None = feq Ptr p null_ptr
held_at R alloc p (Some x) = box_owns (ghosts.dealloc_token alloc) R p x

-- no rope at null, and otherwise what a box of it owns
abbrev pub rope_at : Global → Ptr → Option RopeView → Fml
rope_at alloc p rope = held_at the_row alloc p rope

-- some share of a lifetime's token: the lifetime lasts as long as this is held
abbrev pub lasts : Lft → Fml
lasts κ = fex Share (λ q. flft κ q)

-- the value at p is lent for κ, which lasts
abbrev pub lent_for : (R : RattleType) → Ptr → R.Denot → Lft → Fml
lent_for R p x κ = fsep (lent_at R p x κ) (lasts κ)

-- nothing at null, and otherwise a value that is lent
abbrev pub held_lent : (R : RattleType) → Ptr → Option R.Denot → Fml
held_lent R p None = feq Ptr p null_ptr
held_lent R p (Some x) = fsep (fex (Testable p) (λ _. ftrue)) (fex Lft (lent_for R p x))

-- no rope at null, and otherwise one that is lent
abbrev pub rope_lent : Ptr → Option RopeView → Fml
rope_lent p rope = held_lent the_row p rope

-- a handle's rope, if there is one, is what every rope is: chunks of 1 to 984 bytes that join to
-- its text, few of them
abbrev pub HoldsRope : Option RopeView → Type 0
HoldsRope rope = IfSome rope IsRope

-- the text and the set of line breaks of a handle's rope; without a rope, those of an empty one
abbrev pub text_at : Option RopeView → List ℕ
text_at None = []
text_at (Some rope) = rope.text

abbrev pub breaks_at : Option RopeView → LineBreaks
breaks_at None = Unicode
breaks_at (Some rope) = rope.breaks

-- a length of a handle's rope, and 0 without a rope
abbrev pub len_at : Option RopeView → (RopeView → ℕ) → ℕ
len_at None len = 0
len_at (Some rope) len = len rope
