-- The empty text has no character, and no chunk.
use Rattle.std.proofs.Common.{◌≡◌, ◌∙◌, [], Result, Ok, Err, IfOk}
use Rattle.std.proofs.lemmas.Str.{chars-nil}
use Rattle.std.proofs.lemmas.Result.{IfOk-weaker}
use Rattle.rope_text.specs.declared.line_breaks.LineBreaks.{LineBreaks}
use Rattle.ropey.specs.View.{RopeView, IsBuilt}
use Rattle.ropey.proofs.Ropes.{no_chunks}
use Rattle.ropey.proofs.rope.Rope.new_with.Goals as goal

none_made : {E : Type 0} (breaks : LineBreaks) (made : Result RopeView E)
    → IfOk made (λ rope. rope.text ≡ []) → IfOk made (IsBuilt breaks)
    → IfOk made (λ rope. rope.chunks ≡ [])
none_made breaks (Ok rope) empty built = no_chunks rope empty built.2
none_made breaks (Err e) empty built = tt

pub returns-clause-text : goal.returns-clause-text
returns-clause-text c =
    IfOk-weaker c.from_str_with.result _ _ (λ (r : RopeView) e. e ∙ chars-nil)
    c.from_str_with.ensures.text

pub returns-clause-chunks : goal.returns-clause-chunks
returns-clause-chunks c =
    none_made c.args.breaks c.from_str_with.result
    (IfOk-weaker c.from_str_with.result _ _ (λ (r : RopeView) e. e ∙ chars-nil)
    c.from_str_with.ensures.text) c.from_str_with.ensures.kept
