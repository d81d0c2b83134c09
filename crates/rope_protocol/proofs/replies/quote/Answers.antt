use Rattle.std.proofs.Common.{◌≡◌, ◌∙◌, ◌++◌, ◌∷◌, [], ap, sym, arith, codes, append_assoc}
use Rattle.std.specs.List.{flat_map}
use Rattle.std.specs.Str.{chars}
use Rattle.std.specs.String.{string_bytes}
use Rattle.std.proofs.lemmas.Grind.{common_steps}
use Rattle.std.proofs.lemmas.Iterator.{YieldsList-from_chars}
use Rattle.std.proofs.lemmas.Iterator.Consumers.{YieldsList-end}
use Rattle.std.proofs.lemmas.List.{map-id}
use Rattle.rope_protocol.specs.ReplyLine.{quoted_char, quoted}
use Rattle.rope_protocol.proofs.Written.{written_more}
use Rattle.rope_protocol.proofs.replies.quote.Goals as goal

pub loop-c-preserved : goal.loop-c-preserved
loop-c-preserved c =
    c.in_ok-quote_char.ensures ∙ ap (λ xs. xs ++ quoted_char c.in-Some.c) c.loop-c.invariant
    ∙ written_more quoted_char (string_bytes c.args.out.now)
    (codes "\"") c.loop-c.yielded c.in-Some.c

pub returns : goal.returns
returns c =
    let turn =
    YieldsList-end (YieldsList-from_chars c.args.text.now c.utf8.text cc) c.loop-c.yielded _
    c.loop-c.yielded_by _ _ c.in-None.is c.next.ensures.steps in
    let all : c.loop-c.yielded ≡ chars c.args.text.now = sym (map-id c.loop-c.yielded) ∙ turn.0 in
    let closed : string_bytes c.loop-c.out ++ 34 ∷ [] ≡ string_bytes c.args.out.now
    ++ quoted (chars c.args.text.now) =
    ap (λ xs. xs ++ 34 ∷ []) (c.loop-c.invariant
    ∙ ap (λ xs. string_bytes c.args.out.now ++ (codes "\"" ++ flat_map quoted_char xs)) all)
    ∙ append_assoc (string_bytes c.args.out.now)
    (codes "\"" ++ flat_map quoted_char (chars c.args.text.now)) (34 ∷ []) in
    grind (arith, common_steps)
