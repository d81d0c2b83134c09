use Rattle.std.proofs.Common.{◌≡◌, ◌<◌, length, get_or, None, Some, arith, refl, sym, ◌∙◌, ap, subst}
use Rattle.rope_text.specs.declared.error.Error.TheVariants.{OutOfMemory}
use Rattle.ropey.specs.View.{IsRope}
use Rattle.rope_script.proofs.Contents.{join_of, unjoined_of, same_place}
use Rattle.rope_script.proofs.changing.join.Goals as goal

pub returns-in-Some : goal.returns-in-Some
returns-in-Some c =
    unjoined_of c.args.ropes.now.items c.args.rope c.args.other c.index.result.now
    c.index-2.result.now (Some c.in-Some.error) c.in-Some.error
    (omega (arith, c.args.ropes.now.ok.0)) c.index.ensures (omega (arith, c.args.ropes.now.ok.0))
    c.index-2.ensures
    (sym c.in-Some.is ∙ c.append_error.ensures.error) refl

pub returns-in-Ok : goal.returns-in-Ok
returns-in-Ok c =
    let old = c.args.ropes.now.items in
    let rope = c.index_mut.result.now in
    let clone = c.in-Ok.clone in
    let at_rope : c.args.rope < length old = omega (arith, c.args.ropes.now.ok.0) in
    let at_other : c.args.other < length old = omega (arith, c.args.ropes.now.ok.0) in
    let same : clone ≡ c.index-3.result.now = c.in-Ok.ensures.cases in
    let read : clone ≡ get_or old c.args.other clone = same ∙ c.index-3.ensures
    ∙ ap (get_or old c.args.other) (sym same) in
    rw c.reply_to_edit.ensures
    (join_of c.append.result old c.args.rope c.args.other rope clone c.append.new.self at_rope
    c.index_mut.ensures.value at_other read
    c.append.ensures.ok c.append.ensures.refused c.append.ensures.kept.0
    c.append.ensures.empty_other c.append.ensures.empty_self
    (subst IsRope (same_place old c.args.rope c.index.result.now rope at_rope c.index.ensures
    c.index_mut.ensures.value) c.append_error.ensures.kept)
    (subst IsRope (same_place old c.args.other c.index-2.result.now clone at_other c.index-2.ensures
    read) c.append_error.ensures.other)
    c.append.ensures.kept.1 c.append.ensures.kept.2)

pub returns-in-Err : goal.returns-in-Err
returns-in-Err c =
    unjoined_of c.args.ropes.now.items c.args.rope c.args.other c.index.result.now
    c.index-2.result.now None OutOfMemory
    (omega (arith, c.args.ropes.now.ok.0)) c.index.ensures (omega (arith, c.args.ropes.now.ok.0))
    c.index-2.ensures
    (sym c.in_default.is ∙ c.append_error.ensures.error) refl
