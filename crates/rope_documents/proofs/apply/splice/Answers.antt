use Rattle.std.proofs.Common.{◌≡◌, ◌+◌, ◌^◌, true, false, inr, length, ap, sym, ◌∙◌, arith, rules}
use Rattle.std.proofs.Common.{ltb}
use Rattle.std.specs.List.{replace_range}
use Rattle.std.specs.Str.{chars}
use Rattle.std.proofs.lemmas.Bool.{le-ltb, lt-ltb}
use Rattle.std.specs.Prelude.{Some, None, if◌then◌else◌}
use Rattle.rope_text.specs.Text.{byte_len}
use Rattle.rope_text.specs.Edit.{inserted, removed}
use Rattle.rope_text.proofs.Walks.{byte_len-chars}
use Rattle.rope_changes.specs.Change.{Change, ops, before, replaced}
use Rattle.rope_changes.specs.Built.{unchanged}
use Rattle.rope_changes.specs.Ops.{run}
use Rattle.rope_changes.proofs.ChangeLaws.{lengths}
use Rattle.rope_changes.proofs.Spliced.{spliced_is}
use Rattle.rope_documents.specs.declared.error.DocumentError.TheVariants.{TooLong}
use Rattle.rope_documents.proofs.Batches.{one_runs, unchanged_before}
use Rattle.rope_documents.proofs.apply.splice.Goals.{Else-is_err-3}
use Rattle.rope_documents.proofs.apply.splice.Goals as goal

pub returns-then-text-len_bytes-clause-error : goal.returns-then-text-len_bytes-clause-error
returns-then-text-len_bytes-clause-error c =
    let big : ltb (byte_len c.args.rope.now.text + byte_len (chars c.args.text.now)) (2 ^ 63)
    ≡ false =
    le-ltb _ _ (omega (
      arith,
      c.if-text-len_bytes.true,
      c.len_bytes.ensures.value,
      byte_len-chars c.args.text.now c.utf8.text,
    )) in
    inr (ap (λ b. if b then None else Some TooLong) big)

pub returns-clause-valid : goal.returns-clause-valid
returns-clause-valid c =
    let small : ltb (byte_len c.args.rope.now.text + byte_len (chars c.args.text.now)) (2 ^ 63)
    ≡ true =
    lt-ltb _ _ (omega (
      arith,
      c.if-text-len_bytes.false,
      c.len_bytes.ensures.value,
      c.len_bytes.ensures.kept.content.fits,
      byte_len-chars c.args.text.now c.utf8.text,
    )) in
    ap (λ b. if b then None else Some TooLong) small

text_is : (c : Else-is_err-3) → c.insert.new.self.text
    ≡ replace_range c.args.rope.now.text c.args.range.start c.args.range.end (chars c.args.text.now)
text_is c =
    let gone : c.remove.new.self.text
    ≡ removed c.args.rope.now.text c.args.range.start c.args.range.end = search rules in
    let new : c.insert.new.self.text
    ≡ inserted c.remove.new.self.text c.args.range.start (chars c.args.text.now) = search rules in
    new ∙ ap (λ t. inserted t c.args.range.start (chars c.args.text.now)) gone
    ∙ spliced_is c.args.rope.now.text c.args.range.start c.args.range.end (chars c.args.text.now)
    c.requires.ordered c.requires.within

made_is : (c : Else-is_err-3) → c.replace.new.self
    ≡ replaced (unchanged (length c.args.rope.now.text))
    c.args.range.start c.args.range.end (chars c.args.text.now)
made_is c =
    let made : c.replace.new.self ≡ replaced c.unchanged-change.result
    c.args.range.start c.args.range.end (chars c.args.text.now) = search rules in
    made
    ∙ ap (λ (x : Change). replaced x c.args.range.start c.args.range.end (chars c.args.text.now))
    c.unchanged-change.ensures.made

len_before_is : (c : Else-is_err-3) → before c.replace.new.self ≡ length c.args.rope.now.text
len_before_is c =
    c.replace.ensures.len_before ∙ ap (λ (x : Change). before x) c.unchanged-change.ensures.made
    ∙ unchanged_before (length c.args.rope.now.text)

applies : (c : Else-is_err-3)
    → run (ops c.replace.new.self) c.args.rope.now.text ≡ c.insert.new.self.text
applies c =
    ap (λ (x : Change). run (ops x) c.args.rope.now.text) (made_is c)
    ∙ one_runs c.args.rope.now.text c.args.range.start c.args.range.end (chars c.args.text.now)
    c.requires.ordered c.requires.within ∙ sym (text_is c)

pub returns-clause-applies : goal.returns-clause-applies
returns-clause-applies c = applies c

pub returns-clause-len_before : goal.returns-clause-len_before
returns-clause-len_before c = len_before_is c

pub returns-clause-len_after : goal.returns-clause-len_after
returns-clause-len_after c =
    sym (lengths (ops c.replace.new.self) c.args.rope.now.text (len_before_is c))
    ∙ ap length (applies c)
