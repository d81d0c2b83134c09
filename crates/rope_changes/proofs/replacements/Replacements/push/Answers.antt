use Rattle.std.proofs.Common.{◌≡◌, ◌++◌, ◌∷◌, [], List, ℕ, length, refl, ap, sym, ◌∙◌, subst, rules}
use Rattle.std.specs.Str.{chars}
use Rattle.std.specs.String.{string_bytes}
use Rattle.rope_changes.specs.Change.{Edit}
use Rattle.rope_changes.specs.Packed.{edits_of, AreCounted}
use Rattle.rope_changes.specs.declared.replacements.Lengths.{Lengths}
use Rattle.rope_changes.proofs.Parts.{edits_pushed, counted_pushed, begins_whole}
use Rattle.rope_changes.proofs.replacements.Replacements.push.Goals.{Else-is_err-3}
use Rattle.rope_changes.proofs.replacements.Replacements.push.Goals as goal

abbrev added : Else-is_err-3 → Lengths
added c = record {
  kept = c.args.kept;
  inserted = c.args.inserted;
  deleted = c.args.deleted;
  bytes = length c.args.text.now;
}

lengths_are : (c : Else-is_err-3) → c.push.new.self.items
    ≡ c.self.inside.lengths.items ++ added c ∷ []
lengths_are c = search rules

text_is : (c : Else-is_err-3) → string_bytes c.push_str.new.self
    ≡ string_bytes c.self.inside.text ++ c.args.text.now
text_is c = search rules

pub invariant_of-self-2 : goal.invariant_of-self-2
invariant_of-self-2 c =
    let old = c.self.inside.lengths.items in
    let bytes = string_bytes c.self.inside.text in
    let more = c.args.text.now in
    subst (λ (ls : List Lengths). AreCounted ls (string_bytes c.push_str.new.self))
    (sym (lengths_are c))
    (subst (λ (t : List ℕ). AreCounted (old ++ added c ∷ []) t) (sym (text_is c))
    (counted_pushed (added c) more refl old bytes c.self.invariant
    (begins_whole more (length more) c.args.inserted c.utf8.text refl c.requires.counted)))

pub returns-clause-ok : goal.returns-clause-ok
returns-clause-ok c =
    let old = c.self.inside.lengths.items in
    let bytes = string_bytes c.self.inside.text in
    let more = c.args.text.now in
    let e : Edit = record { kept = c.args.kept; text = chars more; deleted = c.args.deleted } in
    ap (λ ls. edits_of ls (string_bytes c.push_str.new.self)) (lengths_are c)
    ∙ ap (edits_of (old ++ added c ∷ [])) (text_is c)
    ∙ edits_pushed (added c) more refl old bytes c.self.invariant
    ∙ ap (λ es. es ++ e ∷ []) c.self.view_is
