use Rattle.std.proofs.Common.{◌≡◌, ◌-◌, ◌+◌, ◌<◌, ◌≤◌, ◌^◌, ◌++◌, List, [], ℕ, length, get_or, set, ap, sym, ◌∙◌, subst, arith, rules}
use Rattle.std.specs.Str.{chars}
use Rattle.std.specs.String.{string_bytes}
use Rattle.rope_changes.specs.Change.{Edit, appended}
use Rattle.rope_changes.specs.Packed.{edits_of, AreCounted, AreLengthsOf}
use Rattle.rope_changes.specs.declared.replacements.Lengths.{Lengths}
use Rattle.rope_changes.proofs.Lasts.{last_room}
use Rattle.rope_changes.proofs.Parts.{grown, edits_grown, counted_grown, last_bytes, count_edits, each_length}
use Rattle.rope_changes.proofs.replacements.Replacements.extend.Goals.{After-index-last}
use Rattle.rope_changes.proofs.replacements.Replacements.extend.Goals as goal

-- any replacement, for an index that is never read
abbrev edit : Edit
edit = record { kept = 0; text = []; deleted = 0 }

module _ (c : After-index-last) where
  abbrev old : List Lengths
  old = c.self.inside.lengths.items

  abbrev bytes : List ℕ
  bytes = string_bytes c.self.inside.text

  abbrev last : Lengths
  last = c.index-last.result.now

  abbrev index : ℕ
  index = c.len-index.result - 1

  some : 1 ≤ length old
  some = omega (arith, c.requires.some, ap length c.self.view_is, count_edits old bytes)

  at : index ≡ length old - 1
  at = let n : c.len-index.result ≡ length old = search rules in omega arith

  edits_at : index ≡ length c.args.self.now - 1
  edits_at = omega (arith, at, ap length c.self.view_is, count_edits old bytes)

  counts : AreLengthsOf (get_or (edits_of old bytes) index edit) (get_or old index last)
  counts = each_length old bytes c.self.invariant index edit last (omega (arith, some, at))

  last_is : last ≡ get_or old index last
  last_is = c.index-last.ensures

  room : (length (get_or c.args.self.now index edit).text + c.args.inserted < 2 ^ 64)
      × ((get_or c.args.self.now index edit).deleted + c.args.deleted < 2 ^ 64)
  room =
      last_room c.args.self.now index c.args.inserted c.args.deleted edit c.requires.some
      edits_at c.requires.fits

  same : get_or (edits_of old bytes) index edit ≡ get_or c.args.self.now index edit
  same = ap (λ (es : List Edit). get_or es index edit) c.self.view_is

  inserted_fits : last.inserted + c.args.inserted < 2 ^ 64
  inserted_fits = omega (
    arith,
    room.0,
    counts.inserted,
    ap (λ (l : Lengths). l.inserted) last_is,
    ap (λ (e : Edit). length e.text) same,
  )

  deleted_fits : last.deleted + c.args.deleted < 2 ^ 64
  deleted_fits = omega (
    arith,
    room.1,
    counts.deleted,
    ap (λ (l : Lengths). l.deleted) last_is,
    ap (λ (e : Edit). e.deleted) same,
  )

  text_is : string_bytes c.push_str.new.self ≡ bytes ++ c.args.text.now
  text_is = search rules

  abbrev new : Lengths
  new = grown c.args.text.now c.args.inserted c.args.deleted c.utf8.text c.requires.counted last

pub overflow_add-last : goal.overflow_add-last
overflow_add-last c =
    omega (arith, inserted_fits (goal.at.overflow_add-last c).After-index-last)

pub overflow_add-last-2 : goal.overflow_add-last-2
overflow_add-last-2 c =
    omega (arith, deleted_fits (goal.at.overflow_add-last-2 c).After-index-last)

pub overflow_add-last-3 : goal.overflow_add-last-3
overflow_add-last-3 c =
    let w = (goal.at.overflow_add-last-3 c).After-index-last in
    let h = c.push_str.type_inv in
    omega (
      arith,
      last_bytes (old w) (bytes w) (index w) (last w) c.self.invariant
          (omega (arith, some w, at w)),
      ap (λ (l : Lengths). l.bytes) (last_is w),
      ap length (text_is w),
    )

pub invariant_of-self-2 : goal.invariant_of-self-2
invariant_of-self-2 c =
    let w = (goal.at.invariant_of-self-2 c).After-index-last in
    subst (AreCounted (set (old w) (index w) (new w))) (sym (text_is w))
    (counted_grown c.args.text.now c.args.inserted c.args.deleted c.utf8.text c.requires.counted
    (old w) (bytes w) (index w) (new w) (last w) (some w) (at w) c.self.invariant
    (ap (grown c.args.text.now c.args.inserted c.args.deleted c.utf8.text c.requires.counted)
    (last_is w)))

pub returns-clause-ok : goal.returns-clause-ok
returns-clause-ok c =
    let w = (goal.at.returns-clause-ok c).After-index-last in
    ap (edits_of (set (old w) (index w) (new w))) (text_is w)
    ∙ edits_grown c.args.text.now c.args.inserted c.args.deleted c.utf8.text c.requires.counted
    (old w) (bytes w) (index w) (new w) (last w) (some w) (at w) c.self.invariant
    (ap (grown c.args.text.now c.args.inserted c.args.deleted c.utf8.text c.requires.counted)
    (last_is w))
    ∙ ap (λ es. appended es 0 (chars c.args.text.now) c.args.deleted) c.self.view_is
