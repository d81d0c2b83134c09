-- The next edit of a list that C gives, and the next replacement that is read back.
use Rattle.std.proofs.Common.{◌≡◌, ℕ, suc, ◌+◌, ◌-◌, ◌<◌, ◌≤◌, List, [], ◌∷◌, ◌++◌, length, get_or, take, drop, map, slice_set, refl, ap, sym, subst, ◌∙◌, arith, append_assoc, inl, inr}
use Rattle.std.proofs.Math.Seq.{take-nil}
use Rattle.std.specs.Str.{chars, encode_utf8_all}
use Rattle.std.proofs.lemmas.List.{drop_more, drop_all, length-set, drop-set-lt, drop-drop, take_more_set, map-append, take_all, append-nil}
use Rattle.rope_changes.specs.Change as change
use Rattle.rope_changes.specs.Change.{Change, replaced}
use Rattle.rope_changes.specs.Built.{built}
use Rattle.rope_changes.specs.Listed.{Remaining, IsNext}
use Rattle.rope_changes.specs.declared.EditRange.{EditRange}
use Rattle.std.specs.Prelude.{None}
use Rattle.ropey_c.specs.Status.{IsStatus}
use Rattle.ropey_c.specs.ChangeStatus.{IsReplaceStatus}
use Rattle.ropey_c.specs.ChangeEdits.{edit_of, IsEditsStatus, Listed, Lists, listed, shown_of}
use Rattle.ropey_c.specs.declared.status.TheConstants.{OK}
use Rattle.ropey_c.specs.declared.change_edits.GivenEdit.{GivenEdit}
use Rattle.ropey_c.specs.declared.change_edits.Replacement.{Replacement}

-- where all edits are made, a later call decides the status
pub later_status : (c : Change) (edits : List GivenEdit) (status : ℕ) → IsStatus None status →
    IsEditsStatus c edits OK → IsEditsStatus c edits status
later_status c [] status is made = is
later_status c (e ∷ edits) status is made = elim made [
  | inl refused ↦ absurd (omega (arith, refused.0))
  | inr fine ↦ inr (
    fine.0,
    later_status (replaced c e.start e.end (chars e.text.now)) edits status
        is fine.1,
  )
]

module _ (c : Change) (edits : List GivenEdit) (k : ℕ) (d : GivenEdit) (below : k < length edits)
  where
    abbrev next : GivenEdit
    next = get_or edits k d

    abbrev made : Change
    made = replaced c next.start next.end (chars next.text.now)

    module _ (new : Change) (is : new ≡ made) where
      pub given_next : built c (map edit_of (drop k edits)) ≡ built new
          (map edit_of (drop (k + 1) edits))
      given_next = ap (λ es. built c (map edit_of es)) (drop_more edits k d below)
          ∙ ap (λ (x : Change). built x (map edit_of (drop (k + 1) edits))) (sym is)

      pub status_next : (status : ℕ) → IsReplaceStatus c next.start next.end next.text.now OK
          → IsEditsStatus new (drop (k + 1) edits) status → IsEditsStatus c (drop k edits) status
      status_next status fine rest =
          let others : IsEditsStatus made (drop (k + 1) edits) status =
          subst (λ (x : Change). IsEditsStatus x (drop (k + 1) edits) status) is rest in
          let whole : IsEditsStatus c (next ∷ drop (k + 1) edits) status = inr (fine, others) in
          subst (λ es. IsEditsStatus c es status) (sym (drop_more edits k d below)) whole

    pub status_here : (status : ℕ) → 0 < status
        → IsReplaceStatus c next.start next.end next.text.now status
        → IsEditsStatus c (drop k edits) status
    status_here status refused is =
        let whole : IsEditsStatus c (next ∷ drop (k + 1) edits) status = inl (refused, is) in
        subst (λ es. IsEditsStatus c es status) (sym (drop_more edits k d below)) whole

-- a replacement that a cursor gave
abbrev pub shown_edit : EditRange → Listed
shown_edit e = record {
  start = e.start;
  end = e.end;
  new_start = e.new_start;
  new_end = e.new_end;
  bytes = encode_utf8_all (chars e.text.now);
}

pub next_listed : (old : Remaining) (e : EditRange) (new : Remaining) → IsNext old e new
    → listed old.end old.new_end old.edits ≡ shown_edit e ∷ listed new.end new.new_end new.edits
next_listed old e new n =
    let start : old.end + (e.start - old.end) ≡ e.start = omega (arith, n.starts) in
    let end : old.end + (e.start - old.end) + (e.end - e.start) ≡ e.end =
    omega (arith, n.starts, n.ordered) in
    let last : e.end ≡ new.end = sym n.end_is in
    let new_last : e.new_end ≡ new.new_end = sym n.new_end_is in
    let new_start : old.new_end + (e.start - old.end) ≡ e.new_start = sym n.new_start in
    let new_end : old.new_end + (e.start - old.end) + length (chars e.text.now) ≡ e.new_end =
    omega (arith, n.new_start, n.new_end) in
    let whole = ap (listed old.end old.new_end) n.edits in
    whole ∙ cc

-- some replacements are left, and those before them have been written as far as there is room
pub record IsListing (edits left : List change.Edit) (end new_end : ℕ) (old now : List Replacement)
    (count : ℕ) : Type 0 where
  pub counted : count + length left ≡ length edits
  pub written : map shown_of (take count now) ++ take (length old - count) (listed end new_end left)
      ≡ take (length old) (listed 0 0 edits)
  pub kept : drop count now ≡ drop count old
  pub room : length now ≡ length old

pub listing_begins : (edits : List change.Edit) (old : List Replacement) →
    IsListing edits edits 0 0 old old 0
listing_begins edits old = record {
  counted = omega arith;
  written = ap (λ n. take n (listed 0 0 edits)) (omega arith);
  kept = refl;
  room = refl;
}

module _ (edits left left' : List change.Edit) (end new_end end' new_end' : ℕ)
    (old now : List Replacement) (count : ℕ)
    (i : IsListing edits left end new_end old now count) (shown : Listed)
    (splits : listed end new_end left ≡ shown ∷ listed end' new_end' left')
    (one : length left ≡ suc (length left')) where
  pub next_written : (r : Replacement) → shown_of r ≡ shown → count < length now
      → IsListing edits left' end' new_end' old (slice_set now count r) (count + 1)
  next_written r is in_room =
      let more : take (count + 1) (slice_set now count r) ≡ take count now ++ r ∷ [] =
      take_more_set now count r in_room in
      let front : map shown_of (take (count + 1) (slice_set now count r)) ≡ map shown_of
      (take count now) ++ shown ∷ [] =
      ap (map shown_of) more ∙ map-append shown_of (take count now) (r ∷ []) ∙
      ap (λ s. map shown_of (take count now) ++ s ∷ []) is in
      let left_room : length old - count ≡ suc (length old - (count + 1)) =
      omega (arith, in_room, i.room) in
      let back : take (length old - count) (listed end new_end left) ≡ shown ∷ take
      (length old - (count + 1)) (listed end' new_end' left') =
      ap (λ n. take n (listed end new_end left)) left_room ∙
      ap (take (suc (length old - (count + 1)))) splits in
      record {
        counted = omega (arith, i.counted, one);
        written = ap (λ s. s ++ take (length old - (count + 1)) (listed end' new_end' left')) front
            ∙ append_assoc (map shown_of (take count now)) (shown ∷ [])
            (take (length old - (count + 1)) (listed end' new_end' left'))
            ∙ ap (λ s. map shown_of (take count now) ++ s) (sym back) ∙ i.written;
        kept = drop-set-lt (count + 1) now count r (omega arith) ∙ sym (drop-drop 1 count now) ∙
            ap (drop 1) i.kept ∙ drop-drop 1 count old;
        room = length-set now count r ∙ i.room;
      }

-- the replacements are written once there is no room, or none is left
module _ (edits left : List change.Edit) (end new_end : ℕ) (old now : List Replacement)
    (at count : ℕ) (i : IsListing edits left end new_end old now at) (all : count ≡ length edits)
  where
    pub listing_full : length now ≤ at → Lists edits old now count
    listing_full full =
        let none : length old - at ≡ 0 = omega (arith, full, i.room) in
        let past : length now ≤ count = omega (arith, full, i.counted, all) in
        record {
          count_is = all;
          written = ap (map shown_of) (take_all count now past ∙ sym (take_all at now full))
              ∙ sym (append-nil (map shown_of (take at now)))
              ∙ sym (ap (λ n. map shown_of (take at now) ++ take n (listed end new_end left)) none)
              ∙ i.written;
          kept = drop_all count now past
              ∙ sym (drop_all count old (omega (arith, past, i.room)));
          room = i.room;
        }

    pub listing_done : left ≡ [] → Lists edits old now count
    listing_done none =
        let same : count ≡ at = omega (arith, i.counted, all, ap length none) in
        record {
          count_is = all;
          written = ap (λ n. map shown_of (take n now)) same
              ∙ sym (append-nil (map shown_of (take at now)))
              ∙ ap (λ s. map shown_of (take at now) ++ s) (sym (take-nil (length old - at)))
              ∙ sym (ap (λ es. map shown_of (take at now)
              ++ take (length old - at) (listed end new_end es)) none)
              ∙ i.written;
          kept = ap (λ n. drop n now) same ∙ i.kept ∙ sym (ap (λ n. drop n old) same);
          room = i.room;
        }
