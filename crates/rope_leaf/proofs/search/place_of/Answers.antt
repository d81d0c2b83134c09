use Rattle.std.proofs.Common.{◌≡◌, ◌+◌, ◌-◌, ◌/◌, get_or, inl, inr, ap, refl, sym, subst, ◌∙◌, arith}
use Rattle.std.proofs.lemmas.Bool.Decides.{leb_tells}
use Rattle.rope_text.specs.declared.text_info.TextInfo.{TextInfo}
use Rattle.rope_leaf.specs.Search.{count_of, IsSmall}
use Rattle.rope_leaf.proofs.Halving.{passed, stopped}
use Rattle.rope_leaf.proofs.search.place_of.Goals.{After-from}
use Rattle.rope_leaf.proofs.search.place_of.Goals as goal

none : TextInfo
none = record { chars = 0; utf16_surrogates = 0; break_count = 0; bytes = 0 }

pub count-requires : goal.count-requires
count-requires c =
    subst IsSmall (sym (c.get.ensures c.get.result))
    (c.requires.small _ c.get.result (omega (arith, c.if-base-half.true, c.len.ensures)))

told : (c : After-from) → c.count.result
    ≡ count_of c.args.unit (get_or c.args.totals.now (c.loop-room.base + c.loop-room.room / 2 - 1)
    none)
told c = c.count.ensures ∙ ap (count_of c.args.unit) (c.get.ensures none)

pub loop-room-preserved-then-base-half : goal.loop-room-preserved-then-base-half
loop-room-preserved-then-base-half c =
    elim (leb_tells c.count.result c.args.at) [
      | inl y ↦
          let moved : c.from.result ≡ 1 = rw y.0 at c.from.ensures in
          passed _ _ _ _ _ _ _ _ _ c.loop-room.invariant c.loop-room-test.true
          (rw c.len.ensures at c.if-base-half.true) _ refl refl refl (rw moved (omega arith))
          (rw (told c) at y.1)
      | inr n ↦
          let moved : c.from.result ≡ 0 = rw n.0 at c.from.ensures in
          stopped _ _ _ _ _ _ _ _ _ c.loop-room.invariant c.loop-room-test.true
          (rw c.len.ensures at c.if-base-half.true) _ refl refl refl (rw moved (omega arith))
          (rw (told c) at n.1)
    ]
