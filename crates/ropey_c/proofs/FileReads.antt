-- What a reading of bytes returns is a fault of them.
use Rattle.std.proofs.Common.{ℕ, ◌+◌, ◌-◌, ◌^◌, ◌<◌, ◌≤◌, min, ◌⊎◌, Bool, List, ◌++◌, length, drop, MatchOption, sym, ap, subst, ◌∙◌, inl, inr, Some, Err, refl}
use Rattle.std.proofs.lemmas.Bool.{cases_lt}
use Rattle.std.proofs.lemmas.List.{append-nil}
use Rattle.rope_text.specs.declared.error.Error.TheVariants as rope_error
use Rattle.rope_text.specs.Edit.{IsRefusal}
use Rattle.rope_text.specs.Text.{byte_len}
use Rattle.rope_files.specs.Encodings.{mark_of, encode_unmarked}
use Rattle.rope_files.specs.Layouts.{IsUnpaired, EndsHalf, EndsUnpaired}
use Rattle.rope_files.specs.Reading.{ReadsAny, text_read}
use Rattle.rope_files.specs.declared.encoding.Encoding.{Encoding}
use Rattle.rope_files.specs.declared.error.ReadAnyError.TheVariants as any
use Rattle.rope_text.proofs.EditLaws.{size_error-none}
use Rattle.rope_files.proofs.Unpaired.{unpaired_before}
use Rattle.ropey_c.specs.Files.{IsFault}
use Rattle.ropey_c.specs.declared.encodings.Fault.TheVariants.{UnpairedSurrogate, HalfCodeUnit, TooLong}
use Rattle.ropey_c.proofs.FileFaults.{before_fault, from_fault}

module _ (e : Encoding) (bytes left : List ℕ) (failed : Bool) (fits : length bytes < 2 ^ 64) where
  pub unpaired : (at : ℕ)
      → ReadsAny text_read (Some e) (Some bytes) (Some left) failed (Err (any.UnpairedSurrogate at))
      → IsFault e bytes (UnpairedSurrogate at)
  unpaired at r = subst (λ x. IsFault x bytes (UnpairedSurrogate at)) r.1 (elim r.3 [
    | inl head ↦ absurd head.2
    | inr body ↦
        let a = body.2.2.2 in
        let from = from_fault r.0 bytes body.2.0 left body.2.2.0 body.0 a.1 a.2 at body.2.1
        body.2.2.1 a.3.whole fits a.4 in
        let before = before_fault r.0 bytes body.2.0 left body.2.2.0 body.0 a.1 a.2 at body.2.1
        body.2.2.1 a.3.whole fits a.4 in (
          (a.1, a.3.scalars, before),
          subst (λ o. MatchOption o ⊥ (λ l. IsUnpaired l (drop at bytes)
              ⊎ EndsUnpaired l (drop at bytes))) (sym a.6) (elim a.7 [
                | inl lone ↦ inl (subst (IsUnpaired a.5) (sym from)
                    (unpaired_before a.5 a.2 (body.0 ++ left) lone))
                | inr ends ↦ inr (subst (EndsUnpaired a.5)
                    (sym (from ∙ ap (λ xs. a.2 ++ xs) ends.1 ∙ append-nil a.2)) ends.0)
              ]),
        )
  ])

  pub half : (at : ℕ)
      → ReadsAny text_read (Some e) (Some bytes) (Some left) failed (Err (any.HalfCodeUnit at))
      → IsFault e bytes (HalfCodeUnit at)
  half at r = subst (λ x. IsFault x bytes (HalfCodeUnit at)) r.1 (elim r.3 [
    | inl head ↦ absurd head.2
    | inr body ↦
        let a = body.2.2.2 in
        let from = from_fault r.0 bytes body.2.0 left body.2.2.0 body.0 a.1 a.2 at body.2.1
        body.2.2.1 a.3.whole fits a.4 in
        let before = before_fault r.0 bytes body.2.0 left body.2.2.0 body.0 a.1 a.2 at body.2.1
        body.2.2.1 a.3.whole fits a.4 in (
          (a.1, a.3.scalars, before),
          subst (λ o. MatchOption o ⊥ (λ l. EndsHalf l (drop at bytes))) (sym a.6)
              (subst (EndsHalf a.5)
              (sym (from ∙ ap (λ xs. a.2 ++ xs) a.8 ∙ append-nil a.2)) a.7),
        )
  ])

  pub too_long : ReadsAny text_read (Some e) (Some bytes) (Some left) failed
      (Err (any.Rope rope_error.TooLong)) → IsFault e bytes TooLong
  too_long r = subst (λ x. IsFault x bytes TooLong) r.1 (elim r.3 [
    | inl head ↦ absurd head.2
    | inr body ↦
        let a = body.2.2.2 in
        let at : ℕ = min (length (mark_of r.0) + length (encode_unmarked r.0 a.1)) (2 ^ 64 - 1) in
        let before = before_fault r.0 bytes body.2.0 left body.2.2.0 body.0 a.1 a.2 at body.2.1
        body.2.2.1 a.3.whole fits refl in
        let long : 2 ^ 63 ≤ byte_len a.1 = elim (cases_lt (byte_len a.1) (2 ^ 63)) [
          | inl small ↦
              let same = subst (λ o. IsRefusal o rope_error.TooLong)
              (size_error-none (byte_len a.1) small) a.4 in cc
          | inr big ↦ big
        ] in (at, a.1, a.3.scalars, before, long)
  ])
