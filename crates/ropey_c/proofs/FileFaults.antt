-- Where the faults of files are.
use Rattle.std.proofs.Common.{◌≡◌, ℕ, ◌+◌, ◌-◌, ◌^◌, ◌<◌, min, List, ◌++◌, length, take, drop, sym, ap, ◌∙◌, append_assoc, arith}
use Rattle.std.proofs.Math.Seq.{take-append_seam, drop-append_seam}
use Rattle.std.proofs.lemmas.List.{length-append}
use Rattle.rope_files.specs.Encodings.{encode, mark_of, encode_unmarked}
use Rattle.rope_files.specs.declared.encoding.Encoding.{Encoding}

-- what was given of a file is the file of a text and the bytes after it, up to those held
module _ (e : Encoding) (bytes all left given held text rest : List ℕ) (at : ℕ)
    (whole : bytes ≡ all ++ left) (marked : all ≡ mark_of e ++ (given ++ held))
    (follow : given ≡ encode_unmarked e text ++ rest) (fits : length bytes < 2 ^ 64)
    (offset : at ≡ min (length (mark_of e) + length (encode_unmarked e text)) (2 ^ 64 - 1)) where
  file_is : bytes ≡ encode e text ++ (rest ++ (held ++ left))
  file_is = whole ∙ ap (λ xs. xs ++ left) (marked
      ∙ ap (λ xs. mark_of e ++ (xs ++ held)) follow
      ∙ ap (λ xs. mark_of e ++ xs) (append_assoc (encode_unmarked e text) rest held)
      ∙ sym (append_assoc (mark_of e) (encode_unmarked e text) (rest ++ held)))
      ∙ append_assoc (encode e text) (rest ++ held) left
      ∙ ap (λ xs. encode e text ++ xs) (append_assoc rest held left)

  at_is : at ≡ length (encode e text)
  at_is = omega (
    arith,
    offset,
    length-append (mark_of e) (encode_unmarked e text),
    ap length file_is,
    length-append (encode e text) (rest ++ (held ++ left)),
    fits,
  )

  pub before_fault : take at bytes ≡ encode e text
  before_fault = ap (λ n. take n bytes) at_is ∙ ap (take (length (encode e text))) file_is
      ∙ take-append_seam (encode e text) (rest ++ (held ++ left))

  pub from_fault : drop at bytes ≡ rest ++ (held ++ left)
  from_fault = ap (λ n. drop n bytes) at_is ∙ ap (drop (length (encode e text))) file_is
      ∙ drop-append_seam (encode e text) (rest ++ (held ++ left))
