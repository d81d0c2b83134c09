-- A `&Sole` in one thread holds a `&` to the value.
use Rattle.std.proofs.Common.{[], ◌++◌}
use base.Fraction.{full_share}
use base.Fml.{fsep, Incl-trans}
use denote.RattleType.{RattleType}
use denote.RawPtr.{lies_at}
use denote.Sharing.{said}
use denote.SharingLaws.{said_shr_laws, beside_shr_laws}
use denote.Shares.{Shares-less}
use denote.Param.Laws.{Laws}
use denote.Param.Shared.{copy_shared}
use denote.Struct.Field.{RawPtr-field}
use denote.Struct.Laws.{RawPtr-copy}
use denote.Struct.Lending.{lent_at, lent_at_shr_laws, Lends-lies, Lends-first, Lends-both, Lends-said, of_Lends}
use contract.BorrowLft.{meet_⊑_left}
use Rattle.std.specs.Arc.Ownership.{ptr_in_block}
use Rattle.rope_shared.specs.Local.Owning.{value_of, counts_one, frees_block}
use Rattle.rope_shared.specs.contracts.local.sole.Sole as S
use Rattle.rope_shared.proofs.local.sole.Sole.TheLaw.Statement.{statement}

pub shares : (T : RattleType) (L : Laws T) → statement T L
shares T L = of_Lends (S.struct T) (S.the_codes T.Denot T.coded) (S.the_heap T) (S.the_lent T)
    (λ d p. beside_shr_laws (said (ptr_in_block d.ptr)) (lent_at T (value_of T d.ptr) d.value)
    (said_shr_laws (ptr_in_block d.ptr) (λ _. tt)) (lent_at_shr_laws T L.shr_laws (value_of T d.ptr)
    d.value))
    (copy_shared RawPtr-field RawPtr-copy, tt) (λ M 𝓤 𝓛 d p.
    let l = (S.the_row T).lives in let at = value_of T d.ptr in
    let value = lies_at T full_share at d.value in
    let rest = fsep (counts_one d.ptr) (frees_block T d.ptr) in
    Lends-both 𝓛 (ptr_in_block d.ptr) (fsep value rest) (said (ptr_in_block d.ptr)) (lent_at T at
    d.value) l
    (Lends-said 𝓛 (ptr_in_block d.ptr) (λ _. tt) l)
    (Lends-first 𝓛 value rest (lent_at T at d.value) l
    (Lends-lies 𝓛 T l at d.value (Shares-less 𝓛 T T.lives l (Incl-trans (meet_⊑_left (T.lives ++ [])
    _) (meet_⊑_left T.lives [])) (L.shares 𝓛) d.value))))
