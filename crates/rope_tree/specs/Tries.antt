-- Results of edits that may not apply.
use Rattle.std.specs.Prelude.{◌≡◌, Bool, true, false, Result, IfOk, OnErr}

-- it was done, and P holds; or it was not done, or was refused, which means that an allocation
-- failed, and nothing has changed
pub record IsTried {E A : Type 0} (result : Result Bool E) (old new : A) (P : Type 0) : Type 0 where
  pub done : IfOk result (λ did. did ≡ true → P)
  pub kept : IfOk result (λ did. did ≡ false → new ≡ old)
  pub err : OnErr result (new ≡ old)
