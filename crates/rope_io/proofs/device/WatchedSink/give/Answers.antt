use Rattle.std.proofs.Common.{refl}
use Rattle.rope_io.proofs.device.WatchedSink.give.Goals as goal

pub returns-in-Ok-eq0-clause-bound : goal.returns-in-Ok-eq0-clause-bound
returns-in-Ok-eq0-clause-bound g c = c.write-given.ensures.bound

pub returns-in-Ok-eq0-clause-bytes : goal.returns-in-Ok-eq0-clause-bytes
returns-in-Ok-eq0-clause-bytes g c = rw c.fail.ensures.inner c.write-given.ensures.bytes

pub returns-in-Ok-eq0-clause-none : goal.returns-in-Ok-eq0-clause-none
returns-in-Ok-eq0-clause-none g c = rw c.in-Ok-eq0.is (λ _ _. c.fail.ensures.failed)

pub returns-in-Ok-eq0-clause-err : goal.returns-in-Ok-eq0-clause-err
returns-in-Ok-eq0-clause-err g c = rw c.in-Ok-eq0.is tt

pub returns-in-Ok-clause-bound : goal.returns-in-Ok-clause-bound
returns-in-Ok-clause-bound g c = c.write-given.ensures.bound

pub returns-in-Ok-clause-bytes : goal.returns-in-Ok-clause-bytes
returns-in-Ok-clause-bytes g c = c.write-given.ensures.bytes

pub returns-in-Ok-clause-ok : goal.returns-in-Ok-clause-ok
returns-in-Ok-clause-ok g c = rw c.in-Ok.is (λ _. refl)

pub returns-in-Ok-clause-err : goal.returns-in-Ok-clause-err
returns-in-Ok-clause-err g c = rw c.in-Ok.is tt

pub returns-in-Err-clause-bound : goal.returns-in-Err-clause-bound
returns-in-Err-clause-bound g c = c.write-given.ensures.bound

pub returns-in-Err-clause-bytes : goal.returns-in-Err-clause-bytes
returns-in-Err-clause-bytes g c = rw c.fail-in-Err.ensures.inner c.write-given.ensures.bytes

pub returns-in-Err-clause-ok : goal.returns-in-Err-clause-ok
returns-in-Err-clause-ok g c = rw c.in-Err.is tt

pub returns-in-Err-clause-none : goal.returns-in-Err-clause-none
returns-in-Err-clause-none g c = rw c.in-Err.is tt

pub returns-in-Err-clause-err : goal.returns-in-Err-clause-err
returns-in-Err-clause-err g c = rw c.in-Err.is c.fail-in-Err.ensures.failed

pub returns-in-Err-clause-failure : goal.returns-in-Err-clause-failure
returns-in-Err-clause-failure g c = rw c.in-Err.is c.fail-in-Err.ensures.failure

pub returns-in-Err-clause-failures : goal.returns-in-Err-clause-failures
returns-in-Err-clause-failures g c = rw c.in-Err.is c.fail-in-Err.ensures.failures
