use Rattle.std.proofs.Common.{rules}
use Rattle.rope_history.proofs.history.History.check_len.Goals as goal

pub returns-then-len-expected-clause-differs : goal.returns-then-len-expected-clause-differs
returns-then-len-expected-clause-differs c = search rules
