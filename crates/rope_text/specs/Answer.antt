-- The result of a call that may refuse its arguments.
use Rattle.std.specs.Prelude.{Option, Some, None, Result, Ok, Err}
use Rattle.rope_text.specs.declared.error.Error.{Error}

-- the error, if there is one, else the value
abbrev pub checked : {A : Type 0} → Option Error → A → Result A Error
checked None value = Ok value
checked (Some error) value = Err error
