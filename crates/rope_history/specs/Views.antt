-- What a history shows.
use Rattle.rope_history.specs.declared.history.History.TheInside.{Inside}
use Rattle.rope_history.specs.Versions.{Versions, IsHistory}

abbrev pub history_of : Inside → Versions
history_of a = record { versions = a.versions.items; redo = a.redo.items; current = a.current }

abbrev pub KeepsHistory : Inside → Type 0
KeepsHistory a = IsHistory (history_of a)
