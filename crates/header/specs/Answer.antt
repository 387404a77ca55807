-- What a header's reader answers: what its tables hold, or the number of the rule that refuses it.
use Rattle.std.specs.Prelude.{ℕ, Result}
use Rattle.header.specs.declared.HeaderTables.{HeaderTables}

abbrev pub HeaderAnswer : Type 0
HeaderAnswer = Result HeaderTables ℕ
