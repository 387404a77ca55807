-- What the call that lists fields answers: how many bytes it wrote, or the number of the rule that refuses the header.
use Rattle.std.specs.Prelude.{ℕ, Result}

abbrev pub ListAnswer : Type 0
ListAnswer = Result ℕ ℕ
