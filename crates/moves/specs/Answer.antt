-- What the call that counts moves answers: their sum, or the number of the rule that refuses the header.
use Rattle.std.specs.Prelude.{ℕ, Result}

abbrev pub MovesAnswer : Type 0
MovesAnswer = Result ℕ ℕ
