-- What the count of true elements answers: how many there are, or the number of the rule that refuses the page.
use Rattle.std.specs.Prelude.{ℕ, Result}

abbrev pub CountAnswer : Type 0
CountAnswer = Result ℕ ℕ
