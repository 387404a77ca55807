-- What the call that sums up a page list answers: how many columns there are, or a refusal.
use Rattle.std.specs.Prelude.{ℕ, Result}
use Rattle.header.specs.declared.Refusal.{Refusal}

abbrev pub FiguresAnswer : Type 0
FiguresAnswer = Result ℕ Refusal
