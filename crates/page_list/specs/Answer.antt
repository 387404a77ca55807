-- What a page list's reader answers: how many pages there are, or a refusal.
use Rattle.std.specs.Prelude.{ℕ, Result}
use Rattle.header.specs.declared.Refusal.{Refusal}

abbrev pub PageListAnswer : Type 0
PageListAnswer = Result ℕ Refusal
