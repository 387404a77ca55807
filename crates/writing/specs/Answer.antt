-- What a writer answers: how many bytes it wrote, or a refusal.
use Rattle.std.specs.Prelude.{ℕ, Result}
use Rattle.header.specs.declared.Refusal.{Refusal}

abbrev pub WriteAnswer : Type 0
WriteAnswer = Result ℕ Refusal
