-- What a column's decoder answers: how many pages it decoded, all of them, or the refusal of one.
use Rattle.std.specs.Prelude.{ℕ, Result}
use Rattle.column_rules.specs.declared.RefusedPage.{RefusedPage}

abbrev pub ColumnAnswer : Type 0
ColumnAnswer = Result ℕ RefusedPage
