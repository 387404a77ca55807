-- What a page's decoder or encoder answers: how many elements or bytes it wrote, or the number of the rule that refuses the page.
use Rattle.std.specs.Prelude.{ℕ, Result}

abbrev pub PageAnswer : Type 0
PageAnswer = Result ℕ ℕ
