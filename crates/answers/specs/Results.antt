-- The words of a result that are not its counts alone.
use Rattle.std.specs.Prelude.{ℕ, List, ◌∷◌}
use Rattle.outcome.specs.Outcome.{Outcome}
use Rattle.records.specs.declared.HeaderTexts.{HeaderTexts}

-- a header's: the places and lengths of name and description, then the counts
abbrev pub header_result : HeaderTexts → Outcome → List ℕ
header_result t o = t.name.place ∷ t.name.len ∷ t.description.place ∷ t.description.len ∷ o.counts
