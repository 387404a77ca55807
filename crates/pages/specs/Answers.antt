-- What the code's answers say, as steps of a rule.
use Rattle.std.specs.Prelude.{ℕ, ◌^◌, ◌<◌, List, length, Result, Ok, Err}
use Rattle.wire.specs.declared.Fault.{Fault}
use Rattle.pages.specs.Pages.{elements_of}
use Rattle.rows.specs.declared.PageRow.{PageRow}
use Rattle.pages.specs.declared.Tally.{Tally}

-- a page that is found has a number of elements of 30 bits
abbrev pub FewElements : Result (PageRow × ℕ) Fault → Type 0
FewElements (Ok (a, p)) = a.elements < 2 ^ 30
FewElements (Err f) = Unit {0}

-- how many pages there are, and how many elements they have
abbrev pub tally_of : List PageRow → Tally
tally_of ps = record { pages = length ps; elements = elements_of ps }
