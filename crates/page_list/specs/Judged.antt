-- The verdict on a page list beside a header, before any row of it is written.
use Rattle.std.specs.Prelude.{ℕ, List, map, true, ◌≡◌, take, Result, Ok, Err}
use Rattle.wire.specs.declared.Fault.{Fault}
use Rattle.wire.specs.Reading.{Step, found, refused, accepted, rows_of}
use Rattle.rows.specs.declared.ColumnRow.{ColumnRow}
use Rattle.rows.specs.declared.PageRow.{PageRow}
use Rattle.pages.specs.Pages.{elements_of}
use Rattle.totals.specs.Totals.{totals}
use Rattle.column_pages.specs.ColumnPages.{pages_of, payload}
use Rattle.page_list.specs.PageList.{agreed}
use Rattle.page_list.specs.declared.Judged.{Judged}

-- after the payload, by rows of columns, and the parent and the flags of each field: the totals agree with the cluster's entry count
unfoldable pub summed_by : ℕ → List ColumnRow → List ℕ → List ℕ → Step (List (List PageRow)) → Step (List (List PageRow))
summed_by entries columns parents flags (found pss p) = agreed (totals entries columns (map elements_of pss) 0 parents flags) (found pss p)
summed_by entries columns parents flags (refused f) = refused f

-- the payload up to where a verdict says it ends, where the elements of each column have these bits
abbrev pub listed : ℕ → List ℕ → List ℕ → Judged → Step (List (List PageRow))
listed file bits e j = payload file bits j.strict (take j.stop e) 4

-- the pages of each column are these, and so many in all
pub record Stands (file : ℕ) (bits e : List ℕ) (j : Judged) (pss : List (List PageRow)) : Type 0 where
  pub stood : accepted (listed file bits e j) ≡ true
  pub rows_are : rows_of (listed file bits e j) ≡ pss
  pub count : j.pages ≡ pages_of pss

-- a verdict on a page list that was read, or refused
unfoldable pub Judges : ℕ → List ℕ → List ℕ → Step (List (List PageRow)) → Result Judged Fault → Type 0
Judges file bits e (found pss p) (Ok j) = Stands file bits e j pss
Judges file bits e (found pss p) (Err g) = ⊥
Judges file bits e (refused f) (Ok j) = ⊥
Judges file bits e (refused f) (Err g) = g ≡ f
