-- What the passes over pages answer: the number of a refusal, and the elements that were counted where there is none.
use Rattle.std.specs.Prelude.{ℕ, List, map, ◌≡◌, replicate}
use Rattle.numbers.specs.Rows.{over}
use Rattle.rows.specs.Words.{most_columns}
use Rattle.pages.specs.Pages.{elements_of}
use Rattle.writing.specs.PageList.{page_says}
use Rattle.writing.specs.declared.PageWords.{PageWords}
use Rattle.page_list_check.specs.declared.page.ColumnSum.{ColumnSum}
use Rattle.page_list_check.specs.declared.columns.ColumnSums.{ColumnSums}

-- how many elements the pages of a column have
abbrev pub elements_in : List PageWords → ℕ
elements_in ps = elements_of (map page_says ps)

-- of the pages of a column
pub record Summed (number : ℕ) (ps : List PageWords) (r : ColumnSum) : Type 0 where
  pub number_is : r.number ≡ number
  pub elements_are : r.number ≡ 0 → r.elements ≡ elements_in ps

-- of the pages of each column, in front of zeros
pub record AllSummed (number : ℕ) (pss : List (List PageWords)) (r : ColumnSums) : Type 0 where
  pub number_is : r.number ≡ number
  pub elements_are : r.number ≡ 0 → r.elements ≡ over (map elements_in pss) (replicate most_columns 0)
