-- Demand 3 for a report over page lists: an extended page list beside an extended header counts as the page list that it was.
use Rattle.std.specs.Prelude.{ℕ, ◌≤◌, List, ◌≡◌, length}
use Rattle.envelope.specs.Envelope.{ceiling}
use Rattle.header.specs.Beside.{read}
use Rattle.rows.specs.declared.PageRow.{PageRow}
use Rattle.column_pages.specs.ColumnPages.{bits_of}
use Rattle.page_list.specs.Tables.{page_list_beside}
use Rattle.figure_rules.specs.declared.ListCounts.{ListCounts}
use Rattle.figure_rules.specs.Report.{reported}
use Rattle.tree.specs.Bytes.{Bytes}
use Rattle.tree.specs.HeaderTree.{HeaderTree, render_header, tables_of}
use Rattle.tree.specs.PageListTree.{PageListTree, render_page_list}
use Rattle.forward.specs.HeaderForward.{ChosenHeader, TheHeader}
use Rattle.forward.specs.ReadersForward.{ChosenPageList, ThePageList}

-- For a page list that was read: whatever the extensions of its header and of itself, if each is small enough, a call for them with the same entry
-- count, file length, counts of lists and report gives the same answer, its counts too, and leaves the same report.
pub record ReportKept (e l : List ℕ) (entries file : ℕ) : Type 0 where
  pub header : TheHeader e
  pub page_list : ThePageList file (bits_of (tables_of header.tree).columns) l
  pub forward : (t : HeaderTree) (u : PageListTree) → ChosenHeader header.tree t → ChosenPageList page_list.tree u
      → length (render_header t) ≤ ceiling → length (render_page_list u) ≤ ceiling → (counts : ListCounts) (old : List ℕ)
      → reported (page_list_beside (render_header t) (render_page_list u) entries file) counts old ≡ reported (page_list_beside e l entries file) counts old

-- Demand 3 for a report: for the header e and every page list l that is read beside it, with an entry count and a file length. Only such lists are
-- added, so every accepting call is for one.
abbrev pub ReportForward : Type 0
ReportForward =
    (e l : List ℕ) (entries file : ℕ) (pages : List (List PageRow)) → Bytes e → Bytes l → page_list_beside e l entries file ≡ read pages → ReportKept e l entries file
