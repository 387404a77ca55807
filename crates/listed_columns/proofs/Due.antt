-- The sizes that an accepted header and page list have.
-- Assumes nothing.
use Prim.Native.Nat.{ℕ, ◌^◌}
use mathlib.Core.List.{List, [], ◌∷◌}
use mathlib.Core.Bool.{Bool, true}
use mathlib.Core.Path.{◌≡◌, ap, subst}
use lib.Dec.{ltb, eqb}
use lib.ListN.{length, get_or}
use borrow.Author.Tests.{eqb-true}
use Rattle.numbers.specs.Lists.{Each}
use Rattle.numbers.specs.Choice.{pick}
use Rattle.numbers.specs.Numbers.{bytes_for}
use Rattle.wire.specs.Reading.{unless}
use Rattle.wire.proofs.Laws.{passed}
use Rattle.column_type.specs.Types.{known, width_of}
use Rattle.rows.specs.Tables.{page_row}
use Rattle.rows.specs.declared.ColumnRow.{ColumnRow}
use Rattle.header.specs.Header.{Header}
use Rattle.pages.specs.Pages.{elements_in}
use Rattle.column_pages.specs.ColumnPages.{bits_of}
use Rattle.tree.specs.Shape.{ValidItems, record_shape}
use Rattle.tree.specs.HeaderTree.{HeaderContent, header_content, column_shape, lists_shape, payload_shape, tables_of}
use Rattle.tree.specs.PageListTree.{PageContent, page_row as row_of, page_shape}
use Rattle.tree.proofs.Exactly.{header_exactly}
use Rattle.tree.proofs.Ranges.{each_row}
use Rattle.listed_columns.specs.Listed.{BitsDue, ColumnBitsDue, SizeDue, PageSizesDue}

-- headers

columns_due : (n : ℕ) (done cs : List ColumnRow) → ValidItems (λ _. record_shape (column_shape n)) done cs → Each BitsDue cs
unfolding column_shape
columns_due n done [] v = tt
columns_due n done (c ∷ cs) v = (by (known c.column_type) v.0.1.0.1, columns_due n _ cs v.1)
  where
    by : (b : Bool) → unless (pick b (eqb c.bits (width_of c.column_type)) true) 13 0 ≡ 0 → b ≡ true → c.bits ≡ width_of c.column_type
    by b good is = eqb-true c.bits (width_of c.column_type) (passed _ 12 0 (rw is at good)).0

pub column_bits_due : ColumnBitsDue
unfolding ColumnBitsDue payload_shape lists_shape header_content
column_bits_due e h q bytes reads =
    let w = header_exactly.sound e h q bytes reads in
    rw (ap (λ (c : HeaderContent). c.columns) w.means) (columns_due (length (tables_of w.tree).fields) [] (tables_of w.tree).columns w.right.envelope.valid.1.0.1.0.2)

-- page lists

valid_due : (file : ℕ) (bits : List ℕ) (c : ℕ) (p : PageContent) → (page_shape file (get_or bits c 0)).Valid p → SizeDue bits (row_of c p)
unfolding page_shape
valid_due file bits c p v =
    let due = bytes_for (elements_in p.word) (get_or bits c 0) in
    eqb-true p.size due (passed (eqb p.size due) 16 0 (passed (ltb p.size (2 ^ 31)) 16 _ v.1.0.1).1).0

pub page_sizes_due : PageSizesDue
unfolding PageSizesDue
page_sizes_due e l entries file p₀ p n bytes call h q reads =
    let r = each_row e l entries file p₀ p n bytes call SizeDue (valid_due file) in
    let again = r.reads in
    let same : r.header ≡ h = cc in
    λ i there. subst (λ (x : Header). SizeDue (bits_of x.lists.columns) (page_row p i)) same (r.has i there)
