-- What is left to refuse in the pages of an accepted page list.
-- Assumes nothing.
use Prim.Native.Nat.{ℕ, zero, suc, ◌+◌, ◌≤◌}
use mathlib.Core.List.{List, [], ◌∷◌, map}
use mathlib.Core.Logic.{inl, inr}
use mathlib.Core.Bool.{true, false}
use mathlib.Core.Path.{◌≡◌, refl, ap, ◌∙◌}
use native.Mathlib.Omega.{arith}
use borrow.Author.Tests.{le-leb, eq-eqb}
use lib.Dec.{leb}
use lib.ListN.{length, get_or}
use Rattle.numbers.specs.Lists.{Each}
use Rattle.numbers.specs.Numbers.{trailer, bytes_for}
use Rattle.numbers.proofs.Choice.{both_true}
use Rattle.numbers.proofs.Lists.{each_weaken}
use Rattle.column_type.specs.Types.{known, width_of}
use Rattle.rows.specs.Tables.{rows_in, page_row}
use Rattle.rows.specs.declared.ColumnRow.{ColumnRow}
use Rattle.column_pages.specs.ColumnPages.{bits_of}
use Rattle.tree.proofs.Ranges.{pages_inside_file}
use Rattle.tree.specs.Ranges.{PagesInsideFile}
use Rattle.page_rules.specs.Page.{accept, unless, readable, most_elements, size_of, checksum_right, unused_clear, decode_outcome}
use Rattle.page_rules.proofs.Decoding.{unless_by, clear_other}
use Rattle.column_rules.specs.declared.ColumnPage.{ColumnPage}
use Rattle.column_rules.specs.Column.{accept_all, column_page_width, column_pages, inside, page_bytes, page_outcome, whole_column}
use Rattle.column_rules.specs.Statements.{AcceptsOr}
use Rattle.column_rules.proofs.Inside.{ends_inside, length_inside}
use Rattle.column_rules.proofs.TurnLaws.{is_single}
use Rattle.column_rules.proofs.Numbers.{PageOr, pages_or}
use Rattle.column_rules.proofs.Statements.{whole_numbers}
use Rattle.listed_columns.specs.Listed.{BitsDue, ColumnBitsDue, PageSizesDue, Listed, type_in, ListedCall, in_listed, ListedColumns, Roomy, OnlyBytesLeft, NothingLeft}
use Rattle.listed_columns.proofs.Due.{column_bits_due, page_sizes_due}

-- a page of type t that is in the file part and has the size of its elements
pub record InPlace (t : ℕ) (file : List ℕ) (p : ColumnPage) : Type 0 where
  pub ends : p.offset + p.size + trailer p.checksum ≤ length file
  pub size : p.size ≡ size_of t p.elements

-- such a page passes the tests of type, range and length
module _ (t : ℕ) (file : List ℕ) (is_readable : readable t ≡ true) (p : ColumnPage) (h : InPlace t file p) (old : List ℕ) (start : ℕ) where
  abbrev n : ℕ
  n = p.elements

  is_inside_lem : inside file p ≡ true
  is_inside_lem = ends_inside file p h.ends

  bytes_long : length (page_bytes file p) ≡ size_of t n + trailer p.checksum
  bytes_long = length_inside file p is_inside_lem ∙ ap (λ (s : ℕ). s + trailer p.checksum) h.size

  tests_left : page_outcome t file p (length old) start
      ≡ unless (leb n most_elements) 10
      (unless (checksum_right p.checksum (size_of t n) (page_bytes file p)) 22
      (unless (unused_clear t n (page_bytes file p)) 24
      (unless (leb (start + n) (length old)) 20
      (accept n))))
  unfolding decode_outcome
  tests_left = (is_single t file p old start is_inside_lem).0 ∙ rw (is_readable, eq-eqb (length (page_bytes file p)) (size_of t n + trailer p.checksum) bytes_long) refl

-- the pages of a page list

-- the bits of a column whose type is readable are those of the type
bits_are_lem : (cs : List ColumnRow) (c : ℕ) → Each BitsDue cs → known (get_or (map (λ (r : ColumnRow). r.column_type) cs) c 0) ≡ true
    → get_or (bits_of cs) c 0 ≡ width_of (get_or (map (λ (r : ColumnRow). r.column_type) cs) c 0)
unfolding known width_of
bits_are_lem [] c due is = refl
bits_are_lem (x ∷ cs) zero due is = due.0 is
bits_are_lem (x ∷ cs) (suc c) due is = bits_are_lem cs c due.1 is

in_place : (t : ℕ) (file table : List ℕ) → ListedCall t file table → Each (InPlace t file) (column_pages table)
unfolding ColumnBitsDue PageSizesDue PagesInsideFile
in_place t file table k = each_weaken one (column_pages table) k.listed
  where
    bits : get_or (bits_of k.tables.lists.columns) k.column 0 ≡ width_of t
    bits = rw k.is_type (bits_are_lem k.tables.lists.columns k.column (column_bits_due k.header k.tables k.place k.header_bytes k.is_read) (both_true (known (type_in k.tables k.column)) _ (rw k.is_type at k.is_readable)).0)

    one : (p : ColumnPage) → Listed k.column k.pages k.count p → InPlace t file p
    one p l =
        let r = page_row k.pages l.row in
        let within = pages_inside_file k.header k.list k.entries k.told k.before k.pages k.count k.list_bytes k.accepted l.row l.there in
        let size = page_sizes_due k.header k.list k.entries k.told k.before k.pages k.count k.list_bytes k.accepted k.tables k.place k.is_read l.row l.there in
        let long = k.long in
        rw l.is (record { ends = omega arith; size = size ∙ ap (bytes_for r.elements) (ap (λ (c : ℕ). get_or (bits_of k.tables.lists.columns) c 0) l.of_column ∙ bits) })

-- what each page has of two properties
each_both : (P Q : ColumnPage → Type 0) (ps : List ColumnPage) → Each P ps → Each Q ps → Each (λ p. P p × Q p) ps
each_both P Q [] a b = tt
each_both P Q (p ∷ ps) a b = ((a.0, b.0), each_both P Q ps a.1 b.1)

pub listed_columns : ListedColumns
unfolding ListedColumns
listed_columns t file table old k =
    whole_numbers in_listed t file table old k.few
    (pages_or in_listed t file (length old) (λ _. Unit {0}) (λ a b u. tt) (column_pages table) (each_weaken page (column_pages table) (in_place t file table k)) 0 tt)
  where
    page : (p : ColumnPage) → InPlace t file p → (start : ℕ) → Unit {0} → PageOr in_listed t file (length old) p start
    page p h start u =
        rw (tests_left t file k.is_readable p h old start)
        (unless_by (leb p.elements most_elements) 10 (22 ∷ 24 ∷ 20 ∷ []) (accept p.elements) _
        (unless_by (checksum_right p.checksum (size_of t p.elements) (page_bytes file p)) 22 (24 ∷ 20 ∷ []) (accept p.elements) _
        (unless_by (unused_clear t p.elements (page_bytes file p)) 24 (20 ∷ []) (accept p.elements) _
        (unless_by (leb (start + p.elements) (length old)) 20 [] (accept p.elements) (accept p.elements) (inl refl)))))

-- with few elements in each page and room for all
module _ (t : ℕ) (file table old : List ℕ) (k : ListedCall t file table) (r : Roomy (column_pages table) (length old)) where
  abbrev Few : ColumnPage → Type 0
  Few p = p.elements ≤ most_elements

  bytes_left : (p : ColumnPage) → InPlace t file p → Few p → (start : ℕ) → start + p.elements ≤ length old
      → page_outcome t file p (length old) start
      ≡ unless (checksum_right p.checksum (size_of t p.elements) (page_bytes file p)) 22 (unless (unused_clear t p.elements (page_bytes file p)) 24 (accept p.elements))
  bytes_left p h few start room =
      tests_left t file k.is_readable p h old start ∙ rw (le-leb p.elements most_elements few, le-leb (start + p.elements) (length old) room) refl

  roomy : (ks : List ℕ) (Q : ColumnPage → Type 0) → Each Q (column_pages table)
      → ((p : ColumnPage) → InPlace t file p → Few p → Q p → (start : ℕ) → start + p.elements ≤ length old → PageOr ks t file (length old) p start)
      → AcceptsOr ks (rows_in column_page_width table) (whole_column t file table old)
  roomy ks Q each page =
      whole_numbers ks t file table old k.few
      (pages_or ks t file (length old) (λ end. end ≤ length old) (λ a b h. omega arith) (column_pages table)
      (each_weaken (λ p a. page p a.0 a.1.0 a.1.1) (column_pages table)
      (each_both (InPlace t file) (λ p. Few p × Q p) (column_pages table) (in_place t file table k) (each_both Few Q (column_pages table) r.few each)))
      0 (omega (arith, r.room)))

pub only_bytes_left : OnlyBytesLeft
unfolding OnlyBytesLeft
only_bytes_left t file table old k r =
    roomy t file table old k r (22 ∷ 24 ∷ []) (λ p. p.elements ≤ most_elements) r.few λ p h few _ start room.
    rw (bytes_left t file table old k r p h few start room)
    (unless_by (checksum_right p.checksum (size_of t p.elements) (page_bytes file p)) 22 (24 ∷ []) (accept p.elements) _
    (unless_by (unused_clear t p.elements (page_bytes file p)) 24 [] (accept p.elements) (accept p.elements) (inl refl)))

pub nothing_left : NothingLeft
unfolding NothingLeft checksum_right
nothing_left t file table old k r unchecked other =
    by (roomy t file table old k r [] (λ p. p.checksum ≡ false) unchecked λ p h few c start room.
    inl (bytes_left t file table old k r p h few start room ∙ rw (← clear_other t p.elements (page_bytes file p) other, c) refl))
  where
    by : AcceptsOr [] (rows_in column_page_width table) (whole_column t file table old) → (whole_column t file table old).outcome ≡ accept_all (rows_in column_page_width table)
    by (inl e) = e
    by (inr z) = absurd z.1
