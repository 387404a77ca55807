-- What every page list has that was read beside a header: as many columns as the header, at most 1,024, and in each column few pages with small numbers.
-- Assumes nothing.
use Prim.Native.Nat.{ℕ, ◌^◌, ◌<◌, ◌≤◌}
use mathlib.Core.Path.{◌≡◌, subst}
use mathlib.Core.Bool.{Bool}
use mathlib.Core.List.{List}
use native.Mathlib.Omega.{arith}
use lib.ListN.{length, get_or, take, length-map}
use Rattle.numbers.specs.Lists.{Each}
use Rattle.numbers.specs.Numbers.{bytes_for, trailer}
use Rattle.wire.specs.Reading.{Step, found, refused, Rule, ◌>>=◌, give, tested}
use Rattle.wire.proofs.Laws.{never, bound}
use Rattle.locator.specs.Locator.{stored_as, in_file}
use Rattle.locator.proofs.Laws.{stored_few}
use Rattle.frames.proofs.Laws.{closed_found}
use Rattle.frames.proofs.Loops.{list_each, list_passed}
use Rattle.envelope.specs.Envelope.{Versions, opened, enclosed, versioned, envelope}
use Rattle.header.specs.Header.{Lists, Header}
use Rattle.header.specs.Tables.{header_of}
use Rattle.header.specs.Beside.{read}
use Rattle.header.proofs.Besides.{both_read}
use Rattle.rows.specs.Words.{most_columns, most_pages}
use Rattle.rows.specs.declared.ColumnRow.{ColumnRow}
use Rattle.rows.specs.declared.PageRow.{PageRow}
use Rattle.pages.specs.Pages.{page_word, elements_in, checksum_in, page, pages, running_total}
use Rattle.column_pages.specs.ColumnPages.{bits_of, per_column, pages_after, pages_of, payload}
use Rattle.column_pages.proofs.ColumnLaws.{count_passes}
use Rattle.column_pages.proofs.ScanLaws.{pages_fit_lem}
use Rattle.std.specs.Prelude.{Option, Some, None}
use Rattle.rows.specs.declared.FieldNumber.{FieldNumber}
use Rattle.page_list.specs.PageList.{totals_of, agreed, summed, page_list_of}
use Rattle.page_list.specs.Tables.{page_list_beside}

-- a page whose numbers have their places
pub record SmallPage (p : PageRow) : Type 0 where
  pub elements_few : p.elements < 2 ^ 30
  pub size_few : p.size < 2 ^ 31

-- the pages of a column
pub record SmallColumn (ps : List PageRow) : Type 0 where
  pub few : length ps ≤ most_pages
  pub each : Each SmallPage ps

-- so many columns, with their pages
pub record SmallList (columns : ℕ) (pss : List (List PageRow)) : Type 0 where
  pub few : length pss ≤ most_columns
  pub many : length pss ≡ columns
  pub each : Each SmallColumn pss

pub page_small : (file c bits : ℕ) (s : List ℕ) (at : ℕ) {x : PageRow} {p : ℕ} → page file c bits s at ≡ found x p → SmallPage x
unfolding page
page_small file c bits s at {x} {p = p'} =
    let made : ℕ → ℕ → ℕ → PageRow = λ word size offset. record { column = record { 0 = c }; elements = elements_in word; checksum = checksum_in word; size = size; offset = offset } in
    let at_offset : ℕ → ℕ → Rule PageRow = λ word size. tested 8 (in_file file size (trailer (checksum_in word))) >>= (λ offset. give (made word size offset)) in
    bound (λ x _. SmallPage x) (tested 4 page_word) (λ word. tested 4 (stored_as (bytes_for (elements_in word) bits)) >>= (λ size. at_offset word size)) s at λ word p _.
    bound (λ x _. SmallPage x) (tested 4 (stored_as (bytes_for (elements_in word) bits))) (λ size. at_offset word size) s p λ size q stored.
    bound (λ x _. SmallPage x) (tested 8 (in_file file size (trailer (checksum_in word)))) (λ offset. give (made word size offset)) s q λ offset r _ e.
    let read : found (made word size offset) r ≡ found x p' = e in
    let same : made word size offset ≡ x = cc in
    subst SmallPage same (record { elements_few = omega arith; size_few = stored_few (bytes_for (elements_in word) bits) s p stored })

column_small : (strict : Bool) (file c bits sum : ℕ) (s : List ℕ) (at : ℕ) {ps : List PageRow} {p : ℕ} → pages strict file c bits sum s at ≡ found ps p → SmallColumn ps
unfolding pages
column_small strict file c bits sum s at e =
    record {
      few = omega (arith, pages_fit_lem strict file c bits sum s at e);
      each = list_each (λ _. SmallPage) strict (running_total sum) (λ _ _. page file c bits) s at (λ _ _ stop from x p. page_small file c bits (take stop s) from) e;
    }

pub payload_small : (strict : Bool) (file : ℕ) (bits : List ℕ) (s : List ℕ) (at : ℕ) {pss : List (List PageRow)} {p : ℕ} → payload file bits strict s at ≡ found pss p → SmallList (length bits) pss
unfolding payload
payload_small strict file bits s at {pss} e =
    let (few, many) = count_passes (length bits) (length pss) (list_passed strict (per_column (length bits)) (λ _. pages_after strict file bits) s at e) in
    record {
      few = few;
      many = many;
      each = list_each (λ _. SmallColumn) strict (per_column (length bits)) (λ _. pages_after strict file bits) s at
          (λ _ done stop from x p. column_small strict file (length done) (get_or bits (length done) 0) (pages_of done) (take stop s) from) e;
    }

envelope_small : (file : ℕ) (bits : List ℕ) (e : List ℕ) (pss : List (List PageRow)) (p : ℕ) → envelope 1 (payload file bits) e ≡ found pss p → SmallList (length bits) pss
unfolding versioned
envelope_small file bits e pss p w = by (opened 1 e) w
  where
    by : (x : Step Versions) → enclosed (λ v. payload file bits v.strict) e x ≡ found pss p → SmallList (length bits) pss
    by (found v stop) g =
        payload_small v.strict file bits (take stop e) 4 (closed_found (λ f. f) v.strict (length (take stop e)) (payload file bits v.strict (take stop e) 4) g).was
    by (refused f) g = never g

summed_small : (n entries : ℕ) (l : Lists) (x : Step (List (List PageRow))) {pss : List (List PageRow)} {p : ℕ}
    → ((qss : List (List PageRow)) (q : ℕ) → x ≡ found qss q → SmallList n qss) → summed entries l x ≡ found pss p → SmallList n pss
unfolding summed
summed_small n entries l (found qss q) {pss} {p} small e = by (totals_of entries l qss) e
  where
    by : (t : Option FieldNumber) → agreed t (found qss q) ≡ found pss p → SmallList n pss
    by None g = small pss p g
    by (Some f) g = never g
summed_small n entries l (refused f) small e = never e

-- the header that a page list was read beside, and what the page list then has
pub record ReadBeside (header : List ℕ) (pss : List (List PageRow)) : Type 0 where
  pub tables : Header
  pub place : ℕ
  pub reads : header_of header ≡ found tables place
  pub small : SmallList (length tables.lists.columns) pss

pub read_beside_lem : (header list : List ℕ) (entries file : ℕ) (pss : List (List PageRow)) → page_list_beside header list entries file ≡ read pss → ReadBeside header pss
unfolding page_list_beside page_list_of
read_beside_lem header list entries file pss e =
    let b = both_read 3 (λ h. page_list_of h entries file list) (header_of header) pss e in
    let l = b.header.lists in
    let bits = bits_of l.columns in
    record {
      tables = b.header;
      place = b.place;
      reads = b.reads;
      small = rw (← length-map l.columns (λ (r : ColumnRow). r.bits)) (summed_small (length bits) entries l (envelope 1 (payload file bits) list) (envelope_small file bits list) b.inner);
    }
