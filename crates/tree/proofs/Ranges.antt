-- What holds of every page that keeps the rules holds of each row of an accepted page list. So each page is inside the file, with the check bytes
-- behind it.
use Prim.Native.Nat.{ℕ, suc, ◌+◌, ◌<◌}
use mathlib.Core.List.{List, [], ◌∷◌, ◌++◌, map, flatten}
use mathlib.Core.Path.{◌≡◌, refl, sym, ap, ◌∙◌, subst}
use native.Mathlib.Omega.{arith}
use lib.ListN.{length, drop, get_or, length-append}
use lib.Dec.{leb}
use borrow.Author.Tests.{leb-true}
use Rattle.numbers.specs.Lists.{Each}
use Rattle.numbers.specs.Numbers.{trailer}
use Rattle.numbers.proofs.Lists.{each_flat, each_at}
use Rattle.wire.proofs.Laws.{passed}
use Rattle.outcome.specs.Outcome.{is_accepted}
use Rattle.wire.specs.Reading.{found}
use Rattle.header.specs.Header.{Header}
use Rattle.header.specs.Tables.{header_of}
use Rattle.rows.specs.Tables.{page_row}
use Rattle.rows.specs.declared.PageRow.{PageRow}
use Rattle.rows.proofs.RowLaws.{page_lists_back}
use Rattle.pages.specs.Pages.{checksum_in}
use Rattle.column_pages.specs.ColumnPages.{bits_of, pages_of}
use Rattle.page_list.specs.Tables.{page_list_beside, page_table, answer, written, outcome_of, Answered}
use Rattle.page_list.specs.Answer.{PageListAnswer}
use Rattle.tree.specs.Bytes.{Bytes}
use Rattle.tree.specs.Shape.{ValidItems}
use Rattle.tree.specs.PageListTree.{PageContent, page_row as row_of, page_shape, pages_in, pages_shape, page_list_carrier, page_list_shape, page_rows}
use Rattle.tree.specs.Ranges.{InsideFile, PagesInsideFile}
use Rattle.tree.proofs.Exactly.{page_list_exactly}
use Rattle.tree.proofs.Accepted.{pages_read_lem}
use Rattle.std.specs.Prelude.{Ok}

-- a property that every page has that keeps the rules, where its column's elements have so many bits: the rows of one column, then of all
module _ (file : ℕ) (bits : List ℕ) (P : PageRow → Type 0) (valid : (c : ℕ) (p : PageContent) → (page_shape file (get_or bits c 0)).Valid p → P (row_of c p)) where
  column_each : (c : ℕ) (done ps : List PageContent) → ValidItems (λ _. page_shape file (get_or bits c 0)) done ps → Each P (map (row_of c) ps)
  column_each c done [] v = tt
  column_each c done (p ∷ ps) v = (valid c p v.0, column_each c _ ps v.1)

  columns_each : (i : ℕ) (done pss : List (List PageContent)) → length done ≡ i
      → ValidItems (λ before. pages_shape file bits (pages_in before) (length before)) done pss → Each (Each P) (page_rows i pss)
  unfolding pages_shape
  columns_each i done [] long v = tt
  columns_each i done (ps ∷ pss) long v =
      let next : length (done ++ (ps ∷ [])) ≡ suc i = omega (arith, length-append done (ps ∷ []), long) in
      (column_each i [] ps (subst (λ (c : ℕ). ValidItems (λ _. page_shape file (get_or bits c 0)) [] ps) long v.0.2), columns_each (suc i) _ pss next v.1)

-- how many pages there are in all
pub flat_long : (pss : List (List PageRow)) → length (flatten pss) ≡ pages_of pss
unfolding flatten pages_of
flat_long [] = refl
flat_long (ps ∷ pss) = length-append ps (flatten pss) ∙ ap (λ (n : ℕ). length ps + n) (flat_long pss)

-- every row that an accepting call leaves has such a property, by the bits of the header that was read
pub record EachRow (P : List ℕ → PageRow → Type 0) (e p : List ℕ) (n : ℕ) : Type 0 where
  pub header : Header
  pub place : ℕ
  pub reads : header_of e ≡ found header place
  pub has : (i : ℕ) → i < n → P (bits_of header.lists.columns) (page_row p i)

pub each_row : (e l : List ℕ) (entries file : ℕ) (p₀ p : List ℕ) (n : ℕ) → Bytes l → Answered (page_list_beside e l entries file) p₀ p (Ok n)
    → (P : List ℕ → PageRow → Type 0) → ((bits : List ℕ) (c : ℕ) (x : PageContent) → (page_shape file (get_or bits c 0)).Valid x → P bits (row_of c x))
    → EachRow P e p n
unfolding answer written page_list_shape
each_row e l entries file p₀ p n bytes call P valid =
    let k = pages_read_lem e l entries file (length p₀) (sym (ap (λ (y : PageListAnswer). is_accepted (outcome_of y)) call.answers)) in
    let b = k.both in
    let pss = k.pages in
    let bits : List ℕ = bits_of b.header.lists.columns in
    let (w, _) = page_list_exactly.sound b.header entries file l pss b.stop bytes b.inner in
    let each : Each (Each (P bits)) pss = rw w.means (columns_each file bits (P bits) (valid bits) 0 [] (page_list_carrier.content w.tree.inside) refl w.right.valid.2) in
    let count : Ok n ≡ Ok (pages_of pss) = call.answers ∙ ap (answer (length p₀)) k.is ∙ rw k.room refl in
    let many : n ≡ pages_of pss = cc in
    let table : p ≡ page_table pss ++ drop (length (page_table pss)) p₀ = call.pages_are ∙ ap (written (length p₀) p₀) k.is ∙ rw k.room refl in
    record {
      header = b.header;
      place = b.place;
      reads = b.reads;
      has = λ i h.
          let there : i < length (flatten pss) = omega (arith, flat_long pss, many, h) in
          let row : page_row p i ≡ get_or (flatten pss) i (page_row p i) = ap (λ (t : List ℕ). page_row t i) table ∙ page_lists_back.each pss (drop (length (page_table pss)) p₀) (page_row p i) i there in
          subst (P bits) (sym row) (each_at (P bits) (flatten pss) (page_row p i) i (each_flat (P bits) pss each) there);
    }

valid_inside : (file bits c : ℕ) (p : PageContent) → (page_shape file bits).Valid p → InsideFile file (row_of c p)
unfolding page_shape
valid_inside file bits c p v =
    let end = p.offset + p.size + trailer (checksum_in p.word) in
    leb-true end file (passed (leb end file) 17 0 v.1.1.0.1).0

pub pages_inside_file : PagesInsideFile
unfolding PagesInsideFile
pages_inside_file e l entries file p₀ p n bytes call = (each_row e l entries file p₀ p n bytes call (λ _. InsideFile file) (λ bits c. valid_inside file (get_or bits c 0) c)).has
