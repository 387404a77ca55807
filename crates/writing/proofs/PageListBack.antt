-- How the reader takes a page list that is written.
use Prim.Native.Nat.{ℕ, zero, suc, ◌+◌, ◌*◌, ◌/◌, ◌^◌, ◌<◌}
use mathlib.Core.List.{List, [], ◌∷◌, ◌++◌, map}
use mathlib.Core.Bool.{Bool, true, false}
use mathlib.Core.Path.{◌≡◌, refl, sym, ap, ◌∙◌, subst}
use native.Mathlib.Omega.{arith}
use lib.Dec.{ltb, leb, eqb}
use borrow.Author.Tests.{ltb-true, lt-ltb, eqb-true}
use lib.ListN.{length, get_or, length-append, length-map}
use Rattle.numbers.specs.Choice.{pick, both}
use Rattle.wire.specs.Reading.{Step, found, tested, unless}
use Rattle.locator.specs.Locator.{stored_as, in_file}
use Rattle.envelope.specs.Envelope.{ceiling}
use Rattle.header.specs.Header.{Header}
use Rattle.page_list.specs.PageList.{total_fault, totals_of, agreed, summed, page_list_of}
use Rattle.numbers.specs.Numbers.{bytes_for, trailer}
use Rattle.pages.specs.Pages.{elements_in, checksum_in, page_word, page, running_total, pages}
use Rattle.column_pages.specs.ColumnPages.{pages_of, bits_of, per_column, pages_after, payload}
use Rattle.std.specs.Prelude.{Option, Some, None}
use Rattle.rows.specs.declared.FieldNumber.{FieldNumber}
use Rattle.rows.specs.declared.PageRow.{PageRow}
use Rattle.tree.specs.Bytes.{spelled}
use Rattle.tree.specs.Shape.{Means, none, more}
use Rattle.tree.proofs.Place.{length_spelled}
use Rattle.numbers.proofs.Choice.{both_true}
use Rattle.writing.specs.Piece.{Piece, first, list_piece, pieces, tested_first, tested_last, enveloped}
use Rattle.writing.specs.declared.PageWords.{PageWords}
use Rattle.writing.specs.PageList.{page_word_piece, page_piece, of_column, by_column, in_column_order, pages_in, page_list_payload_piece, page_says, pages_say, counting_all, totals_number, page_list_piece}
use Rattle.writing.specs.Promises.{Promised, PageListPromised, OutOfOrder}
use Rattle.writing.proofs.Sure.{Sure, alone_sure, put_sure, nothing_sure, and_sure, list_sure, list_bytes_long, unless_none}
use Rattle.writing.proofs.ReadBack.{RefusedBy, Reads, number_reads, judged_reads, meant_reads, give_reads, next_reads}
use Rattle.writing.proofs.FramesBack.{long_list_reads}
use Rattle.writing.proofs.EnvelopeBack.{first_version, envelope_takes, last_takes, unfit_takes, promised}
use Rattle.writing.proofs.HeaderBack.{means_rows}
use Rattle.writing.proofs.ColumnOrder.{in_order_lem, pages_long, columns_long}

-- a page

abbrev word : PageWords → ℕ
word p = p.elements + 2 ^ 30 * p.bit

abbrev narrow : PageWords → Bool
narrow p = both (ltb p.elements (2 ^ 30)) (ltb p.bit 2)

page_word_sure : (p : PageWords) → Sure (page_word_piece p)
unfolding page_word_piece
page_word_sure p = alone_sure (spelled 4 (word p)) 4 (narrow p) 24 0 (λ _. length_spelled 4 (word p))

page_sure : (file bits : ℕ) (p : PageWords) → Sure (page_piece file bits p)
unfolding page_piece
page_sure file bits p = and_sure (page_word_sure p) (and_sure (put_sure 4 31 (stored_as _) _) (and_sure (put_sure 8 64 (in_file file _ _) _) nothing_sure))

pub payload_sure : (file : ℕ) (bits : List ℕ) (pss : List (List PageWords)) → Sure (page_list_payload_piece file bits pss)
unfolding page_list_payload_piece
payload_sure file bits pss =
    list_sure (per_column (length bits)) _ (λ before ps. list_sure (running_total (pages_in before)) _ (λ _ p. page_sure file (get_or bits (length before) 0) p) ps) pss

page_bytes_lem : (file bits : ℕ) (p : PageWords) → length (page_piece file bits p).bytes ≡ 16
unfolding page_piece page_word_piece
page_bytes_lem file bits p =
    let b₁ = spelled 4 (word p) in
    let b₂ = spelled 4 p.size in
    let b₃ = spelled 8 p.offset in
    omega (arith, length-append b₁ (b₂ ++ (b₃ ++ [])), length-append b₂ (b₃ ++ []), length-append b₃ [], length_spelled 4 (word p), length_spelled 4 p.size, length_spelled 8 p.offset)

-- the row of a page of column c
abbrev row_back : ℕ → PageWords → PageRow
row_back c p = record { column = record { 0 = c }; elements = p.elements; checksum = eqb p.bit 1; size = p.size; offset = p.offset }

module _ (s : List ℕ) where
  abbrev WordBack : PageWords → ℕ → Type 0
  WordBack p a = (elements_in a ≡ p.elements) × (checksum_in a ≡ eqb p.bit 1)

  word_back : (p : PageWords) → narrow p ≡ true → WordBack p (word p)
  word_back p e =
      let (a, b) = both_true (ltb p.elements (2 ^ 30)) (ltb p.bit 2) e in
      let small = ltb-true p.elements (2 ^ 30) a in
      let bit = ltb-true p.bit 2 b in
      let high : (p.elements + 2 ^ 30 * p.bit) / 2 ^ 30 ≡ p.bit = omega arith in
      (omega arith, ap (λ (v : ℕ). eqb v 1) high)

  word_reads : (p : PageWords) → Reads s (tested 4 page_word) (page_word_piece p) (WordBack p)
  unfolding page_word_piece
  word_reads p =
      record {
        finds = λ end q at good.
            let (e, _) = unless_none (narrow p) 24 0 good in
            let (a, b) = both_true (ltb p.elements (2 ^ 30)) (ltb p.bit 2) e in
            let fits : ltb (word p) (2 ^ 31) ≡ true = lt-ltb (word p) (2 ^ 31) (omega (arith, ltb-true p.elements (2 ^ 30) a, ltb-true p.bit 2 b)) in
            let r = (number_reads s 4 31 page_word (word p) (omega arith)).finds end q at (rw fits refl) in
            record { value = r.value; is = r.is; means = subst (WordBack p) (sym r.means) (word_back p e) };
        refuses = λ end q at fits bad. absurd (bad (rw fits refl));
      }

  page_reads : (file c bits : ℕ) (p : PageWords) → Reads s (page file c bits) (page_piece file bits p) (λ a. a ≡ row_back c p)
  unfolding page page_piece
  page_reads file c bits p =
      next_reads s (word_reads p) λ a₁ e₁.
      next_reads s (judged_reads s 4 31 (stored_as (bytes_for (elements_in a₁) bits)) (stored_as (bytes_for p.elements bits)) p.size (omega arith) (ap (λ (v : ℕ). stored_as (bytes_for v bits) p.size) e₁.0)) λ a₂ e₂.
      next_reads s (judged_reads s 8 64 (in_file file a₂ (trailer (checksum_in a₁))) (in_file file p.size (trailer (eqb p.bit 1))) p.offset (omega arith) (λ i. in_file file (e₂ i) (trailer (e₁.1 i)) p.offset)) λ a₃ e₃.
      give_reads s _ _ (λ i. record { column = record { 0 = c }; elements = e₁.0 i; checksum = e₁.1 i; size = e₂ i; offset = e₃ i })

-- the pages of each column

-- the rows of the columns from number i on
abbrev rows_back : ℕ → List (List PageWords) → List (List PageRow)
rows_back i [] = []
rows_back i (ps ∷ pss) = map (row_back i) ps ∷ rows_back (suc i) pss

rows_more : (i : ℕ) (pss : List (List PageWords)) (ps : List PageWords) → rows_back i (pss ++ (ps ∷ [])) ≡ rows_back i pss ++ (map (row_back (i + length pss)) ps ∷ [])
rows_more i [] ps = ap (λ (k : ℕ). map (row_back k) ps ∷ []) (omega arith)
rows_more i (qs ∷ pss) ps =
    let place : suc i + length pss ≡ i + suc (length pss) = omega arith in
    ap (λ (l : List (List PageRow)). map (row_back i) qs ∷ l) (rows_more (suc i) pss ps ∙ ap (λ (k : ℕ). rows_back (suc i) pss ++ (map (row_back k) ps ∷ [])) place)

abbrev PagesBack : List (List PageWords) → List PageWords → List PageRow → Type 0
PagesBack done ps xs = xs ≡ map (row_back (length done)) ps

columns_back : {pss : List (List PageWords)} {xss : List (List PageRow)} → Means PagesBack pss xss → xss ≡ rows_back 0 pss
columns_back none = refl
columns_back (more {cs = pss} {xs = xss} {c = ps} {x = xs} m e) =
    let place : length pss ≡ 0 + length pss = omega arith in
    ap (λ (l : List (List PageRow)). l ++ (xs ∷ [])) (columns_back m) ∙ ap (λ (y : List PageRow). rows_back 0 pss ++ (y ∷ [])) e
    ∙ ap (λ (k : ℕ). rows_back 0 pss ++ (map (row_back k) ps ∷ [])) place ∙ sym (rows_more 0 pss ps)

count_back : (i : ℕ) (pss : List (List PageWords)) → (length (rows_back i pss) ≡ length pss) × (pages_of (rows_back i pss) ≡ pages_in pss)
unfolding pages_of pages_in
count_back i [] = (refl, refl)
count_back i (ps ∷ pss) = let (a, b) = count_back (suc i) pss in (ap suc a, omega (arith, b, length-map ps (row_back i)))

module _ (s : List ℕ) (strict : Bool) (small : length s < 2 ^ 31) (file : ℕ) (bits : List ℕ) where
  pages_read_lem : (c width sum : ℕ) (ps : List PageWords)
      → Reads s (pages strict file c width sum) (list_piece (running_total sum) (λ _ p. page_piece file width p) ps) (λ xs. xs ≡ map (row_back c) ps)
  unfolding pages
  pages_read_lem c width sum ps =
      meant_reads s (λ xs m. means_rows m)
      (long_list_reads s strict (running_total sum) (λ _ _. page file c width) (λ _ p. page_piece file width p) (λ done p a. a ≡ row_back c p) ps small
      (λ _ p. omega (arith, page_bytes_lem file width p)) (λ done before m p. page_reads s file c width p))

  column_reads : (done : List (List PageWords)) (before : List (List PageRow)) → Means PagesBack done before → (ps : List PageWords)
      → Reads s (pages_after strict file bits before) (list_piece (running_total (pages_in done)) (λ _ p. page_piece file (get_or bits (length done) 0) p) ps) (PagesBack done ps)
  column_reads done before m ps =
      let same = columns_back m in
      let (long, count) = count_back 0 done in
      rw (same, long, count) (pages_read_lem (length done) (get_or bits (length done) 0) (pages_in done) ps)

  payload_reads : (pss : List (List PageWords)) → Reads s (payload file bits strict) (page_list_payload_piece file bits pss) (λ xss. xss ≡ rows_back 0 pss)
  unfolding payload page_list_payload_piece
  payload_reads pss =
      meant_reads s (λ xss m. columns_back m)
      (long_list_reads s strict (per_column (length bits)) (λ _. pages_after strict file bits) (λ before ps. list_piece (running_total (pages_in before)) (λ _ p. page_piece file (get_or bits (length before) 0) p) ps) PagesBack pss small
      (λ before ps. omega (arith, list_bytes_long (length ps) (pieces (λ _ p. page_piece file (get_or bits (length before) 0) p) [] ps).bytes)) column_reads)

-- the rows of a column name it

column_rows_lem : (c : ℕ) (rows : List PageWords) → map (row_back c) (of_column c rows) ≡ map page_says (of_column c rows)
unfolding of_column
column_rows_lem c [] = refl
column_rows_lem c (p ∷ ps) = go (eqb p.column c) refl (column_rows_lem c ps)
  where
    go : (b : Bool) → eqb p.column c ≡ b → map (row_back c) (of_column c ps) ≡ map page_says (of_column c ps)
        → map (row_back c) (pick b (p ∷ of_column c ps) (of_column c ps)) ≡ map page_says (pick b (p ∷ of_column c ps) (of_column c ps))
    go true e later =
        let same = eqb-true p.column c e in
        λ i. record { column = record { 0 = sym same i }; elements = p.elements; checksum = eqb p.bit 1; size = p.size; offset = p.offset } ∷ later i
    go false e later = later

all_rows_lem : (c n : ℕ) (rows : List PageWords) → rows_back c (by_column c n rows) ≡ map (map page_says) (by_column c n rows)
unfolding by_column
all_rows_lem c zero rows = refl
all_rows_lem c (suc n) rows = λ i. column_rows_lem c rows i ∷ all_rows_lem (suc c) n rows i

-- how long the payload is

pages_piece_long : (file width : ℕ) (ps done : List PageWords) → (pieces (λ _ p. page_piece file width p) done ps).long ≡ 16 * length ps
unfolding pieces page_piece page_word_piece
pages_piece_long file width [] done = refl
pages_piece_long file width (p ∷ ps) done = omega (arith, pages_piece_long file width ps (done ++ (p ∷ [])))

columns_piece_long : (file : ℕ) (bits : List ℕ) (pss done : List (List PageWords))
    → (pieces (λ before ps. list_piece (running_total (pages_in before)) (λ _ p. page_piece file (get_or bits (length before) 0) p) ps) done pss).long ≡ 8 * length pss + 16 * pages_in pss
unfolding pieces pages_in
columns_piece_long file bits [] done = refl
columns_piece_long file bits (ps ∷ pss) done =
    omega (arith, pages_piece_long file (get_or bits (length done) 0) ps [], columns_piece_long file bits pss (done ++ (ps ∷ [])))

payload_long : (file : ℕ) (bits : List ℕ) (n : ℕ) (rows : List PageWords) → in_column_order n 0 rows ≡ true
    → (page_list_payload_piece file bits (by_column 0 n rows)).long ≡ 8 + 8 * n + 16 * length rows
unfolding page_list_payload_piece
payload_long file bits n rows order =
    let pss = by_column 0 n rows in
    omega (arith, columns_piece_long file bits pss [], columns_long 0 n rows, pages_long pss, ap length (in_order_lem n 0 n (omega arith) rows order))

-- the payload of rows in order, with the length that counts all rows

pub ordered_sure : (file : ℕ) (bits : List ℕ) (n : ℕ) (rows : List PageWords) → in_column_order n 0 rows ≡ true
    → Sure (tested_first true 14 (counting_all n (length rows) (page_list_payload_piece file bits (by_column 0 n rows))))
ordered_sure file bits n rows order =
    let a = payload_sure file bits (by_column 0 n rows) in
    record { fits = a.fits; long = λ e. a.long e ∙ payload_long file bits n rows order; order = a.order; outside = a.outside }

ordered_reads : (s : List ℕ) → length s < 2 ^ 31 → (file : ℕ) (bits : List ℕ) (n : ℕ) (rows : List PageWords)
    → Reads s (payload file bits true) (tested_first true 14 (counting_all n (length rows) (page_list_payload_piece file bits (by_column 0 n rows)))) (λ xss. xss ≡ pages_say n rows)
unfolding pages_say
ordered_reads s small file bits n rows =
    let law = meant_reads s (λ xss e. e ∙ all_rows_lem 0 n rows) (payload_reads s true small file bits (by_column 0 n rows)) in
    record { finds = law.finds; refuses = law.refuses }

-- the totals

agreed_good : {A : Type 0} (t : Option FieldNumber) (x : Step A) → totals_number t ≡ 0 → agreed t x ≡ x
agreed_good None x z = refl
agreed_good (Some f) x z = absurd (omega (arith, z))

agreed_bad : {A : Type 0} (t : Option FieldNumber) (x : Step A) → (totals_number t ≡ 0 → ⊥) → RefusedBy (agreed t x) (totals_number t)
agreed_bad None x bad = absurd (bad refl)
agreed_bad (Some f) x bad = record { by = total_fault f.0; is = refl; number = refl }

module _ (h : Header) (entries file : ℕ) (rows : List PageWords) where
  abbrev n : ℕ
  n = length h.lists.columns

  abbrev inside : Piece
  inside = counting_all n (length rows) (page_list_payload_piece file (bits_of h.lists.columns) (by_column 0 n rows))

  abbrev total : Option FieldNumber
  total = totals_of entries h.lists (pages_say n rows)

  abbrev whole : Bool → Piece
  whole b = tested_last (enveloped 1 1 (tested_first b 14 inside)) (totals_number total)

  summed_is : (pss : List (List PageRow)) (q : ℕ) → pss ≡ pages_say n rows → summed entries h.lists (found pss q) ≡ agreed total (found pss q)
  unfolding summed
  summed_is pss q e = ap (λ (y : List (List PageRow)). agreed (totals_of entries h.lists y) (found pss q)) e

  promised_by : (b : Bool) → in_column_order n 0 rows ≡ b → Promised (whole b) (page_list_of h entries file (whole b).bytes) (λ pss. pss ≡ pages_say n rows)
  unfolding page_list_of summed
  promised_by true order =
      let bits = bits_of h.lists.columns in
      let taken = envelope_takes 1 (λ v. payload file bits v.strict) 1 1 (tested_first true 14 inside) (λ pss. pss ≡ pages_say n rows) first_version (ordered_sure file bits n rows order)
      (λ short size. ordered_reads (whole true).bytes (omega arith) file bits n rows) in
      promised
      (last_takes (summed entries h.lists) (totals_number total) taken (λ f. refl)
      (λ pss q m z. summed_is pss q m ∙ agreed_good total (found pss q) z)
      (λ pss q m bad. rw (summed_is pss q m) (agreed_bad total (found pss q) bad)))
  promised_by false order = promised (unfit_takes (whole false) refl (out (leb (8 + (8 + 8 * n + 16 * length rows)) ceiling)))
    where
      out : (b : Bool) → first (unless b 1 14) (totals_number total) ≡ 0 → ⊥
      out true z = absurd (omega (arith, z))
      out false z = absurd (omega (arith, z))

pub page_list_promised : PageListPromised
unfolding PageListPromised page_list_piece
page_list_promised h entries file rows = promised_by h entries file rows (in_column_order (length h.lists.columns) 0 rows) refl

pub out_of_order : OutOfOrder
unfolding OutOfOrder page_list_piece
out_of_order h entries file rows order = rw order (go (leb (8 + (8 + 8 * length h.lists.columns + 16 * length rows)) ceiling))
  where
    go : (b : Bool) → first (unless b 1 14) (totals_number (totals_of entries h.lists (pages_say (length h.lists.columns) rows))) ≡ unless b 1 14
    go true = refl
    go false = refl
