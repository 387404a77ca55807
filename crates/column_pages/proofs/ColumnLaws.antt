-- The columns that a table has rows of, and the list of their pages.
use Prim.Native.Nat.{ℕ, ◌%◌, ◌^◌, ◌≤◌, ◌<◌}
use mathlib.Core.Path.{◌≡◌, refl, sym, ap, ◌∙◌}
use mathlib.Core.Bool.{Bool, true, false}
use mathlib.Core.List.{List, [], map}
use borrow.Author.Tests.{leb-true, eqb-true}
use lib.Dec.{leb, eqb}
use lib.ListN.{length, get_or, take, replicate, length-map, get_or-map}
use Rattle.numbers.specs.Choice.{pick}
use Rattle.numbers.specs.Rows.{over}
use Rattle.wire.specs.declared.Fault.{Fault}
use Rattle.frames.specs.declared.ListHead.{ListHead}
use Rattle.wire.specs.Reading.{Step, found, refused, accepted, rows_of, in_item, fault, unless}
use Rattle.wire.specs.Answers.{as_step}
use Rattle.wire.specs.declared.Kind.TheVariants.{Spare}
use Rattle.std.specs.Prelude.{Ok}
use Rattle.wire.proofs.Laws.{never, passed}
use Rattle.envelope.specs.Envelope.{whole}
use Rattle.frames.specs.Frames.{list_of, list_head, list_count, list_stop, spare, closed, closed_by, items}
use Rattle.frames.proofs.Laws.{count_zero, ended, spared}
use Rattle.frames.proofs.Loops.{list_is, closed_accepted}
use Rattle.rows.specs.Words.{most_columns}
use Rattle.rows.specs.declared.ColumnRow.{ColumnRow}
use Rattle.rows.specs.declared.PageRow.{PageRow}
use Rattle.pages.specs.Pages.{elements_of}
use Rattle.rows.specs.Tables.{column_row, columns_in}
use Rattle.rows.proofs.FirstRows.{rows_length, row_at}
use Rattle.column_pages.specs.ColumnPages.{pages_of, per_column, pages_after, payload}
use Rattle.column_pages.specs.Answers.{bits_in, column_items, sums_of}
use Rattle.column_pages.specs.declared.Sums.{Sums}

none : ColumnRow
none = record { column_type = 0; bits = 0; field = record { 0 = 0 }; flags = 0 }

pub bits_at : (table : List ℕ) (n k : ℕ) → k < n → get_or (bits_in table n) k 0 ≡ (column_row table k).bits % 2 ^ 16
unfolding none
bits_at table n k h =
    get_or-map (λ (r : ColumnRow). r.bits % 2 ^ 16) (columns_in table n) k none ∙ ap (λ (r : ColumnRow). r.bits % 2 ^ 16) (row_at column_row table n k none h)

pub bits_length : (table : List ℕ) (n : ℕ) → length (bits_in table n) ≡ n
bits_length table n = length-map (columns_in table n) (λ (r : ColumnRow). r.bits % 2 ^ 16) ∙ rows_length column_row table n

-- a count that passes is the number of columns
pub count_passes : (n k : ℕ) → per_column n k ≡ 0 → (k ≤ most_columns) × (k ≡ n)
count_passes n k z =
    let (few, later) = passed (leb k most_columns) 9 (unless (eqb k n) 19 0) z in
    (leb-true k most_columns few, eqb-true k n (passed (eqb k n) 18 0 later).0)

-- what the end of a frame makes of sums
module _ (mark : Fault → Fault) (strict : Bool) (stop : ℕ) where
  pub sums_closed : (x : Step (List (List PageRow))) {c p : ℕ} → found c p ≡ closed_by mark strict stop (as_step (sums_of x).pages)
      → (closed_by mark strict stop x ≡ found (rows_of x) p) × (c ≡ pages_of (rows_of x)) × ((sums_of x).elements ≡ over (map elements_of (rows_of x)) (replicate most_columns 0))
  sums_closed (found pss q) {c} {p} e = by (spare strict q stop) e
    where
      by : (b : Bool) → found c p ≡ pick {A = Step ℕ} b (refused (mark (fault 11 Spare q))) (found (pages_of pss) stop)
          → (pick b (refused (mark (fault 11 Spare q))) (found pss stop) ≡ found pss p) × (c ≡ pages_of pss) × (over (map elements_of pss) (replicate most_columns 0) ≡ over (map elements_of pss) (replicate most_columns 0))
      by true g = never (sym g)
      by false g = let same : p ≡ stop = cc in let count : c ≡ pages_of pss = cc in (ap (found pss) (sym same), count, refl)
  sums_closed (refused f) e = never (sym e)

  pub sums_refused : (x : Step (List (List PageRow))) {f : Fault} → refused f ≡ closed_by mark strict stop (as_step (sums_of x).pages) → closed_by mark strict stop x ≡ refused f
  sums_refused (found pss q) {f} e = by (spare strict q stop) e
    where
      by : (b : Bool) → refused f ≡ pick {A = Step ℕ} b (refused (mark (fault 11 Spare q))) (found (pages_of pss) stop) → pick b (refused (mark (fault 11 Spare q))) (found pss stop) ≡ refused f
      by true g = let same : f ≡ mark (fault 11 Spare q) = cc in ap (λ (x : Fault). refused x) (sym same)
      by false g = never g
  sums_refused (refused g) {f} e = let same : g ≡ f = cc in ap (λ (x : Fault). refused x) same

-- a payload whose head was read
module _ (strict : Bool) (file : ℕ) (table : List ℕ) (n : ℕ) (s : List ℕ) {h : ListHead} {stop : ℕ} (head : list_head (per_column n) s 4 ≡ found h stop) where
  pub head_passes : (h.count ≤ most_columns) × (h.count ≡ n)
  head_passes = count_passes n h.count (count_zero (per_column n) 4 (list_count s 4 (list_stop s 4)) head)

  pub head_bits : list_head (per_column (length (bits_in table n))) s 4 ≡ found h stop
  head_bits = rw (bits_length table n) head

  pub payload_is : payload file (bits_in table n) strict s 4 ≡ closed_by (in_item 4 h.count) strict stop (column_items (take stop s) strict 4 h table file)
  unfolding payload
  payload_is =
      list_is strict (per_column (length (bits_in table n))) (λ _. pages_after strict file (bits_in table n)) s 4 head_bits
      ∙ ap (λ (k : ℕ). closed_by (in_item 4 h.count) strict stop (items 4 (pages_after strict file (bits_in table k)) h.count [] (take stop s) h.start)) (sym head_passes.1)

  -- the same with the bytes that the items are read in, cut off where the list stops
  module _ {t : List ℕ} (cut : t ≡ take stop s) where
    pub payload_cut : payload file (bits_in table n) strict s 4 ≡ closed_by (in_item 4 h.count) strict stop (column_items t strict 4 h table file)
    payload_cut = payload_is ∙ ap (λ (u : List ℕ). closed_by (in_item 4 h.count) strict stop (column_items u strict 4 h table file)) (sym cut)

    -- where it is accepted, so are its items, and the rows are theirs
    pub payload_items : accepted (payload file (bits_in table n) strict s 4) ≡ true
        → (accepted (column_items t strict 4 h table file) ≡ true) × (rows_of (payload file (bits_in table n) strict s 4) ≡ rows_of (column_items t strict 4 h table file))
    payload_items a =
        let k = closed_accepted (in_item 4 h.count) strict stop (column_items t strict 4 h table file) (ap accepted (sym payload_cut) ∙ a) in
        (k.0, ap rows_of payload_cut ∙ k.1)

    -- what a scan of the items says, with the end of the list and that of the payload
    pub payload_read : {r : Sums} {c p q : ℕ} → r ≡ sums_of (column_items t strict 4 h table file) → found c p ≡ closed_by (in_item 4 h.count) strict stop (as_step r.pages)
        → ◌≡◌ {A = Step (Unit {0})} (found tt q) (closed strict (length s) (found tt p))
        → record { pages = Ok (c, q); elements = r.elements } ≡ sums_of (whole strict (payload file (bits_in table n) strict) s 4)
    payload_read {r} {c} {p} {q} is e g =
        let k = sums_closed (in_item 4 h.count) strict stop (column_items t strict 4 h table file) (rw is at e) in
        let end = ended (λ f. f) strict p (length s) (rows_of (column_items t strict 4 h table file)) g in
        (λ j. record { pages = Ok (k.1 j, q); elements = (ap (λ (x : Sums). x.elements) is ∙ k.2) j }) ∙ sym (ap sums_of (ap (closed strict (length s)) (payload_cut ∙ k.0) ∙ end))

    pub payload_spare : {r : Sums} {c p : ℕ} {f : Fault} → r ≡ sums_of (column_items t strict 4 h table file) → found c p ≡ closed_by (in_item 4 h.count) strict stop (as_step r.pages)
        → ◌≡◌ {A = Step (Unit {0})} (refused f) (closed strict (length s) (found tt p)) → whole strict (payload file (bits_in table n) strict) s 4 ≡ refused f
    payload_spare {r} {c} {p} is e g =
        let k = sums_closed (in_item 4 h.count) strict stop (column_items t strict 4 h table file) (rw is at e) in
        ap (closed strict (length s)) (payload_cut ∙ k.0) ∙ spared (λ f. f) strict p (length s) (rows_of (column_items t strict 4 h table file)) g

    pub payload_fault : {r : Sums} {f : Fault} → r ≡ sums_of (column_items t strict 4 h table file) → refused f ≡ closed_by (in_item 4 h.count) strict stop (as_step r.pages)
        → whole strict (payload file (bits_in table n) strict) s 4 ≡ refused f
    payload_fault is e = ap (closed strict (length s)) (payload_cut ∙ sums_refused (in_item 4 h.count) strict stop (column_items t strict 4 h table file) (rw is at e))

-- a payload whose head is refused
pub payload_refused : (strict : Bool) (file : ℕ) (table : List ℕ) (n : ℕ) (s : List ℕ) {f : Fault} → list_head (per_column n) s 4 ≡ refused f → payload file (bits_in table n) strict s 4 ≡ refused f
unfolding payload list_of
payload_refused strict file table n s {f} e = let w : list_head (per_column (length (bits_in table n))) s 4 ≡ refused f = rw (bits_length table n) e in rw w
