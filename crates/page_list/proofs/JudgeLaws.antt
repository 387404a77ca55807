-- The verdict on a page list beside a header, from the scan of its payload.
use Prim.Native.Nat.{ℕ, ◌*◌, ◌/◌, ◌≤◌, ◌<◌}
use mathlib.Core.Path.{◌≡◌, refl, sym, ap, ◌∙◌}
use mathlib.Core.Bool.{Bool, true}
use mathlib.Core.List.{List, [], ◌∷◌, map}
use native.Mathlib.Omega.{arith}
use borrow.Author.Tests.{le-leb, lt-leb}
use lib.ListN.{length, take, replicate, length-map}
use lib.Seq.{take_at}
use Rattle.numbers.specs.Rows.{over}
use Rattle.numbers.proofs.Parts.{over_length}
use Rattle.wire.specs.declared.Fault.{Fault}
use Rattle.std.specs.Prelude.{Ok, Err}
use Rattle.wire.specs.Answers.{as_step}
use Rattle.wire.specs.Reading.{Step, found, refused, accepted, rows_of}
use Rattle.outcome.specs.Outcome.{accepted_with}
use Rattle.envelope.specs.Envelope.{Versions, whole, opened, envelope, versioned}
use Rattle.frames.proofs.Laws.{Closed, closed_found}
use Rattle.frames.proofs.Loops.{list_passed}
use Rattle.header.specs.Header.{Lists, flags_of}
use Rattle.header.specs.Tables.{parents_of}
use Rattle.header.specs.Beside.{Beside, read, refusal, in_envelope}
use Rattle.rows.specs.Words.{most_fields, most_columns, page_width}
use Rattle.rows.specs.Tables.{columns_in}
use Rattle.rows.specs.declared.FieldNumber.{FieldNumber}
use Rattle.rows.specs.declared.ColumnRow.{ColumnRow}
use Rattle.rows.specs.declared.PageRow.{PageRow}
use Rattle.totals.specs.Totals.{totals}
use Rattle.std.specs.Prelude.{Option, Some, None}
use Rattle.pages.specs.Pages.{elements_of}
use Rattle.column_pages.specs.ColumnPages.{bits_of, pages_of, pages_after, per_column, payload}
use Rattle.column_pages.specs.Answers.{bits_in, sums_of}
use Rattle.column_pages.specs.declared.Sums.{Sums}
use Rattle.column_pages.proofs.ColumnLaws.{bits_length, count_passes}
use Rattle.page_list.specs.PageList.{total_fault, summed}
use Rattle.page_list.specs.Schema.{SchemaOf}
use Rattle.page_list.specs.Judged.{summed_by, Stands, Judges}
use Rattle.page_list.specs.declared.Judged.{Judged}

-- what a scan found, or what it refused
record Scanned (x : Step (List (List PageRow))) (r : Sums) (k q : ℕ) : Type 0 where
  value : List (List PageRow)
  was : x ≡ found value q
  count : k ≡ pages_of value
  elements : r.elements ≡ over (map elements_of value) (replicate most_columns 0)

scan_found : (x : Step (List (List PageRow))) {r : Sums} {k q : ℕ} → r ≡ sums_of x → r.pages ≡ Ok (k, q) → Scanned x r k q
scan_found (found pss p) {r} {k} {q} is e =
    let g : found (pages_of pss) p ≡ found k q = ap as_step (sym (ap (λ (y : Sums). y.pages) is) ∙ e) in
    let a : pages_of pss ≡ k = cc in
    let b : p ≡ q = cc in
    record { value = pss; was = ap (found pss) b; count = sym a; elements = ap (λ (y : Sums). y.elements) is }
scan_found (refused f) {r} {k} {q} is e =
    let g : refused f ≡ found k q = ap as_step (sym (ap (λ (y : Sums). y.pages) is) ∙ e) in
    let z : ◌≡◌ {A = ℕ} 0 1 = cc in
    absurd (omega arith)

scan_refused : (x : Step (List (List PageRow))) {r : Sums} {f : Fault} → r ≡ sums_of x → r.pages ≡ Err f → x ≡ refused f
scan_refused (found pss p) {r} {f} is e =
    let g : found (pages_of pss) p ≡ refused f = ap as_step (sym (ap (λ (y : Sums). y.pages) is) ∙ e) in
    let z : ◌≡◌ {A = ℕ} 0 1 = cc in
    absurd (omega arith)
scan_refused (refused h) {r} {f} is e =
    let g : ◌≡◌ {A = Step ℕ} (refused h) (refused f) = ap as_step (sym (ap (λ (y : Sums). y.pages) is) ∙ e) in
    let same : h ≡ f = cc in
    ap (λ (x : Fault). refused x) same

-- a verdict that refuses, and one that accepts

pub judges_refused : {x : Step (List (List PageRow))} {f : Fault} (file : ℕ) (bits e : List ℕ) → x ≡ refused f → Judges file bits e x (Err f)
unfolding Judges
judges_refused file bits e w = rw w refl

judges_agreed : {x : Step (List (List PageRow))} {pss : List (List PageRow)} {p : ℕ} (file : ℕ) (bits e : List ℕ) (j : Judged) → x ≡ found pss p → Stands file bits e j pss
    → Judges file bits e x (Ok j)
unfolding Judges
judges_agreed file bits e j w t = rw w t

-- a payload that a scan refuses
pub judged_refused : (strict : Bool) (file : ℕ) (s table : List ℕ) (n entries : ℕ) (columns : List ColumnRow) (parents flags : List ℕ) {r : Sums} {g : Fault} (e : List ℕ)
    → r ≡ sums_of (whole strict (payload file (bits_in table n) strict) s 4) → r.pages ≡ Err g
    → Judges file (bits_in table n) e (summed_by entries columns parents flags (whole strict (payload file (bits_in table n) strict) s 4)) (Err g)
unfolding summed_by
judged_refused strict file s table n entries columns parents flags e is w =
    judges_refused file (bits_in table n) e (ap (summed_by entries columns parents flags) (scan_refused (whole strict (payload file (bits_in table n) strict) s 4) is w))

-- a payload that was found by a scan
module _ (strict : Bool) (file : ℕ) (s table : List ℕ) (n : ℕ) {r : Sums} (is : r ≡ sums_of (whole strict (payload file (bits_in table n) strict) s 4)) {k q : ℕ} (e : r.pages ≡ Ok (k, q)) where
  m : Scanned (whole strict (payload file (bits_in table n) strict) s 4) r k q
  m = scan_found (whole strict (payload file (bits_in table n) strict) s 4) is e

  stood : Closed (payload file (bits_in table n) strict s 4) m.value
  stood = closed_found (λ g. g) strict (length s) (payload file (bits_in table n) strict s 4) m.was

  -- it has an item for each column
  passed : (length m.value ≤ most_columns) × (length m.value ≡ n)
  unfolding payload
  passed =
      let c = count_passes (length (bits_in table n)) (length m.value) (list_passed strict (per_column (length (bits_in table n))) (λ _. pages_after strict file (bits_in table n)) s 4 stood.was) in
      (c.0, c.1 ∙ bits_length table n)

  pub columns_inside : n ≤ length r.elements
  columns_inside =
      let c = passed in
      let k = length-map m.value elements_of in
      let long = ap length m.elements ∙ over_length (map elements_of m.value) (replicate most_columns 0) (omega arith) in
      omega arith

  sums_are : take n r.elements ≡ map elements_of m.value
  sums_are = ap (take n) m.elements ∙ take_at (map elements_of m.value) _ n (length-map m.value elements_of ∙ passed.1)

  module _ (entries : ℕ) (parents flags : List ℕ) {t : Option FieldNumber} (told : t ≡ totals entries (columns_in table n) (take n r.elements) 0 (take most_fields parents) flags) where
    outcome : totals entries (columns_in table n) (map elements_of m.value) 0 (take most_fields parents) flags ≡ t
    outcome = sym (told ∙ (λ j. totals entries (columns_in table n) (sums_are j) 0 (take most_fields parents) flags))

    pub judged_wrong : {f : FieldNumber} (e' : List ℕ) → t ≡ Some f
        → Judges file (bits_in table n) e' (summed_by entries (columns_in table n) (take most_fields parents) flags (whole strict (payload file (bits_in table n) strict) s 4)) (Err (total_fault f.0))
    unfolding summed_by
    judged_wrong {f} e' d = judges_refused {f = total_fault f.0} file (bits_in table n) e' (rw (m.was, outcome, d))

    pub judged_right : (stop : ℕ) (e' : List ℕ) → s ≡ take stop e' → t ≡ None
        → Judges file (bits_in table n) e' (summed_by entries (columns_in table n) (take most_fields parents) flags (whole strict (payload file (bits_in table n) strict) s 4)) (Ok (record { stop = stop; strict = strict; pages = k }))
    unfolding summed_by
    judged_right stop e' cut a =
        let there : payload file (bits_in table n) strict (take stop e') 4 ≡ found m.value stood.end = ap (λ (x : List ℕ). payload file (bits_in table n) strict x 4) (sym cut) ∙ stood.was in
        judges_agreed {p = q} file (bits_in table n) e' (record { stop = stop; strict = strict; pages = k }) (rw (m.was, outcome, a))
        (record { stood = rw there; rows_are = rw there; count = m.count })

-- an envelope

pub envelope_open : (file : ℕ) (bits e : List ℕ) {v : Versions} {stop : ℕ} → opened 1 e ≡ found v stop → envelope 1 (payload file bits) e ≡ whole v.strict (payload file bits v.strict) (take stop e) 4
unfolding versioned
envelope_open file bits e o = rw o

pub envelope_refused : (file : ℕ) (bits e bits' : List ℕ) (entries : ℕ) (columns : List ColumnRow) (parents flags : List ℕ) {g : Fault} → opened 1 e ≡ refused g
    → Judges file bits' e (summed_by entries columns parents flags (envelope 1 (payload file bits) e)) (Err g)
unfolding versioned summed_by
envelope_refused file bits e bits' entries columns parents flags {g} o = judges_refused {f = g} file bits' e (rw o)

-- by what a header's lists have it is the page list's own
pub summed_same : (entries file : ℕ) (l : Lists) (parents flags table : List ℕ) (n : ℕ) (e : List ℕ) → SchemaOf l parents flags table n
    → summed_by entries (columns_in table n) (take most_fields parents) flags (envelope 1 (payload file (bits_in table n)) e) ≡ summed entries l (envelope 1 (payload file (bits_of l.columns)) e)
unfolding summed_by summed
summed_same entries file l parents flags table n e o =
    (λ j. summed_by entries (o.columns_are j) (o.parents_are j) (o.flags_are j) (envelope 1 (payload file (o.bits_are j)) e)) ∙ by (envelope 1 (payload file (bits_of l.columns)) e)
  where
    by : (x : Step (List (List PageRow))) → summed_by entries l.columns (parents_of l.fields) (flags_of l.fields) x ≡ summed entries l x
    by (found pss p) = refl
    by (refused f) = refl
