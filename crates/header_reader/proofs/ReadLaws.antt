-- The reading of a header: from its scan to the answer and the lent tables.
use Prim.Native.Nat.{ℕ, ◌*◌, ◌≤◌}
use mathlib.Core.Path.{◌≡◌, refl, sym, ap, subst, ◌∙◌}
use mathlib.Core.Bool.{true, false}
use mathlib.Core.List.{List}
use native.Mathlib.Omega.{arith}
use lib.ListN.{length, take, replicate, length-map}
use lib.Seq.{take_at}
use Rattle.numbers.specs.Rows.{flat, flat_by, over}
use Rattle.wire.specs.declared.Fault.{Fault}
use Rattle.wire.specs.Reading.{Step, found, refused, mapped}
use Rattle.wire.proofs.Laws.{Mapped, mapped_found}
use Rattle.rows.specs.Words.{bit, most_fields, column_width, alias_width, field_words, column_words, alias_words}
use Rattle.rows.specs.Tables.{field_row, first_rows, columns_in}
use Rattle.rows.specs.declared.FieldRow.{FieldRow}
use Rattle.rows.proofs.RowLaws.{columns_back, fields_back}
use Rattle.rows.proofs.TableLaws.{flat_same, flat_is}
use Rattle.parents.specs.Parents.{Inside}
use Rattle.parents.specs.Dark.{dark, dark_mark}
use Rattle.parents.proofs.InsideLaws.{inside_front}
use Rattle.parents.proofs.DarkLaws.{Owned, hanging_all}
use Rattle.header.specs.Header.{Header}
use Rattle.header.specs.Tables.{parents_of, header_of, fitting, answer, written, outcome_of, texts_of, field_table, column_table, alias_table, Answered}
use Rattle.header.specs.Answer.{HeaderAnswer}
use Rattle.header.proofs.BoundLaws.{each_owned}
use Rattle.header.proofs.HeaderLaws.{fields_few, parents_inside, column_fields}
use Rattle.header_payload.specs.Answers.{scan_of}
use Rattle.header_payload.specs.declared.HeaderScan.{HeaderScan}
use Rattle.header_reader.specs.Fits.{Fits, Rows, Scanned}
use Rattle.header_reader.proofs.ScanLaws.{fitting_true}
use Rattle.header_reader.proofs.FillLaws.{front}
use Rattle.std.specs.Prelude.{Ok, Err}

-- a call that leaves the answer and the tables that are due
answered : (x : Step Header) {f₀ f c₀ c a₀ a : List ℕ} {r : HeaderAnswer} → r ≡ answer (length f₀) (length c₀) (length a₀) x
    → f ≡ written field_table (length f₀) (length c₀) (length a₀) f₀ x → c ≡ written column_table (length f₀) (length c₀) (length a₀) c₀ x → a ≡ written alias_table (length f₀) (length c₀) (length a₀) a₀ x
    → Answered x f₀ f c₀ c a₀ a r
answered x e ef ec ea = record { answers = e; reports = ap outcome_of e; reports_texts = ap texts_of e; fields_are = ef; columns_are = ec; aliases_are = ea }

-- a refused header changes no table
pub answered_refused : {x : Step Header} {g : Fault} (f c a : List ℕ) → x ≡ refused g → Answered x f f c c a a (Err g.number)
unfolding answer written
answered_refused {x} f c a e = answered x (rw e) (rw e) (rw e) (rw e)

-- a header that a scan found, and what it left in the arrays
module _ (e : List ℕ) {scan : HeaderScan} {q : ℕ} (w : found scan q ≡ mapped scan_of (header_of e)) {p r c a : List ℕ} (k : Scanned (header_of e) p r c a) where
  pub the_header : Mapped scan_of (header_of e) scan q
  the_header = mapped_found scan_of (header_of e) w

  pub rows_there_lem : Rows the_header.value.lists p r c a
  rows_there_lem = k.holds the_header.value q the_header.was

  pub is_found : header_of e ≡ found the_header.value q
  is_found = the_header.was

  pub fields_count : scan.lists.fields ≡ length the_header.value.lists.fields
  fields_count = ap (λ (x : HeaderScan). x.lists.fields) the_header.is

  columns_count : scan.lists.columns ≡ length the_header.value.lists.columns
  columns_count = ap (λ (x : HeaderScan). x.lists.columns) the_header.is

  aliases_count : scan.lists.aliases ≡ length the_header.value.lists.aliases
  aliases_count = ap (λ (x : HeaderScan). x.lists.aliases) the_header.is

  -- the dark marks

  pub some_parents : take scan.lists.fields p ≡ parents_of the_header.value.lists.fields
  some_parents =
      ap (take scan.lists.fields) rows_there_lem.parents_are
      ∙ take_at (parents_of the_header.value.lists.fields) _ scan.lists.fields (length-map the_header.value.lists.fields (λ (r : FieldRow). r.head.parent.0) ∙ sym fields_count)

  pub few_fields_lem : scan.lists.fields ≤ most_fields
  few_fields_lem = let n = fields_count in let b = fields_few e is_found in omega arith

  inside : Inside (parents_of the_header.value.lists.fields) scan.lists.fields
  inside i h =
      let n = fields_count in
      let b = parents_inside e is_found i (omega arith) in
      omega arith

  columns_back_are : columns_in c scan.lists.columns ≡ the_header.value.lists.columns
  columns_back_are =
      ap (λ (t : List ℕ). columns_in t scan.lists.columns) rows_there_lem.columns_are ∙ ap (columns_in (over (column_table the_header.value.lists) (replicate (length c) 0))) columns_count
      ∙ columns_back.all the_header.value.lists.columns _

  pub mark_is : (i : ℕ) → dark_mark p scan.lists.fields (columns_in c scan.lists.columns) i ≡ bit (dark (parents_of the_header.value.lists.fields) the_header.value.lists.columns i)
  unfolding dark_mark
  mark_is i =
      rw (
        inside_front p scan.lists.fields (parents_of the_header.value.lists.fields) few_fields_lem some_parents (length-map the_header.value.lists.fields (λ (r : FieldRow). r.head.parent.0) ∙ sym fields_count) inside,
        some_parents,
        columns_back_are,
        hanging_all scan.lists.fields the_header.value.lists.columns
            (subst (λ (n : ℕ). Owned n the_header.value.lists.columns) (sym fields_count) (each_owned (length the_header.value.lists.fields) the_header.value.lists.columns (column_fields e is_found))),
      )

  -- the lent tables, once they are written

  fields_back_are : first_rows field_row r scan.lists.fields ≡ the_header.value.lists.fields
  fields_back_are =
      ap (λ (t : List ℕ). first_rows field_row t scan.lists.fields) rows_there_lem.fields_are ∙ ap (first_rows field_row (over (flat (field_words 0) the_header.value.lists.fields) (replicate (length r) 0))) fields_count
      ∙ rw (← flat_is (field_words 0) 0 the_header.value.lists.fields) (fields_back.all (λ _. 0) the_header.value.lists.fields _)

  fields_written : (F : List ℕ) {F' : List ℕ} → F' ≡ over (flat_by (λ i. field_words (dark_mark p scan.lists.fields (columns_in c scan.lists.columns) i)) 0 (first_rows field_row r scan.lists.fields)) F
      → F' ≡ over (field_table the_header.value.lists) F
  fields_written F x =
      let same = flat_same (λ i. field_words (dark_mark p scan.lists.fields (columns_in c scan.lists.columns) i)) (λ i. field_words (bit (dark (parents_of the_header.value.lists.fields) the_header.value.lists.columns i)))
      (λ i y. ap (λ d. field_words d y) (mark_is i)) 0 the_header.value.lists.fields in
      x ∙ ap (λ (l : List FieldRow). over (flat_by (λ i. field_words (dark_mark p scan.lists.fields (columns_in c scan.lists.columns) i)) 0 l) F) fields_back_are ∙ ap (λ (v : List ℕ). over v F) same

  columns_front : (take (column_width * scan.lists.columns) c ≡ column_table the_header.value.lists) × (column_width * scan.lists.columns ≤ length c)
  unfolding column_words
  columns_front = front column_words column_width (λ _. refl) the_header.value.lists.columns (replicate (length c) 0) columns_count rows_there_lem.columns_are

  aliases_front : (take (alias_width * scan.lists.aliases) a ≡ alias_table the_header.value.lists) × (alias_width * scan.lists.aliases ≤ length a)
  unfolding alias_words
  aliases_front = front alias_words alias_width (λ _. refl) the_header.value.lists.aliases (replicate (length a) 0) aliases_count rows_there_lem.aliases_are

  module _ (F C A : List ℕ) where
    fits_same : fitting (length F) (length C) (length A) scan.lists.fields scan.lists.columns scan.lists.aliases
        ≡ fitting (length F) (length C) (length A) (length the_header.value.lists.fields) (length the_header.value.lists.columns) (length the_header.value.lists.aliases)
    fits_same = ap (λ (x : HeaderScan). fitting (length F) (length C) (length A) x.lists.fields x.lists.columns x.lists.aliases) the_header.is

    pub no_room : false ≡ fitting (length F) (length C) (length A) scan.lists.fields scan.lists.columns scan.lists.aliases → Answered (header_of e) F F C C A A (Err 20)
    unfolding answer written
    no_room x = let z = sym fits_same ∙ sym x in answered (header_of e) (rw (is_found, z)) (rw (is_found, z)) (rw (is_found, z)) (rw (is_found, z))

    module _ (x : true ≡ fitting (length F) (length C) (length A) scan.lists.fields scan.lists.columns scan.lists.aliases) where
      pub fits : Fits scan.lists.fields scan.lists.columns scan.lists.aliases (length c) (length a) (length F) (length C) (length A)
      fits =
          let y = fitting_true (length F) (length C) (length A) scan.lists.fields scan.lists.columns scan.lists.aliases (sym x) in
          record { few = few_fields_lem; columns_there = columns_front.1; aliases_there = aliases_front.1; fields_fit = y.0; columns_fit = y.1; aliases_fit = y.2 }

      pub all_read : {F' C' A' : List ℕ}
          → F' ≡ over (flat_by (λ i. field_words (dark_mark p scan.lists.fields (columns_in c scan.lists.columns) i)) 0 (first_rows field_row r scan.lists.fields)) F
          → C' ≡ over (take (column_width * scan.lists.columns) c) C
          → A' ≡ over (take (alias_width * scan.lists.aliases) a) A
          → Answered (header_of e) F F' C C' A A' (Ok (record { texts = scan.texts; fields = scan.lists.fields; columns = scan.lists.columns; aliases = scan.lists.aliases }))
      unfolding answer written
      all_read i j l =
          let t = sym fits_same ∙ sym x in
          answered (header_of e)
          (rw (is_found, t) (ap (λ (v : HeaderScan). Ok (record { texts = v.texts; fields = v.lists.fields; columns = v.lists.columns; aliases = v.lists.aliases })) the_header.is))
          (rw (is_found, t) (fields_written F i))
          (rw (is_found, t) (j ∙ ap (λ (v : List ℕ). over v C) columns_front.0))
          (rw (is_found, t) (l ∙ ap (λ (v : List ℕ). over v A) aliases_front.0))
