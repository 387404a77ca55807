-- From the scan of a header to the listing of its fields.
use Prim.Native.Nat.{ℕ, ◌<◌}
use mathlib.Core.Path.{◌≡◌, sym, ap, ◌∙◌}
use mathlib.Core.Bool.{Bool}
use mathlib.Core.List.{List, []}
use native.Mathlib.Omega.{arith}
use lib.Dec.{eqb}
use lib.ListN.{length, get_or}
use Rattle.numbers.specs.Rows.{flat}
use Rattle.wire.specs.declared.Fault.{Fault}
use Rattle.wire.specs.Reading.{found, refused, mapped}
use Rattle.rows.specs.Words.{field_words, field_of}
use Rattle.rows.specs.Tables.{field_row, columns_in}
use Rattle.rows.specs.declared.FieldRow.{FieldRow}
use Rattle.rows.proofs.RowLaws.{bit_back, fields_back}
use Rattle.rows.proofs.TableLaws.{flat_is}
use Rattle.parents.specs.Dark.{dark_mark}
use Rattle.header.specs.Tables.{header_of, parents_of}
use Rattle.header_payload.specs.Answers.{scan_of}
use Rattle.header_payload.specs.declared.HeaderScan.{HeaderScan}
use Rattle.header_reader.specs.Fits.{Scanned}
use Rattle.header_reader.proofs.ReadLaws.{the_header, rows_there_lem, is_found, fields_count, some_parents, few_fields_lem, mark_is}
use Rattle.moves.proofs.Laws.{field_count_lem, header_rooted}
use Rattle.listing.specs.Order.{Entry, order, order_of}
use Rattle.listing.specs.Lines.{entry_line, row_in, dark_in, marked, listing}
use Rattle.listing.specs.Answers.{fitted, placed, answer, left, outcome_of, Answered}
use Rattle.listing.specs.Answer.{ListAnswer}
use Rattle.listing.proofs.Front.{order_front}
use Rattle.listing.proofs.LineLaws.{lines_same}
use Rattle.std.specs.Prelude.{Err}

-- a line is told by the row and the mark of its field
line_same : (e : List ℕ) {row row' : ℕ → FieldRow} {d d' : ℕ → Bool} {n : ℕ} → ((k : ℕ) → k < n → row k ≡ row' k) → ((k : ℕ) → d k ≡ d' k)
    → (x : Entry) → x.field < n → entry_line e row d x ≡ entry_line e row' d' x
unfolding entry_line
line_same e rows marks x l = rw (rows x.field l, marks x.field)

answered : (e : List ℕ) {out out' : List ℕ} {r : ListAnswer} → r ≡ answer (length out) e (header_of e) → out' ≡ left out e (header_of e) → Answered e out out' r
answered e is bytes = record { answers = is; reports = ap outcome_of is; bytes_are = bytes }

pub refused_answer : (e : List ℕ) {g : Fault} (out : List ℕ) → header_of e ≡ refused g → Answered e out out (Err g.number)
unfolding answer left
refused_answer e out w = answered e (rw w) (rw w)

-- a header that a scan found, what it left in the arrays, and the dark marks of its fields
module _ (e : List ℕ) {scan : HeaderScan} {q : ℕ} (w : found scan q ≡ mapped scan_of (header_of e)) {p r c a : List ℕ} (k : Scanned (header_of e) p r c a)
    (marks : List ℕ) (dark : (f : ℕ) → get_or marks f 0 ≡ dark_mark p scan.lists.fields (columns_in c scan.lists.columns) f) where
  row_is : (i : ℕ) → i < length (parents_of (the_header e w k).value.lists.fields) → field_row r i ≡ row_in (the_header e w k).value.lists i
  row_is i l =
      let n = field_count_lem (the_header e w k).value.lists.fields in
      ap (λ (t : List ℕ). field_row t i) (rows_there_lem e w k).fields_are
      ∙ rw (← flat_is (field_words 0) 0 (the_header e w k).value.lists.fields) (fields_back.each (λ _. 0) (the_header e w k).value.lists.fields _ (field_of []) i (omega arith)).0

  mark_told : (i : ℕ) → marked marks i ≡ dark_in (the_header e w k).value.lists i
  mark_told i = ap (λ (n : ℕ). eqb n 1) (dark i ∙ mark_is e w k i) ∙ bit_back (dark_in (the_header e w k).value.lists i)

  order_is : order_of p scan.lists.fields ≡ order (parents_of (the_header e w k).value.lists.fields)
  order_is =
      order_front p scan.lists.fields (parents_of (the_header e w k).value.lists.fields) (few_fields_lem e w k) (some_parents e w k) (field_count_lem (the_header e w k).value.lists.fields ∙ sym (fields_count e w k)) (header_rooted e (is_found e w k))

  listing_is : flat (entry_line e (field_row r) (marked marks)) (order_of p scan.lists.fields) ≡ listing e (the_header e w k).value.lists
  unfolding listing
  listing_is = ap (flat (entry_line e (field_row r) (marked marks))) order_is ∙ lines_same _ _ (parents_of (the_header e w k).value.lists.fields) (line_same e row_is mark_told)

  pub listed_answer : {out out' : List ℕ} {x : ListAnswer} → x ≡ fitted (length out) (flat (entry_line e (field_row r) (marked marks)) (order_of p scan.lists.fields))
      → out' ≡ placed out (flat (entry_line e (field_row r) (marked marks)) (order_of p scan.lists.fields)) → Answered e out out' x
  unfolding answer left
  listed_answer {out} is bytes =
      answered e (rw (is_found e w k) (is ∙ ap (fitted (length out)) listing_is)) (rw (is_found e w k) (bytes ∙ ap (placed out) listing_is))
