-- What is answered about a page list.
use Prim.Native.Nat.{ℕ, ◌+◌, ◌*◌, ◌/◌, ◌≤◌, ◌<◌}
use mathlib.Core.List.{List}
use mathlib.Core.Bool.{true}
use mathlib.Core.Path.{◌≡◌, refl, sym, ap, subst, ◌∙◌}
use native.Mathlib.Omega.{arith}
use lib.ListN.{length}
use lib.Dec.{leb}
use Rattle.wire.specs.Reading.{unless}
use Rattle.wire.proofs.Laws.{passed}
use Rattle.envelope.specs.Envelope.{ceiling}
use Rattle.header.specs.Header.{Header}
use Rattle.header.specs.Beside.{read}
use Rattle.rows.specs.Tables.{column_row}
use Rattle.rows.proofs.FirstRows.{rows_length}
use Rattle.column_pages.specs.ColumnPages.{bits_of}
use Rattle.page_list.specs.PageList.{totals_of}
use Rattle.page_list.specs.Schema.{SchemaOf}
use Rattle.verdicts.specs.Length.{capped}
use Rattle.writing.specs.Piece.{Piece, first, tested_first, enveloped}
use Rattle.writing.specs.Rows.{page_words_at, page_rows_in}
use Rattle.writing.specs.PageList.{by_column, in_column_order, page_list_payload_piece, pages_say, totals_number, counting_all, page_list_piece}
use Rattle.writing.specs.Answers.{Answered}
use Rattle.writing.specs.Promises.{PageListPromised}
use Rattle.writing.specs.Answer.{WriteAnswer}
use Rattle.writing.proofs.Sure.{first_none}
use Rattle.writing.proofs.PageListBack.{page_list_promised}
use Rattle.page_list_check.proofs.WholeLaws.{Number}
use Rattle.stores.specs.Stored.{InFront}
use Rattle.stores.proofs.Answers.{Exact, length_first, long_answer, number_answer, room_answer, written_answer}
use Rattle.stores.proofs.Counting.{counted}
use Rattle.std.specs.Prelude.{Ok, Err}

module _ (entries file : ℕ) (parents flags columns table out : List ℕ) (n : ℕ) (h : Header) (o : SchemaOf h.lists parents flags columns n) where
  abbrev x : Piece
  x = page_list_piece h entries file (page_rows_in table)

  abbrev bits : List ℕ
  bits = bits_of h.lists.columns

  abbrev Answers : List ℕ → WriteAnswer → Type 0
  Answers = Answered 3 (read x) out

  -- as many columns as the header has
  count : n ≡ length h.lists.columns
  count = sym (rows_length column_row columns n) ∙ ap length o.columns_are

  -- the first refusal of a page list that is short enough, for so many columns
  abbrev rest : ℕ → ℕ
  rest k = first (unless (in_column_order k 0 (page_rows_in table)) 14 (page_list_payload_piece file bits (by_column 0 k (page_rows_in table))).number) (totals_number (totals_of entries h.lists (pages_say k (page_rows_in table))))

  -- its length is tested first
  number_is_lem : {r : ℕ} → r ≡ rest n → x.number ≡ unless (leb x.long ceiling) 1 r
  unfolding page_list_piece
  number_is_lem e =
      let k = length h.lists.columns in
      let y = tested_first (in_column_order k 0 (page_rows_in table)) 14 (counting_all k (length (page_rows_in table)) (page_list_payload_piece file bits (by_column 0 k (page_rows_in table)))) in
      length_first 1 1 y (totals_number (totals_of entries h.lists (pages_say k (page_rows_in table))))
      ∙ ap (unless (leb x.long ceiling) 1) (sym (e ∙ ap rest count))

  exact : Exact x
  unfolding PageListPromised
  exact = (page_list_promised h entries file (page_rows_in table)).long

  -- nothing is refused: the rows stand in order
  in_order_lem : {r : ℕ} → r ≡ rest n → r ≡ 0 → in_column_order n 0 (page_rows_in table) ≡ true
  in_order_lem e good = (passed (in_column_order n 0 (page_rows_in table)) 13 _ (first_none _ _ (sym e ∙ good)).0).0

  -- the bytes are those of so many columns
  stands_there : {out' : List ℕ} → InFront (enveloped 1 1 (page_list_payload_piece file bits (by_column 0 n (page_rows_in table)))) out out' → InFront x out out'
  unfolding page_list_piece
  stands_there {out'} s = subst (λ (k : ℕ). InFront (enveloped 1 1 (page_list_payload_piece file bits (by_column 0 k (page_rows_in table)))) out out') count s

  module _ {long : ℕ} (its : long ≡ capped (16 + (n * 8 + length table / 5 * 16))) where
    long_is : long ≡ capped x.long
    unfolding page_list_piece
    long_is =
        let many = rows_length page_words_at table (length table / 5) in
        let sum : 16 + (n * 8 + length table / 5 * 16) ≡ 8 + (8 + 8 * length h.lists.columns + 16 * length (page_rows_in table)) = omega (arith, count, many) in
        its ∙ ap capped sum

    pub list_long : ceiling < long → Answers out (Err (record { envelope = 3; number = 1 }))
    list_long big = long_answer 3 x out (rest n) (number_is_lem refl) long (counted x.long long long_is) big

    module _ (short : long ≤ ceiling) {number : ℕ} (is : Number file entries parents flags columns table n number) where
      pub list_refused_lem : (number ≡ 0 → ⊥) → Answers out (Err (record { envelope = 3; number = number }))
      list_refused_lem bad = number_answer 3 x out number (number_is_lem (is h.lists o)) long (counted x.long long long_is) short bad

      pub list_roomless : number ≡ 0 → length out < long → Answers out (Err (record { envelope = 3; number = 20 }))
      list_roomless good few = room_answer 3 x out number (number_is_lem (is h.lists o)) long (counted x.long long long_is) short good few

      pub list_written : {out' : List ℕ} → number ≡ 0 → long ≤ length out
          → (in_column_order n 0 (page_rows_in table) ≡ true → (file : ℕ) (bits : List ℕ) → InFront (enveloped 1 1 (page_list_payload_piece file bits (by_column 0 n (page_rows_in table)))) out out')
          → Answers out' (Ok long)
      list_written {out'} good enough stands =
          written_answer 3 x out number (number_is_lem (is h.lists o)) long (counted x.long long long_is) short out' exact good enough (stands_there (stands (in_order_lem (is h.lists o) good) file bits))
