-- The bytes of pages and columns that are written.
use Prim.Native.Nat.{ℕ, zero, suc, ◌+◌, ◌*◌, ◌/◌, ◌%◌, ◌-◌, ◌^◌, ◌≤◌, ◌<◌}
use mathlib.Core.List.{List, [], ◌∷◌}
use mathlib.Core.Bool.{true}
use mathlib.Core.Path.{◌≡◌, refl, sym, ap, ◌∙◌}
use native.Mathlib.Omega.{arith}
use lib.ListN.{length, get_or, take, drop}
use Rattle.rows.specs.Tables.{first_rows}
use Rattle.pages.specs.Pages.{running_total}
use Rattle.tree.specs.Bytes.{spelled}
use Rattle.stores.specs.Stored.{Stored}
use Rattle.stores.proofs.Storing.{stored_as_lem}
use Rattle.stores.proofs.Laid.{Laid, laid_none, laid_more, laid_all}
use Rattle.writing.specs.Piece.{pieces, list_piece}
use Rattle.writing.specs.Rows.{page_words_at, page_rows_in}
use Rattle.writing.specs.PageList.{by_column, in_column_order, pages_in, page_piece, page_item, column_pages_item}
use Rattle.writing.specs.declared.PageWords.{PageWords}
use Rattle.page_list_check.specs.Runs.{leading, run, column_at}
use Rattle.page_list_check.proofs.Parts.{front_rows, rest_rows}
use Rattle.page_list_check.proofs.Runs.{by_column_lem, Reached, reached_none, reached_more, run_fits, run_front}
use Rattle.page_list_check.proofs.Order.{InRun, run_none, run_more, run_stops, run_all}

-- k bytes spell a number without what is above them
abbrev above : ℕ → ℕ → ℕ
above zero q = q
above (suc k) q = 256 * above k q

cut_off : (k w q : ℕ) → spelled k (w + above k q) ≡ spelled k w
unfolding spelled
cut_off zero w q = refl
cut_off (suc k) w q =
    let t = above k q in
    let low : (w + 256 * t) % 256 ≡ w % 256 = omega arith in
    let high : (w + 256 * t) / 256 ≡ w / 256 + t = omega arith in
    (λ i. low i ∷ spelled k (high i)) ∙ ap (λ (l : List ℕ). w % 256 ∷ l) (cut_off k (w / 256) q)

-- a page's first word, where what does not fit is cut off
pub word_bytes : (elements bit : ℕ) → spelled 4 (elements % 4294967296 + 4294967297 * (bit % 4) / 4) ≡ spelled 4 (elements + 2 ^ 30 * bit)
word_bytes elements bit =
    let w = elements % 4294967296 + 4294967297 * (bit % 4) / 4 in
    let q = elements / 4294967296 + bit / 4 in
    let same : elements + 2 ^ 30 * bit ≡ w + above 4 q = omega arith in
    sym (ap (spelled 4) same ∙ cut_off 4 w q)

-- the pages of the first i of n columns stand there, which have the rows before row `start`, where the rows stand in order
pub record Columns (table : List ℕ) (n : ℕ) (out₀ : List ℕ) (at i start : ℕ) (out : List ℕ) (next : ℕ) : Type 0 where
  pub inside : start ≤ length table / 5
  pub onward : at ≤ next
  pub long : length out ≡ length out₀
  pub reached : in_column_order n 0 (page_rows_in table) ≡ true → Reached table n i start
  pub laid : in_column_order n 0 (page_rows_in table) ≡ true → (file : ℕ) (bits : List ℕ) → Laid (column_pages_item file bits) column_at table n out₀ at i out next

module _ {table : List ℕ} {n : ℕ} {out₀ : List ℕ} {at : ℕ} where
  pub columns_none : Columns table n out₀ at 0 0 out₀ at
  columns_none =
      record {
        inside = omega arith;
        onward = omega arith;
        long = refl;
        reached = reached_none table n;
        laid = λ _ file bits. laid_none (column_pages_item file bits) column_at table n out₀ at;
      }

  pub columns_all : {i start : ℕ} {out : List ℕ} {next : ℕ} → Columns table n out₀ at i start out next → n ≤ i → in_column_order n 0 (page_rows_in table) ≡ true → (file : ℕ) (bits : List ℕ)
      → Stored out₀ at (pieces (column_pages_item file bits) [] (by_column 0 n (page_rows_in table))).bytes out next
  columns_all m h order file bits = rw (by_column_lem table n) (laid_all (column_pages_item file bits) column_at table (m.laid order file bits) h)

  module _ {i start : ℕ} {out : List ℕ} {next : ℕ} (m : Columns table n out₀ at i start out next) (h : i < n)
      {rest : List ℕ} (cut : rest ≡ take (5 * (length table / 5) - 5 * start) (drop (5 * start) table))
      {count : ℕ} (many : count ≡ leading i (page_rows_in rest)) where
    its_rest : page_rows_in rest ≡ drop start (page_rows_in table)
    its_rest = ap page_rows_in cut ∙ rest_rows table start m.inside

    stop : start + count ≡ start + leading i (drop start (page_rows_in table))
    stop = ap (λ (k : ℕ). start + k) (many ∙ ap (leading i) its_rest)

    pub run_inside : start + count ≤ length table / 5
    run_inside = (run_fits table i start (start + count) m.inside stop).1

    pub columns_more : {out' : List ℕ} {next' : ℕ} → length out' ≡ length out
        → ((file bits before : ℕ) → Stored out next (list_piece (running_total before) (page_item file bits) (run i (page_rows_in rest))).bytes out' next')
        → Columns table n out₀ at (i + 1) (start + count) out' next'
    columns_more {out'} {next'} kept stored =
        record {
          inside = run_inside;
          onward = omega (arith, m.onward, (stored 0 0 0).onward);
          long = kept ∙ m.long;
          reached = λ order. reached_more table (m.reached order) stop;
          laid = λ order file bits.
              laid_more (column_pages_item file bits) column_at table (m.laid order file bits) h
              (stored_as_lem (ap (λ (ps : List PageWords). (column_pages_item file bits (first_rows column_at table i) ps).bytes) (ap (run i) its_rest ∙ run_front table (m.reached order) stop))
              (stored file (get_or bits (length (first_rows column_at table i)) 0) (pages_in (first_rows column_at table i))));
        }

-- the first i pages stand there, which are of column c
pub record Pages (table : List ℕ) (c : ℕ) (out₀ : List ℕ) (at i : ℕ) (out : List ℕ) (next : ℕ) : Type 0 where
  pub inside : i ≤ length table / 5
  pub long : length out ≡ length out₀
  pub in_run : InRun table c 0 i
  pub laid : (file bits : ℕ) → Laid (page_item file bits) page_words_at table (leading c (page_rows_in table)) out₀ at i out next

module _ {table : List ℕ} {c : ℕ} {out₀ : List ℕ} {at : ℕ} where
  pub pages_none : Pages table c out₀ at 0 out₀ at
  pages_none =
      record {
        inside = omega arith;
        long = refl;
        in_run = run_none table;
        laid = λ file bits. laid_none (page_item file bits) page_words_at table (leading c (page_rows_in table)) out₀ at;
      }

  module _ {i : ℕ} {out : List ℕ} {next : ℕ} (m : Pages table c out₀ at i out next) where
    pub pages_more : i < length table / 5 → {p : PageWords} → p ≡ page_words_at table i → p.column ≡ c → {out' : List ℕ} {next' : ℕ} → length out' ≡ length out
        → ((file bits : ℕ) → Stored out next (page_piece file bits p).bytes out' next') → Pages table c out₀ at (i + 1) out' next'
    pages_more h {p} is same kept stored =
        let more = run_more table m.in_run h (ap (λ (q : PageWords). q.column) is) same in
        record {
          inside = omega arith;
          long = kept ∙ m.long;
          in_run = more;
          laid = λ file bits.
              laid_more (page_item file bits) page_words_at table (m.laid file bits) (omega (arith, more.same))
              (stored_as_lem (ap (λ (q : PageWords). (page_piece file bits q).bytes) is) (stored file bits));
        }

    -- what is asked of the code, where the run ends with row i
    pub pages_end : i ≡ 0 + leading c (drop 0 (page_rows_in table))
        → (i ≡ leading c (page_rows_in table)) × ((file bits : ℕ) → Stored out₀ at (pieces (page_item file bits) [] (run c (page_rows_in table))).bytes out next)
    pages_end e =
        let n = leading c (page_rows_in table) in
        let all : i ≡ n = omega arith in
        (all, λ file bits. stored_as_lem (ap (λ (ps : List PageWords). (pieces (page_item file bits) [] ps).bytes) (front_rows table n (omega (arith, m.inside)))) (laid_all (page_item file bits) page_words_at table (m.laid file bits) (omega arith)))

    pub pages_stop : i < length table / 5 → {p : PageWords} → p ≡ page_words_at table i → (p.column ≡ c → ⊥)
        → (i ≡ leading c (page_rows_in table)) × ((file bits : ℕ) → Stored out₀ at (pieces (page_item file bits) [] (run c (page_rows_in table))).bytes out next)
    pages_stop h is other = pages_end (run_stops table m.in_run h (ap (λ (q : PageWords). q.column) is) other)

    pub pages_all : length table / 5 ≤ i
        → (length table / 5 ≡ leading c (page_rows_in table)) × ((file bits : ℕ) → Stored out₀ at (pieces (page_item file bits) [] (run c (page_rows_in table))).bytes out next)
    pages_all h =
        let both = pages_end (run_all table m.in_run h) in
        let count : i ≡ leading c (page_rows_in table) = both.0 in
        (omega (arith, m.inside), both.1)
