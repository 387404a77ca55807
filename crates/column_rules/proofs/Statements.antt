-- What holds of every call on a column.
-- Assumes nothing.
use Prim.Native.Nat.{ℕ, suc, ◌+◌, ◌*◌, ◌≤◌}
use mathlib.Core.Path.{◌≡◌, sym, ap, ap₂, ◌∙◌, subst}
use mathlib.Core.List.{List, [], ◌∷◌, ◌++◌, append-nil}
use mathlib.Core.Logic.{◌⊎◌, inl, inr}
use native.Mathlib.Nat.{zero-add}
use native.Mathlib.Omega.{arith}
use lib.ListN.{length, get_or, take, drop, take-append-drop}
use lib.Seq.{take_all, length-take-le}
use borrow.Author.Tests.{le-leb, lt-leb}
use Rattle.outcome.specs.Outcome.{Outcome, is_accepted}
use Rattle.rows.specs.Tables.{rows_in, first_rows}
use Rattle.rows.proofs.FirstRows.{rows_length}
use Rattle.column_rules.specs.declared.ColumnPage.{ColumnPage}
use Rattle.column_rules.specs.Answer.{ColumnAnswer}
use Rattle.column_rules.specs.Column.{OutcomeTells, accept_all, refuse_at, column_page_width, column_page_of, column_page, column_pages, most_column_pages, Decoding, index_of, in_turn, whole_column}
use Rattle.column_rules.specs.Statements.{AcceptsOr, in_column, Filled, BeforeRefused, RestUnseen, ColumnNumbers, NoPages, TooManyPages}
use Rattle.column_rules.proofs.TurnLaws.{page_numbers}
use Rattle.column_rules.proofs.Numbers.{PagesOr, turned}
use Rattle.column_rules.proofs.Ends.{Stops, Ends, ends, all_left}
use Rattle.rows.proofs.FrontRows.{first_take, first_same, rows_with, front_row}
use Rattle.std.specs.Prelude.{Ok, Err}

-- an acceptance is no refusal
no_refusal : {A : Type 0} (pages k i : ℕ) → accept_all pages ≡ refuse_at k i → A
no_refusal pages k i e = let z : ◌≡◌ {A = ℕ} 0 4 = ap (λ (o : Outcome). o.envelope) e in absurd (omega arith)

pub outcome_tells : OutcomeTells
unfolding OutcomeTells
outcome_tells (Ok m) (Ok n) e = ap Ok (ap (λ (o : Outcome). get_or o.counts 0 0) e)
outcome_tells (Ok m) (Err why) e = no_refusal m why.number why.page e
outcome_tells (Err why) (Ok m) e = no_refusal m why.number why.page (sym e)
outcome_tells (Err why) (Err other) e =
    ap₂ {A = ℕ} {B = ℕ} {C = ColumnAnswer} (λ (k i : ℕ). Err (record { number = k; page = i })) (ap (λ (o : Outcome). o.number) e) (ap (λ (o : Outcome). get_or o.counts 0 0) e)

-- few pages are decoded in turn
pub few_pages : (t : ℕ) (file table old : List ℕ) → rows_in column_page_width table ≤ most_column_pages → whole_column t file table old ≡ in_turn t file (column_pages table) 0 0 old
unfolding whole_column
few_pages t file table old few = rw (le-leb (rows_in column_page_width table) most_column_pages few)

pub too_many_pages : TooManyPages
unfolding TooManyPages whole_column
too_many_pages t file table old many = rw (lt-leb (rows_in column_page_width table) most_column_pages many)

pub no_pages_lem : NoPages
unfolding NoPages whole_column first_rows in_turn
no_pages_lem t file table old short =
    let none : rows_in column_page_width table ≡ 0 = omega arith in
    rw none

-- a table's pages up to row n, whatever stands behind them
module _ (table rest : List ℕ) (n : ℕ) (there : n ≤ rows_in column_page_width table) where
  abbrev changed : List ℕ
  changed = take (column_page_width * n) table ++ rest

  front_pages : take n (column_pages changed) ≡ take n (column_pages table)
  front_pages =
      first_take column_page changed n (rows_in column_page_width changed) (rows_with column_page_width n table rest (omega arith) there)
      ∙ first_same column_page changed table n (λ i h. ap column_page_of (front_row column_page_width n table rest (omega arith) there i h))
      ∙ sym (first_take column_page table n (rows_in column_page_width table) there)

-- where a call on few pages ends
module _ (t : ℕ) (file table old : List ℕ) (few : rows_in column_page_width table ≤ most_column_pages) where
  abbrev d : Decoding
  d = whole_column t file table old

  pub whole_ends : Ends t file (column_pages table) 0 0 old d
  whole_ends = rw (few_pages t file table old few) (ends t file (column_pages table) 0 0 old)

  -- the index is how many pages are accepted
  pub accepted_pages : index_of d ≡ whole_ends.done
  accepted_pages = whole_ends.index ∙ zero-add whole_ends.done

  pub rows_are_lem : length (column_pages table) ≡ rows_in column_page_width table
  rows_are_lem = rows_length column_page table (rows_in column_page_width table)

  -- the pages before that index are accepted, and leave the words that are left
  pub before_it : in_turn t file (take (index_of d) (column_pages table)) 0 0 old ≡ record { outcome = accept_all (index_of d); words = d.words }
  before_it =
      ap (λ (n : ℕ). in_turn t file (take n (column_pages table)) 0 0 old) accepted_pages ∙ whole_ends.before
      ∙ ap (λ (n : ℕ). record { outcome = accept_all n; words = d.words }) (sym whole_ends.index)

  -- a page that is refused is there
  module _ (k i : ℕ) (e : d.outcome ≡ refuse_at k i) where
    refused_at : index_of d ≡ i
    refused_at = ap (λ (o : Outcome). get_or o.counts 0 0) e

    stops_there : Stops t file (column_pages table) 0 0 old d i
    stops_there = rw (sym refused_at ∙ accepted_pages) (by whole_ends.last)
      where
        by : ((whole_ends.done ≡ length (column_pages table)) × (d.outcome ≡ accept_all (0 + whole_ends.done))) ⊎ Stops t file (column_pages table) 0 0 old d whole_ends.done
            → Stops t file (column_pages table) 0 0 old d whole_ends.done
        by (inl l) = no_refusal (0 + whole_ends.done) k i (sym l.1 ∙ e)
        by (inr s) = s

    row_there : suc i ≤ rows_in column_page_width table
    row_there = let a = stops_there.less in let b = rows_are_lem in omega arith

-- a call on few pages is refused by the numbers that each page at its place is refused by
pub whole_numbers : (ks : List ℕ) (t : ℕ) (file table old : List ℕ) → rows_in column_page_width table ≤ most_column_pages
    → PagesOr ks t file (length old) (column_pages table) 0 → AcceptsOr ks (rows_in column_page_width table) (whole_column t file table old)
whole_numbers ks t file table old few each =
    let rows : 0 + length (column_pages table) ≡ rows_in column_page_width table = zero-add (length (column_pages table)) ∙ rows_are_lem t file table old few in
    rw (few_pages t file table old few)
    (subst (λ (m : ℕ). AcceptsOr ks m (in_turn t file (column_pages table) 0 0 old)) rows (turned ks t file (column_pages table) 0 0 old each))

pub column_numbers : ColumnNumbers
unfolding ColumnNumbers
column_numbers t file table old few = whole_numbers in_column t file table old few (each (column_pages table) 0)
  where
    each : (ps : List ColumnPage) (start : ℕ) → PagesOr in_column t file (length old) ps start
    each [] start = tt
    each (p ∷ ps) start = (page_numbers t file p old start, each ps (start + p.elements))

pub filled : Filled
unfolding Filled
filled t file table old few =
    let d : Decoding = whole_column t file table old in
    let b = before_it t file table old few in
    let l = all_left t file (take (index_of d) (column_pages table)) 0 0 old (omega arith) (ap (λ (d : Decoding). is_accepted d.outcome) b) in
    (omega (arith, l.0), sym (ap (λ (d : Decoding). d.words) b) ∙ l.1)

pub before_refused : BeforeRefused
unfolding BeforeRefused
before_refused t k i file table old few e =
    let d : Decoding = whole_column t file table old in
    let at = refused_at t file table old few k i e in
    let there = row_there t file table old few k i e in
    let front : List ℕ = take (column_page_width * i) table in
    let size : length front ≡ column_page_width * i = length-take-le (column_page_width * i) table (omega arith) in
    let rows : rows_in column_page_width front ≡ i = omega arith in
    let pages : column_pages front ≡ take i (column_pages table) =
    sym (take_all i (column_pages front) (omega (arith, rows_length column_page front (rows_in column_page_width front))))
    ∙ ap (λ (l : List ℕ). take i (column_pages l)) (sym (append-nil front)) ∙ front_pages table [] i (omega arith) in
    few_pages t file front old (omega arith)
    ∙ ap (λ (ps : List ColumnPage). in_turn t file ps 0 0 old) (pages ∙ ap (λ (n : ℕ). take n (column_pages table)) (sym at))
    ∙ before_it t file table old few
    ∙ ap (λ (n : ℕ). record { outcome = accept_all n; words = d.words }) at

pub rest_unseen : RestUnseen
unfolding RestUnseen
rest_unseen t k i file table rest old few e still =
    let new : List ℕ = take (column_page_width * suc i) table ++ rest in
    let there = row_there t file table old few k i e in
    few_pages t file new old still
    ∙ ap (λ (ps : List ColumnPage). in_turn t file ps 0 0 old)
    (sym (take-append-drop (suc i) (column_pages new)) ∙ ap (λ (ps : List ColumnPage). ps ++ drop (suc i) (column_pages new)) (front_pages table rest (suc i) there))
    ∙ (stops_there t file table old few k i e).same (drop (suc i) (column_pages new))
