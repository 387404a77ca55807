-- A page's range as the code has it, and the loop over the pages.
-- Assumes nothing.
use mathlib.Core.Path.{◌≡◌, refl, sym, ap, ◌∙◌}
use mathlib.Core.Bool.{true}
use mathlib.Core.List.{List, ◌∷◌}
use Prim.Native.Nat.{ℕ, ◌+◌, ◌-◌, ◌<◌, ◌≤◌}
use native.Mathlib.Numerals.{add-one}
use native.Mathlib.Omega.{arith}
use lib.Dec.{eqb}
use lib.ListN.{length, get_or, take, drop}
use borrow.Author.Tests.{le-leb, lt-leb, eq-eqb}
use Rattle.numbers.specs.Numbers.{trailer}
use Rattle.outcome.specs.Outcome.{Outcome, is_accepted}
use Rattle.rows.specs.Tables.{rows_in}
use Rattle.rows.proofs.FirstRows.{next_row, no_rows}
use Rattle.locator.specs.Locator.{in_file}
use Rattle.page_rules.specs.Page.{accept, refuse}
use Rattle.column_rules.specs.declared.ColumnPage.{ColumnPage}
use Rattle.column_rules.specs.Column.{accept_all, refuse_at, column_page_width, column_page, column_pages, inside, page_bytes, page_outcome, page_decoded, in_turn, whole_column}
use Rattle.column_rules.proofs.Inside.{inside_ends}
use Rattle.column_rules.proofs.TurnLaws.{page_accepted, page_refused, turn_accepted, turn_refused}

-- the code's verdict on a page's range, and the part that it lends
pub verdict_inside : (file : List ℕ) (p : ColumnPage) (behind r : ℕ) → behind ≡ trailer p.checksum → r ≡ in_file (length file) p.size behind p.offset
    → eqb r 0 ≡ inside file p
verdict_inside file p behind r e v = ap (λ (x : ℕ). eqb x 0) (v ∙ ap (λ (b : ℕ). in_file (length file) p.size b p.offset) e)

pub inside_within : (file : List ℕ) (p : ColumnPage) (behind : ℕ) → behind ≡ trailer p.checksum → inside file p ≡ true → p.offset + p.size + behind ≤ length file
inside_within file p behind e h = rw e (inside_ends file p h)

-- where the verdict is 0, the page and its checksum are in the file part
pub is_inside : (file : List ℕ) (p : ColumnPage) (behind r : ℕ) → behind ≡ trailer p.checksum → r ≡ in_file (length file) p.size behind p.offset → r ≡ 0
    → inside file p ≡ true
is_inside file p behind r e v z = sym (verdict_inside file p behind r e v) ∙ eq-eqb r 0 z

pub is_within : (file : List ℕ) (p : ColumnPage) (behind r : ℕ) → behind ≡ trailer p.checksum → r ≡ in_file (length file) p.size behind p.offset → r ≡ 0
    → p.offset + p.size + behind ≤ length file
is_within file p behind r e v z = inside_within file p behind e (is_inside file p behind r e v z)

pub part_is : (file : List ℕ) (p : ColumnPage) (behind : ℕ) → behind ≡ trailer p.checksum → take (p.offset + p.size + behind - p.offset) (drop p.offset file) ≡ page_bytes file p
part_is file p behind e =
    let n : p.offset + p.size + behind - p.offset ≡ p.size + trailer p.checksum = omega arith in
    ap (λ (k : ℕ). take k (drop p.offset file)) n

-- i pages of a table are decoded, to the words before `start`
pub record Reached (t : ℕ) (file table old : List ℕ) (i start : ℕ) (now : List ℕ) : Type 0 where
  pub same : in_turn t file (column_pages table) 0 0 old ≡ in_turn t file (drop i (column_pages table)) i start now
  pub room : start ≤ length now
  pub long : length now ≡ length old
  pub most : i ≤ rows_in column_page_width table

module _ (t : ℕ) (file table old : List ℕ) where
  pub reached_none : Reached t file table old 0 0 old
  reached_none = record { same = refl; room = omega arith; long = refl; most = omega arith }

  pub too_many_lem : 256 < rows_in column_page_width table → record { outcome = refuse_at 10 256; words = old } ≡ whole_column t file table old
  unfolding whole_column
  too_many_lem h = rw (lt-leb (rows_in column_page_width table) 256 h)

  few_enough : rows_in column_page_width table ≤ 256 → in_turn t file (column_pages table) 0 0 old ≡ whole_column t file table old
  unfolding whole_column
  few_enough h = rw (le-leb (rows_in column_page_width table) 256 h)

  module _ {i start : ℕ} {now : List ℕ} (r : Reached t file table old i start now) where
    -- what the rows from the next one on do
    next : {p : ColumnPage} → i < rows_in column_page_width table → p ≡ column_page table i
        → in_turn t file (column_pages table) 0 0 old ≡ in_turn t file (p ∷ drop (i + 1) (column_pages table)) i start now
    next {p} h e =
        r.same
        ∙ ap (λ (ps : List ColumnPage). in_turn t file ps i start now) (next_row column_page table (rows_in column_page_width table) i h)
        ∙ ap (λ (q : ColumnPage). in_turn t file (q ∷ drop (i + 1) (column_pages table)) i start now) (sym e)

    pub reached_more : {n : ℕ} {new : List ℕ} {p : ColumnPage} → i < rows_in column_page_width table → p ≡ column_page table i → accept n ≡ page_outcome t file p (length now) start
        → new ≡ page_decoded t file p now start → length new ≡ length now → Reached t file table old (i + 1) (start + n) new
    reached_more {n} {new} {p} h e answers leaves l =
        let a = page_accepted t file p now start (ap is_accepted (sym answers)) in
        let count : n ≡ p.elements = ap (λ (o : Outcome). get_or o.counts 0 0) (answers ∙ a.answers) in
        record {
          same = next h e ∙ turn_accepted t file p now start _ i (ap is_accepted (sym answers)) ∙ rw (count, leaves, ← add-one i);
          room = omega (arith, a.room);
          long = l ∙ r.long;
          most = omega arith;
        }

    pub reached_refused : {k : ℕ} {new : List ℕ} {p : ColumnPage} → i < rows_in column_page_width table → p ≡ column_page table i → refuse k ≡ page_outcome t file p (length now) start
        → new ≡ page_decoded t file p now start → rows_in column_page_width table ≤ 256
        → record { outcome = refuse_at k i; words = new } ≡ whole_column t file table old
    reached_refused {p = p} h e answers leaves few =
        let no = ap is_accepted (sym answers) in
        sym (next h e ∙ turn_refused t file p now start _ i no ∙ rw (← answers, leaves, page_refused t file p now start no)) ∙ few_enough few

    pub reached_all : rows_in column_page_width table ≤ i → rows_in column_page_width table ≤ 256 → record { outcome = accept_all (rows_in column_page_width table); words = now } ≡ whole_column t file table old
    unfolding in_turn
    reached_all h few =
        let m = r.most in
        let all : rows_in column_page_width table ≡ i = omega arith in
        ap (λ (n : ℕ). record { outcome = accept_all n; words = now }) all
        ∙ sym (r.same ∙ ap (λ (ps : List ColumnPage). in_turn t file ps i start now) (no_rows column_page table (rows_in column_page_width table) i h))
        ∙ few_enough few
