-- The loop over the columns: the pages that are read, how many they are, and the elements of each column.
use Prim.Native.Nat.{ℕ, ◌+◌, ◌%◌, ◌^◌, ◌≤◌, ◌<◌}
use mathlib.Core.Path.{◌≡◌, refl, sym, ap, ◌∙◌}
use mathlib.Core.Bool.{Bool}
use mathlib.Core.List.{List, [], ◌∷◌, ◌++◌, map}
use native.Mathlib.Omega.{arith}
use lib.ListN.{length, get_or, set, replicate}
use Rattle.numbers.specs.Rows.{over}
use Rattle.wire.specs.declared.Fault.{Fault}
use Rattle.wire.specs.Reading.{found, refused, mapped, in_item}
use Rattle.std.specs.Prelude.{Ok}
use Rattle.frames.specs.Frames.{items}
use Rattle.wire.proofs.Laws.{Mapped, mapped_found, mapped_refused}
use Rattle.frames.proofs.Loops.{Reached, reached_none, reached_more, reached_refused, reached_all, list_passed}
use Rattle.rows.specs.Words.{most_columns, most_pages}
use Rattle.rows.specs.Tables.{column_row}
use Rattle.rows.specs.declared.PageRow.{PageRow}
use Rattle.rows.proofs.TableLaws.{Holds, holds_none, holds_set, flat_one}
use Rattle.pages.specs.Pages.{page, pages, elements_of, running_total}
use Rattle.pages.specs.Answers.{tally_of}
use Rattle.pages.specs.declared.Tally.{Tally}
use Rattle.pages.proofs.PageLaws.{total_fits}
use Rattle.column_pages.specs.ColumnPages.{pages_of, pages_after}
use Rattle.column_pages.specs.Answers.{bits_in, sums_of}
use Rattle.column_pages.proofs.ColumnLaws.{bits_at}

pub pages_snoc : (done : List (List PageRow)) (x : List PageRow) → pages_of (done ++ (x ∷ [])) ≡ pages_of done + length x
unfolding pages_of
pages_snoc [] x = omega arith
pages_snoc (c ∷ cs) x = let e = pages_snoc cs x in omega arith

-- the rule of the next column, by its number, its bits and the total so far
pub next_rule : (strict : Bool) (file : ℕ) (table : List ℕ) (n : ℕ) (s : List ℕ) (at : ℕ) (done : List (List PageRow)) {i total : ℕ} → length done ≡ i → total ≡ pages_of done → i < n
    → pages_after strict file (bits_in table n) done s at ≡ pages strict file i ((column_row table i).bits % 2 ^ 16) total s at
next_rule strict file table n s at done {i} {total} count sum h =
    let bits : get_or (bits_in table n) (length done) 0 ≡ (column_row table i).bits % 2 ^ 16 = ap (λ (k : ℕ). get_or (bits_in table n) k 0) count ∙ bits_at table n i h in
    λ j. pages strict file (count j) (bits j) (sym sum j) s at

pub pages_fit_lem : (strict : Bool) (file c bits total : ℕ) (s : List ℕ) (at : ℕ) {ps : List PageRow} {p : ℕ} → pages strict file c bits total s at ≡ found ps p → total + length ps ≤ most_pages
unfolding pages
pages_fit_lem strict file c bits total s at {ps} e = total_fits total (length ps) (list_passed strict (running_total total) (λ _ _. page file c bits) s at e)

-- i columns of the n of a list have been read, with so many pages in all, and `sums` has the elements of each in front of zeros
pub record Scanned (strict : Bool) (file : ℕ) (table : List ℕ) (list n : ℕ) (s : List ℕ) (start i at total : ℕ) (sums : List ℕ) : Type 0 where
  pub reached : Reached list (pages_after strict file (bits_in table n)) n s start i at
  pub sum : total ≡ pages_of reached.done
  pub holds : Holds (λ _ ps. elements_of ps ∷ []) reached.done (replicate most_columns 0) sums

module _ {strict : Bool} {file : ℕ} {table : List ℕ} {list n : ℕ} {s : List ℕ} {start : ℕ} where
  pub scanned_none : Scanned strict file table list n s start 0 start 0 (replicate most_columns 0)
  unfolding pages_of reached_none
  scanned_none = record { reached = reached_none; sum = refl; holds = holds_none }

  module _ {i at total : ℕ} {sums : List ℕ} (m : Scanned strict file table list n s start i at total sums) (h : i < n) where
    next : pages_after strict file (bits_in table n) m.reached.done s at ≡ pages strict file i ((column_row table i).bits % 2 ^ 16) total s at
    next = next_rule strict file table n s at m.reached.done m.reached.count m.sum h

    module _ {t : Tally} {p : ℕ} (e : found t p ≡ mapped tally_of (pages strict file i ((column_row table i).bits % 2 ^ 16) total s at)) where
      read : Mapped tally_of (pages strict file i ((column_row table i).bits % 2 ^ 16) total s at) t p
      read = mapped_found tally_of (pages strict file i ((column_row table i).bits % 2 ^ 16) total s at) e

      many : t.pages ≡ length read.value
      many = ap (λ (x : Tally). x.pages) read.is

      pub scanned_fits : total + t.pages ≤ most_pages
      scanned_fits = rw many (pages_fit_lem strict file i ((column_row table i).bits % 2 ^ 16) total s at read.was)

      pub scanned_more : i < length sums → Scanned strict file table list n s start (i + 1) p (total + t.pages) (set sums i t.elements)
      unfolding reached_more
      scanned_more inside =
          record {
            reached = reached_more m.reached h (next ∙ read.was);
            sum = let a = m.sum in let b = many in let c = pages_snoc m.reached.done read.value in omega arith;
            holds = holds_set read.value (λ _ _. refl) (ap (λ (x : Tally). x.elements ∷ []) (sym read.is)) m.holds m.reached.count inside;
          }

    pub scanned_refused : {f : Fault} → refused f ≡ mapped tally_of (pages strict file i ((column_row table i).bits % 2 ^ 16) total s at)
        → items list (pages_after strict file (bits_in table n)) n [] s start ≡ refused (in_item list i f)
    scanned_refused e = reached_refused m.reached h (next ∙ mapped_refused tally_of (pages strict file i ((column_row table i).bits % 2 ^ 16) total s at) e)

  module _ {i at total : ℕ} {sums : List ℕ} (m : Scanned strict file table list n s start i at total sums) (h : n ≤ i) where
    pub scanned_all : record { pages = Ok (total, at); elements = sums } ≡ sums_of (items list (pages_after strict file (bits_in table n)) n [] s start)
    scanned_all =
        let held : sums ≡ over (map elements_of m.reached.done) (replicate most_columns 0) = rw (← flat_one elements_of 0 m.reached.done) m.holds.rows in
        rw (reached_all m.reached h) (λ j. record { pages = Ok (m.sum j, at); elements = held j })
