-- The loop over the columns: each has its figures in a row of its own.
use Prim.Native.Nat.{ℕ, ◌+◌, ◌*◌, ◌%◌, ◌^◌, ◌≤◌, ◌<◌}
use mathlib.Core.Path.{◌≡◌, refl, sym, ap, ◌∙◌}
use mathlib.Core.Bool.{Bool, true, false}
use mathlib.Core.List.{List, [], ◌∷◌}
use native.Mathlib.Omega.{arith}
use borrow.Author.Tests.{leb-true}
use lib.ListN.{length, take}
use Rattle.numbers.specs.Rows.{flat, over, put}
use Rattle.wire.specs.declared.Fault.{Fault}
use Rattle.wire.specs.Reading.{found, refused, accepted, rows_of, in_item}
use Rattle.frames.specs.Frames.{items, list_head, list_of}
use Rattle.frames.specs.declared.ListHead.{ListHead}
use Rattle.frames.proofs.Loops.{closed_ends, Reached, reached_none, reached_more, filled_all, list_is, list_accepted, list_rows, list_count_lem}
use Rattle.rows.specs.Words.{most_pages}
use Rattle.rows.specs.Tables.{column_row}
use Rattle.rows.specs.declared.ColumnRow.{ColumnRow}
use Rattle.rows.proofs.TableLaws.{Holds, holds_none, holds_more}
use Rattle.rows.specs.declared.PageRow.{PageRow}
use Rattle.pages.specs.Pages.{page, page_items, running_total, pages}
use Rattle.pages.proofs.PageLaws.{head_fits}
use Rattle.column_pages.specs.ColumnPages.{pages_of, pages_after}
use Rattle.column_pages.specs.Answers.{bits_in}
use Rattle.column_pages.proofs.ScanLaws.{pages_snoc, next_rule}
use Rattle.page_list.proofs.FillLaws.{next_pages}
use Rattle.figure_rules.specs.Report.{figure_width, figures_of, list_figures}

-- i columns of the n of a list have been read, with so many pages in all, and `table` has their figures in front of what it held
pub record Written (strict : Bool) (file : ℕ) (columns : List ℕ) (list n : ℕ) (s : List ℕ) (start i at total : ℕ) (old table : List ℕ) : Type 0 where
  pub reached : Reached list (pages_after strict file (bits_in columns n)) n s start i at
  pub holds : Holds (λ _. figures_of) reached.done old table
  pub sum : total ≡ pages_of reached.done

module _ {strict : Bool} {file : ℕ} {columns : List ℕ} {list n : ℕ} {s : List ℕ} {start : ℕ} {old : List ℕ} where
  pub columns_none : Written strict file columns list n s start 0 start 0 old old
  unfolding pages_of reached_none
  columns_none = record { reached = reached_none; holds = holds_none; sum = refl }

  module _ {i at total : ℕ} {table : List ℕ} (m : Written strict file columns list n s start i at total old table) (h : i < n)
      (a : accepted (items list (pages_after strict file (bits_in columns n)) n [] s start) ≡ true) {row : ColumnRow} (is : row ≡ column_row columns i) where
    next : pages_after strict file (bits_in columns n) m.reached.done s at ≡ pages strict file i (row.bits % 2 ^ 16) total s at
    next =
        next_rule strict file columns n s at m.reached.done m.reached.count m.sum h
        ∙ ap (λ (r : ColumnRow). pages strict file i (r.bits % 2 ^ 16) total s at) (sym is)

    stood : accepted (pages strict file i (row.bits % 2 ^ 16) total s at) ≡ true
    stood = rw next at (next_pages list (pages_after strict file (bits_in columns n)) s m.reached a h).0

    pub columns_never : {f : Fault} → list_head (running_total total) s at ≡ refused f → ⊥
    unfolding pages list_of
    columns_never e =
        let w : accepted (pages strict file i (row.bits % 2 ^ 16) total s at) ≡ false = rw e in
        omega (arith, leb-true 1 0 (sym w ∙ stood))

    module _ {head : ListHead} {stop : ℕ} (e : list_head (running_total total) s at ≡ found head stop) where
      pub columns_ready : (accepted (page_items (take stop s) at head file i (row.bits % 2 ^ 16)) ≡ true) × (total + head.count ≤ most_pages)
      unfolding pages
      columns_ready = (
        list_accepted strict (running_total total) (λ _ _. page file i (row.bits % 2 ^ 16)) s at e stood,
        head_fits total s at e,
      )

      ends : pages strict file i (row.bits % 2 ^ 16) total s at ≡ found (rows_of (page_items (take stop s) at head file i (row.bits % 2 ^ 16))) stop
      unfolding pages
      ends =
          let w = list_is strict (running_total total) (λ _ _. page file i (row.bits % 2 ^ 16)) s at e in
          w ∙ closed_ends (in_item at head.count) strict stop (page_items (take stop s) at head file i (row.bits % 2 ^ 16)) (rw w at stood)

      many : length (rows_of (page_items (take stop s) at head file i (row.bits % 2 ^ 16))) ≡ head.count
      unfolding pages
      many =
          ap length (sym (list_rows strict (running_total total) (λ _ _. page file i (row.bits % 2 ^ 16)) s at e stood))
          ∙ list_count_lem strict (running_total total) (λ _ _. page file i (row.bits % 2 ^ 16)) s at e stood

      pub columns_more : (words after : List ℕ) → words ≡ figures_of (rows_of (page_items (take stop s) at head file i (row.bits % 2 ^ 16))) → figure_width * n ≤ length old
          → after ≡ put table (figure_width * i) words → length after ≡ length table
          → Written strict file columns list n s start (i + 1) stop (total + head.count) old after
      unfolding reached_more
      columns_more words after f room stored kept =
          let long = m.holds.long in
          record {
            reached = reached_more m.reached h (next ∙ ends);
            holds = holds_more (rows_of (page_items (take stop s) at head file i (row.bits % 2 ^ 16))) figure_width (λ _ _. refl) m.holds m.reached.count (omega arith) (stored ∙ ap (put table (figure_width * i)) f) kept;
            sum = let c = pages_snoc m.reached.done (rows_of (page_items (take stop s) at head file i (row.bits % 2 ^ 16))) in let d = many in let b = m.sum in omega arith;
          }

  pub columns_all : {i at total : ℕ} {table : List ℕ} → Written strict file columns list n s start i at total old table → n ≤ i
      → table ≡ over (list_figures (rows_of (items list (pages_after strict file (bits_in columns n)) n [] s start))) old
  columns_all m h = filled_all (record { reached = m.reached; holds = m.holds }) h
