-- The loop that writes the rows of each column's pages: they stand one column after the other.
use Prim.Native.Nat.{ℕ, zero, suc, ◌+◌, ◌-◌, ◌*◌, ◌%◌, ◌^◌, ◌≤◌, ◌<◌}
use mathlib.Core.Path.{◌≡◌, refl, sym, ap, ◌∙◌}
use mathlib.Core.Bool.{Bool, true}
use mathlib.Core.List.{List, [], ◌∷◌, ◌++◌, append_assoc, append-nil}
use native.Mathlib.Omega.{arith}
use borrow.Author.Tests.{leb-true}
use borrow.Rule.Slice.PartMut.{put_mid, same_len_mid}
use lib.ListN.{length, take, drop, length-append}
use lib.Seq.{take_at, drop_at, drop-drop}
use Rattle.numbers.proofs.Parts.{rest_of, put_rest}
use Rattle.numbers.specs.Rows.{flat, over}
use Rattle.wire.specs.declared.Fault.{Fault}
use Rattle.wire.specs.Reading.{Step, found, refused, Rule, accepted, counted, rows_of, after}
use Rattle.frames.specs.Frames.{items, within}
use Rattle.wire.proofs.Laws.{counted_found, counted_refused}
use Rattle.frames.proofs.Loops.{Reached, reached_none, reached_more, reached_accepted, reached_all}
use Rattle.pages.specs.Pages.{pages}
use Rattle.column_pages.specs.ColumnPages.{pages_of, pages_after}
use Rattle.column_pages.specs.Answers.{bits_in}
use Rattle.page_list.specs.Tables.{page_table}
use Rattle.rows.specs.Words.{page_width, page_words}
use Rattle.rows.specs.Tables.{column_row}
use Rattle.rows.specs.declared.PageRow.{PageRow}
use Rattle.column_pages.proofs.ScanLaws.{pages_snoc, next_rule}

-- how long the rows are

row_length : (ps : List PageRow) → length (flat page_words ps) ≡ page_width * length ps
unfolding flat
row_length [] = refl
row_length (p ∷ ps) = let e = row_length ps in omega arith

table_length : (pss : List (List PageRow)) → length (page_table pss) ≡ page_width * pages_of pss
unfolding flat pages_of
table_length [] = refl
table_length (ps ∷ pss) =
    let e = table_length pss in
    let k = row_length ps in
    omega (arith, length-append (flat page_words ps) (flat (flat page_words) pss))

table_snoc : (pss : List (List PageRow)) (ps : List PageRow) → page_table (pss ++ (ps ∷ [])) ≡ page_table pss ++ flat page_words ps
unfolding flat
table_snoc [] ps = append-nil (flat page_words ps)
table_snoc (qs ∷ pss) ps = rw (table_snoc pss ps) (sym (append_assoc (flat page_words qs) (flat (flat page_words) pss) (flat page_words ps)))

-- an accepted list has at least the pages of the items that are done
module _ (head : ℕ) (r : List (List PageRow) → Rule (List PageRow)) (s : List ℕ) where
  done_pages : (n : ℕ) (done : List (List PageRow)) (at : ℕ) → accepted (items head r n done s at) ≡ true → pages_of done ≤ pages_of (rows_of (items head r n done s at))
  unfolding items
  done_pages zero done at a = omega arith
  done_pages (suc n) done at a = by (done_pages n) (r done s at) a
    where
      by : ((done : List (List PageRow)) (at : ℕ) → accepted (items head r n done s at) ≡ true → pages_of done ≤ pages_of (rows_of (items head r n done s at))) → (x : Step (List PageRow))
          → accepted (after (λ x. items head r n (done ++ (x ∷ []))) s (within head (length done) x)) ≡ true
          → pages_of done ≤ pages_of (rows_of (after (λ x. items head r n (done ++ (x ∷ []))) s (within head (length done) x)))
      by more (found x p) h = let e = more (done ++ (x ∷ [])) p h in let k = pages_snoc done x in omega arith
      by more (refused f) h = absurd (omega (arith, leb-true 1 0 h))

  -- so the next one is accepted, and its pages are among them
  pub next_pages : {n start i at : ℕ} (m : Reached head r n s start i at) → accepted (items head r n [] s start) ≡ true → i < n
      → (accepted (r m.done s at) ≡ true) × (pages_of m.done + length (rows_of (r m.done s at)) ≤ pages_of (rows_of (items head r n [] s start)))
  unfolding reached_more
  next_pages {n} {start} {i} {at} m a h = by (r m.done s at) refl
    where
      by : (x : Step (List PageRow)) → r m.done s at ≡ x → (accepted x ≡ true) × (pages_of m.done + length (rows_of x) ≤ pages_of (rows_of (items head r n [] s start)))
      by (found x p) e =
          let k = reached_more m h e in
          let l = done_pages (n - (i + 1)) k.done p (rw k.same at a) in
          let q = pages_snoc m.done x in
          (refl, rw k.same (omega arith))
      by (refused f) e = absurd (reached_accepted m a h e)

-- more words after those that a table holds in front
over_part : (words more old : List ℕ) (from : ℕ) → length words ≡ from → take from (over words old) ++ over more (drop from (over words old)) ≡ over (words ++ more) old
over_part words more old from e =
    rw (take_at words (drop (length words) old) from e, drop_at words (drop (length words) old) from e, drop-drop, length-append)
    (sym (append_assoc words more _))

-- i columns of the n of a list have been read, with so many pages in all, and `table` has their rows in front of what it held
pub record Laid (strict : Bool) (file : ℕ) (columns : List ℕ) (list n : ℕ) (s : List ℕ) (start i at total : ℕ) (old table : List ℕ) : Type 0 where
  pub reached : Reached list (pages_after strict file (bits_in columns n)) n s start i at
  pub sum : total ≡ pages_of reached.done
  pub rows : table ≡ over (page_table reached.done) old
  pub long : length table ≡ length old
  pub fits : page_width * total ≤ length table

module _ {strict : Bool} {file : ℕ} {columns : List ℕ} {list n : ℕ} {s : List ℕ} {start : ℕ} {old : List ℕ} where
  pub laid_none : Laid strict file columns list n s start 0 start 0 old old
  unfolding pages_of flat reached_none
  laid_none = record { reached = reached_none; sum = refl; rows = refl; long = refl; fits = omega arith }

  module _ {i at total : ℕ} {table : List ℕ} (m : Laid strict file columns list n s start i at total old table) (h : i < n) where
    next : pages_after strict file (bits_in columns n) m.reached.done s at ≡ pages strict file i ((column_row columns i).bits % 2 ^ 16) total s at
    next = next_rule strict file columns n s at m.reached.done m.reached.count m.sum h

    pub laid_count : {k p : ℕ} → found k p ≡ counted (pages strict file i ((column_row columns i).bits % 2 ^ 16) total s at) → length (rows_of (pages strict file i ((column_row columns i).bits % 2 ^ 16) total s at)) ≡ k
    laid_count e = (counted_found (pages strict file i ((column_row columns i).bits % 2 ^ 16) total s at) (sym e)).1

    module _ (a : accepted (items list (pages_after strict file (bits_in columns n)) n [] s start) ≡ true)
        (room : page_width * pages_of (rows_of (items list (pages_after strict file (bits_in columns n)) n [] s start)) ≤ length old) where
      pub laid_room : (accepted (pages strict file i ((column_row columns i).bits % 2 ^ 16) total s at) ≡ true)
          × (page_width * total + page_width * length (rows_of (pages strict file i ((column_row columns i).bits % 2 ^ 16) total s at)) ≤ length table)
      laid_room =
          let k = next_pages list (pages_after strict file (bits_in columns n)) s m.reached a h in
          let x = m.sum in
          let y = m.long in
          let z = ap (λ (v : Step (List PageRow)). length (rows_of v)) next in
          (rw next at k.0, omega arith)

      pub laid_refused : {f : Fault} → refused f ≡ counted (pages strict file i ((column_row columns i).bits % 2 ^ 16) total s at) → ⊥
      laid_refused e = omega (arith, leb-true 1 0 (rw (counted_refused (pages strict file i ((column_row columns i).bits % 2 ^ 16) total s at) (sym e)) at laid_room.0))

      pub laid_more : {k p : ℕ} (part : List ℕ) → found k p ≡ counted (pages strict file i ((column_row columns i).bits % 2 ^ 16) total s at)
          → part ≡ over (flat page_words (rows_of (pages strict file i ((column_row columns i).bits % 2 ^ 16) total s at))) (take (length table - page_width * total) (drop (page_width * total) table))
          → length part ≡ length (take (length table - page_width * total) (drop (page_width * total) table))
          → Laid strict file columns list n s start (i + 1) p (total + k) old (put_mid (page_width * total) (length table - page_width * total) table part)
      unfolding reached_more
      laid_more {k} {p} part e stored kept =
          let f = counted_found (pages strict file i ((column_row columns i).bits % 2 ^ 16) total s at) (sym e) in
          let size = same_len_mid (page_width * total) (length table - page_width * total) table part kept in
          let long = table_length m.reached.done in
          let sum = m.sum in
          record {
            reached = reached_more m.reached h (next ∙ f.0);
            sum = let c = pages_snoc m.reached.done (rows_of (pages strict file i ((column_row columns i).bits % 2 ^ 16) total s at)) in let d = f.1 in omega arith;
            rows = put_rest (page_width * total) table part
                ∙ ap (λ (l : List ℕ). take (page_width * total) table ++ l) (stored ∙ ap (over (flat page_words (rows_of (pages strict file i ((column_row columns i).bits % 2 ^ 16) total s at)))) (rest_of (page_width * total) table))
                ∙ ap (λ (t : List ℕ). take (page_width * total) t ++ over (flat page_words (rows_of (pages strict file i ((column_row columns i).bits % 2 ^ 16) total s at))) (drop (page_width * total) t)) m.rows
                ∙ over_part (page_table m.reached.done) (flat page_words (rows_of (pages strict file i ((column_row columns i).bits % 2 ^ 16) total s at))) old (page_width * total) (omega arith)
                ∙ ap (λ (w : List ℕ). over w old) (sym (table_snoc m.reached.done (rows_of (pages strict file i ((column_row columns i).bits % 2 ^ 16) total s at))));
            long = size ∙ m.long;
            fits = let r = laid_room.1 in let d = f.1 in omega arith;
          }

  pub laid_all : {i at total : ℕ} {table : List ℕ} → Laid strict file columns list n s start i at total old table → n ≤ i
      → table ≡ over (page_table (rows_of (items list (pages_after strict file (bits_in columns n)) n [] s start))) old
  laid_all m h = rw (reached_all m.reached h) m.rows
