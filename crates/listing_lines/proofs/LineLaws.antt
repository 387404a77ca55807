-- The pieces of a line, and the lines of a table.
use Prim.Native.Nat.{ℕ, zero, suc, ◌+◌, ◌*◌, ◌<◌, ◌≤◌}
use mathlib.Core.Path.{◌≡◌, refl, sym, ap, ◌∙◌}
use mathlib.Core.Bool.{Bool}
use mathlib.Core.List.{List, [], ◌∷◌, ◌++◌, map-append, append_assoc, append-nil}
use native.Mathlib.Numerals.{add-one}
use native.Mathlib.Omega.{arith}
use lib.ListN.{length, get_or, replicate, length-append, length-map, length-replicate, replicate-append-replicate}
use Rattle.numbers.specs.Rows.{flat}
use Rattle.decimals.specs.Decimal.{text, decimal}
use Rattle.rows.specs.Tables.{field_row, first_rows}
use Rattle.rows.proofs.TableLaws.{flat_join}
use Rattle.listing.specs.Entries.{entry_row}
use Rattle.listing.specs.Lines.{shown_byte, shown, dark_word, line, characters, entry_line, marked}
use Rattle.listing.proofs.LineLaws.{kept, spaces_plain}
use Rattle.listing_lines.specs.Line.{line_of, line_bytes}
use Rattle.listing_lines.specs.declared.line.Line.{Line}

-- a byte of what is shown
pub shown_at : (bytes : List ℕ) (i : ℕ) → i < length bytes → get_or (shown bytes) i 0 ≡ shown_byte (get_or bytes i 0)
shown_at [] i l = absurd (omega arith)
shown_at (x ∷ bytes) zero l = refl
shown_at (x ∷ bytes) (suc i) l = shown_at bytes i (omega arith)

-- a line is its pieces, in the order in which they are stored
pub line_pieces : (level field : ℕ) (name type : List ℕ) (d : Bool)
    → replicate (2 * level) 32 ++ shown (decimal field) ++ shown (text " ") ++ shown name ++ shown (text " ") ++ shown type ++ (shown (dark_word d) ++ text "\n")
    ≡ line level field name type d
unfolding line
line_pieces level field name type d =
    simp (map-append, kept (replicate (2 * level) 32) (spaces_plain (2 * level))) (sym (append_assoc (replicate (2 * level) 32 ++ shown (decimal field) ++ shown (text " ") ++ shown name ++ shown (text " ") ++ shown type) (shown (dark_word d)) (text "\n")))

-- how long a line is
pub line_length : (e : List ℕ) (l : Line)
    → length (line_bytes e l) ≡ l.level + l.level + length (decimal l.field) + length (characters e l.name) + length (characters e l.type_name) + (length (dark_word l.dark) + 3)
unfolding line line_bytes
line_length e l = simp (length-append, length-map, length-replicate) (omega arith)

-- as many spaces twice
pub spaces_twice : (k : ℕ) → replicate k 32 ++ replicate k 32 ≡ replicate {A = ℕ} (2 * k) 32
spaces_twice k =
    let twice : k + k ≡ 2 * k = omega arith in
    replicate-append-replicate k k 32 ∙ ap (λ (n : ℕ). replicate {A = ℕ} n 32) twice

-- the lines of the first rows of a table
module _ (e rows marks entries : List ℕ) where
  abbrev pub first_lines : ℕ → List ℕ
  first_lines i = flat (entry_line e (field_row rows) (marked marks)) (first_rows entry_row entries i)

  pub no_lines : [] ≡ first_lines 0
  unfolding flat first_rows
  no_lines = refl

  -- one line more, by what it says
  pub lines_next : (i : ℕ) {l : Line} → l ≡ line_of rows marks (entry_row entries i) → first_lines i ++ line_bytes e l ≡ first_lines (i + 1)
  unfolding flat first_rows entry_line line_bytes line_of
  lines_next i says =
      let w = entry_line e (field_row rows) (marked marks) in
      rw (add-one i, says, flat_join w (first_rows entry_row entries i) (entry_row entries i ∷ []), append-nil (w (entry_row entries i)))

  -- so the first lines are no longer than all
  pub lines_grow : (i k n : ℕ) → n ≡ i + k → length (first_lines i) ≤ length (first_lines n)
  lines_grow i zero n is = let same : i ≡ n = omega arith in omega (arith, ap (λ (j : ℕ). length (first_lines j)) same)
  lines_grow i (suc k) n is =
      let l = line_of rows marks (entry_row entries i) in
      let one = ap length (lines_next i {l = l} refl) in
      let more = length-append (first_lines i) (line_bytes e l) in
      omega (arith, lines_grow (i + 1) k n (omega arith))
