-- The cells of a row, stored one after the other, and how many bytes they have. Assumes nothing.
use Prim.Native.Nat.{ℕ, ◌+◌, ◌-◌, ◌%◌, ◌^◌, ◌≤◌, ◌<◌}
use mathlib.Core.Path.{◌≡◌, ap, ◌∙◌}
use mathlib.Core.List.{List, ◌++◌}
use mathlib.Core.Logic.{⊎_elim}
use native.Mathlib.Nat.{pow-le-pow_right}
use native.Mathlib.Omega.{arith}
use borrow.Author.Tests.{leb-true, leb-false}
use lib.Dec.{leb}
use lib.ListN.{length, replicate, length-append, length-replicate}
use Rattle.numbers.proofs.Choice.{which}
use Rattle.io.specs.Counts.{IsPrefixLen}
use Rattle.io.specs.Digits.{last_digits, IsDigitCount}
use Rattle.decimals.specs.Decimal.{text}
use Rattle.stores.specs.Stored.{Stored}
use Rattle.stores.proofs.Storing.{stored_then, stored_as_lem, stored_front}
use Rattle.list_report.specs.Printed.{Prints}
use Rattle.list_report.proofs.PrintedLaws.{prints_counts}
use Rattle.figure_table.specs.Table.{cell, type_text}

pub cell_long : (places : ℕ) (number : List ℕ) → length number ≤ 20 → length (cell places number) ≤ 21 + places
unfolding cell
cell_long places number l =
    let spaces = length-replicate {A = ℕ} (places - length number) 32 in
    let front = length-append (text " ") (replicate {A = ℕ} (places - length number) 32) in
    omega (arith, length-append (text " " ++ replicate {A = ℕ} (places - length number) 32) number)

-- a cell is stored by its pieces
pub cell_stored : (places : ℕ) {number stored : List ℕ} {k len : ℕ} {a b c d : List ℕ} {at m n e : ℕ} → stored ≡ number → len ≡ length stored → k ≡ places - len
    → Stored a at (text " ") b m → Stored b m (replicate k 32) c n → Stored c n stored d e → Stored a at (cell places number) d e
unfolding cell
cell_stored places {number} {stored} {k} same long left one two three =
    let spaces : replicate {A = ℕ} k 32 ≡ replicate (places - length number) 32 = ap (λ (j : ℕ). replicate {A = ℕ} j 32) (left ∙ ap (λ (j : ℕ). places - j) (long ∙ ap length same)) in
    stored_then (stored_then one (stored_as_lem spaces two)) (stored_as_lem same three)

-- a number of 16 bits has four hexadecimal digits where no fewer are asked for
pub four_digits : (n k : ℕ) → n < 65536 → IsDigitCount 16 4 n k → k ≡ 4
four_digits n k l f =
    ⊎_elim
    (λ t. omega (arith, leb-true k 4 t, f.0))
    (λ t.
    let more = leb-false k 4 t in
    let power : 16 ^ 4 ≤ 16 ^ (k - 1) = pow-le-pow_right {n = 16} (omega arith) {i = 4} {j = k - 1} (omega arith) in
    absurd (omega (arith, f.2 (omega arith))))
    (which (leb k 4))

-- the cell of a column type
pub type_stored : (n : ℕ) {k : ℕ} {stored : List ℕ} {a b c : List ℕ} {at m e : ℕ} → IsDigitCount 16 4 (n % 65536) k → stored ≡ last_digits 16 k (n % 65536)
    → Stored a at (text " 0x") b m → Stored b m stored c e → Stored a at (type_text n) c e
unfolding type_text
type_stored n {k} few same one two =
    stored_then one (stored_as_lem (same ∙ ap (λ (j : ℕ). last_digits 16 j (n % 65536)) (four_digits (n % 65536) k (omega arith) few)) two)

pub type_long : (n : ℕ) → length (type_text n) ≤ 7
unfolding type_text
type_long n = omega arith

-- so much of a row is stored, of at most so many bytes
pub record Begun (old bytes : List ℕ) (most : ℕ) (new : List ℕ) (end : ℕ) : Type 0 where
  pub stored : Stored old 0 bytes new end
  pub few : length bytes ≤ most

pub begun : {old bytes b : List ℕ} {m most : ℕ} → Stored old 0 bytes b m → length bytes ≤ most → Begun old bytes most b m
begun s l = record { stored = s; few = l }

pub begun_more : {old bs cs b c : List ℕ} {m e most : ℕ} → Begun old bs most b m → (k : ℕ) → Stored b m cs c e → length cs ≤ k → Begun old (bs ++ cs) (most + k) c e
begun_more {bs = bs} {cs} s k more few =
    let less = s.few in
    record { stored = stored_then s.stored more; few = omega (arith, length-append bs cs) }

-- a row that is stored whole is printed
pub row_prints : {bytes old new : List ℕ} {r : ℕ} → Stored old 0 bytes new r → length bytes ≤ length old → Prints bytes old new r × IsPrefixLen r new
row_prints {bytes} {old} {new} {r} s fits =
    let front = stored_front s fits in
    let is : Prints bytes old new r = record { many = front.1; stands = front.0 } in
    (is, prints_counts is)
