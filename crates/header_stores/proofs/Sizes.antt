-- The sizes of records that have no strings.
use Prim.Native.Nat.{ℕ, ◌+◌}
use mathlib.Core.List.{List}
use mathlib.Core.Path.{◌≡◌, refl, ap}
use lib.ListN.{length}
use Rattle.rows.specs.declared.ColumnRow.{ColumnRow}
use Rattle.rows.specs.declared.AliasRow.{AliasRow}
use Rattle.writing.specs.Header.{column_piece, alias_piece}
use Rattle.stores.proofs.Storing.{numbers_long}

pub column_size : (n : ℕ) (c : ColumnRow) → 4 + length (column_piece n c).bytes ≡ 16
unfolding column_piece
column_size n c = ap (λ (k : ℕ). 4 + k) (numbers_long 2 _ _ (numbers_long 2 _ _ (numbers_long 4 _ _ (numbers_long 4 _ _ refl))))

pub alias_size : (flags : List ℕ) (columns : ℕ) (a : AliasRow) → 4 + length (alias_piece flags columns a).bytes ≡ 12
unfolding alias_piece
alias_size flags columns a = ap (λ (k : ℕ). 4 + k) (numbers_long 4 _ _ (numbers_long 4 _ _ refl))
