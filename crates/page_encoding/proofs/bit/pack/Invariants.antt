-- `page_encoding::bit::pack` meets its contract. The invariant: the first m bytes are those of the page. Assumes nothing.
use Rattle.planes.proofs.Filling.{Filled}
use Rattle.coding.specs.Layout.{packed}
use mathlib.Core.List.{List}
use Prim.Native.Nat.{ℕ, ◌+◌, ◌/◌}
use lib.ListN.{length}
use Rattle.page_encoding.proofs.bit.pack.Given as goal

abbrev pub bytes_for : List ℕ → ℕ
bytes_for words = (length words + 7) / 8

abbrev pub invariant-loop-m : goal.invariant-loop-m
invariant-loop-m l = Filled (packed (bytes_for l.words) l.words) l.initial.out l.m l.out
