use Prim.Native.Nat.{◌+◌, ◌-◌, ◌≤◌, zero-le}
use mathlib.Core.Path.{◌≡◌, refl}
use native.Mathlib.Numerals.{add-one}
use native.Mathlib.Omega.{arith}
use borrow.Author.Tests.{le-leb, lt-leb}
use lib.ListN.{length, length-set}
use lib.Seq.{paste, paste-zero, paste-suc, take-length}
use Rattle.numbers.specs.Rows.{put}
use Rattle.rows.proofs.put_words.Given as goal

abbrev pub invariant-loop-i : goal.invariant-loop-i
invariant-loop-i l = (l.i ≤ length l.words) × (l.table ≡ paste l.initial.table l.at l.words l.i) × (length l.table ≡ length l.initial.table) × (l.at + length l.words ≤ length l.initial.table)
