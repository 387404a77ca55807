use Prim.Native.Nat.{◌+◌, ◌-◌, ◌≤◌}
use mathlib.Core.Path.{◌≡◌, refl, sym, ap, ◌∙◌}
use native.Mathlib.Omega.{arith}
use borrow.Author.Rules.{rules}
use lib.ListN.{length}
use Rattle.header.specs.Tables.{record_at}
use Rattle.header_scan.proofs.PlaceLaws.{place_stays, record_next}
use Rattle.header_scan.proofs.chain.record_at.Given as goal

abbrev pub invariant-loop-done : goal.invariant-loop-done
invariant-loop-done l = (record_at l.s l.start l.k ≡ record_at l.s l.at (l.k - l.done)) × (l.at ≤ length l.s + 4294967296)
