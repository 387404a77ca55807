-- A sum over the fields in the order in which they are listed is the sum over all fields.
use Prim.Native.Nat.{ℕ, ◌*◌}
use mathlib.Core.Path.{◌≡◌, ◌∙◌}
use mathlib.Core.List.{List}
use native.Mathlib.Omega.{arith}
use borrow.Author.Tests.{lt-ltb}
use lib.ListN.{length}
use Rattle.chain_moves.specs.Distances.{sum_below, Rooted}
use Rattle.listing.specs.Order.{order}
use Rattle.listing.specs.Listed.{fields_in, times}
use Rattle.chain_moves.proofs.Distances.{sum_same}
use Rattle.listing.proofs.TimesLaws.{sum_over, sum_times}
use Rattle.listing.proofs.RankLaws.{listed_once, order_within}

pub order_sum : (each : ℕ → ℕ) (parents : List ℕ) → Rooted parents → sum_over each (fields_in (order parents)) ≡ sum_below each (length parents)
order_sum each parents rooted =
    let n = length parents in
    sum_times each n (fields_in (order parents)) (order_within parents)
    ∙ sum_same (λ k. times k (fields_in (order parents)) * each k) each n (λ k l. rw (listed_once parents rooted k, lt-ltb k n l) (omega arith))
