-- What a call leaves, by the tests that it makes.
-- Assumes nothing.
use Prim.Native.Nat.{ℕ, ◌+◌, ◌/◌, ◌<◌, ◌≤◌}
use mathlib.Core.Path.{◌≡◌}
use mathlib.Core.Bool.{true, false}
use mathlib.Core.List.{List}
use borrow.Author.Tests.{lt-ltb, le-ltb, lt-leb, le-leb}
use lib.ListN.{length}
use Rattle.header.specs.Beside.{Beside}
use Rattle.rows.specs.declared.PageRow.{PageRow}
use Rattle.figure_rules.specs.declared.ListCounts.{ListCounts}
use Rattle.figure_rules.specs.Report.{figure_width, added, sums_fit, not_counted, one_accepted, placed, taken, most_lists, reported}
use Rattle.std.specs.Prelude.{Ok}

-- the figures of so many columns
module _ (columns : ℕ) (figures : List ℕ) (counts : ListCounts) (old : List ℕ) where
  pub placed_short : length old / figure_width < columns → placed columns figures counts old ≡ not_counted 20 counts old
  unfolding placed
  placed_short h = rw (lt-leb columns (length old / figure_width) h)

  module _ (enough : columns ≤ length old / figure_width) where
    pub placed_past : sums_fit figures old ≡ false → placed columns figures counts old ≡ not_counted 10 counts old
    unfolding placed
    placed_past e = rw (le-leb columns (length old / figure_width) enough, e)

    pub placed_added : sums_fit figures old ≡ true → placed columns figures counts old ≡ record { answer = Ok (one_accepted counts); words = added figures old }
    unfolding placed
    placed_added e = rw (le-leb columns (length old / figure_width) enough, e)

-- a page list that was read or refused
module _ (x : Beside (List (List PageRow))) (counts : ListCounts) (old : List ℕ) where
  pub reported_late : most_lists ≤ counts.accepted + counts.refused → reported x counts old ≡ not_counted 10 counts old
  unfolding reported
  reported_late h = rw (le-ltb (counts.accepted + counts.refused) most_lists h)

  pub reported_taken : counts.accepted + counts.refused < most_lists → reported x counts old ≡ taken x counts old
  unfolding reported
  reported_taken h = rw (lt-ltb (counts.accepted + counts.refused) most_lists h)
