-- `figure_table::write_row` meets its contract. Assumes nothing.
use native.Mathlib.Omega.{arith}
use Rattle.figure_table.proofs.RowLaws.{row_prints}
use Rattle.figure_table.proofs.write_row.Goals as goal

pub returns : goal.returns
returns c = let both = row_prints c.store_row.ensures.stores (omega (arith, c.store_row.ensures.few, c.well_formed)) in
    record { prints = both.0; counts = both.1 }
