-- `figure_table::cells::store_decimal` meets its contract. Assumes nothing.
use mathlib.Core.Path.{◌≡◌, ap, ◌∙◌}
use native.Mathlib.Omega.{arith}
use lib.ListN.{length}
use Rattle.decimals.specs.Decimal.{decimal}
use Rattle.figure_table.proofs.RowLaws.{cell_long, cell_stored}
use borrow.Author.Rules.{rules}
use Rattle.figure_table.proofs.cells.store_decimal.Goals as goal

pub returns : goal.returns
returns c = let made = c.digits_of-digits in
    let digits = made.result in
    let counted : digits.len ≡ length (decimal c.args.n) = made.ensures.counts.1 ∙ ap length made.ensures.is in
    let room : length digits.bytes ≡ 20 = search rules in
    let fits = made.ensures.counts.0 in
    record { stores = cell_stored c.args.places made.ensures.is made.ensures.counts.1 c.places_left.ensures c.store_bytes-spaced.ensures c.store_spaces-aligned.ensures c.store_bytes.ensures; few = cell_long c.args.places (decimal c.args.n) (omega arith) }
