-- `figure_table::cells::store_row` meets its contract. Assumes nothing.
use native.Mathlib.Omega.{arith}
use Rattle.figure_table.specs.Table.{row_text}
use Rattle.figure_table.proofs.RowLaws.{begun, begun_more}
use Rattle.figure_table.proofs.cells.store_row.Goals as goal

pub shape_of-out : goal.shape_of-out
shape_of-out c = omega (arith, c.store_decimal-column.auto, c.store_type-column_type.auto, c.store_decimal-pages.auto, c.store_decimal-elements.auto, c.store_decimal-stored.auto, c.store_decimal-checksums.auto, c.store_decimal-field.auto, c.store_bytes.auto)

pub returns : goal.returns
unfolding row_text
returns c = let f = begun_more (begun_more (begun_more (begun_more (begun_more (begun_more (begun_more (begun c.store_decimal-column.ensures.stores c.store_decimal-column.ensures.few) 7 c.store_type-column_type.ensures.stores c.store_type-column_type.ensures.few) 29 c.store_decimal-pages.ensures.stores c.store_decimal-pages.ensures.few) 36 c.store_decimal-elements.ensures.stores c.store_decimal-elements.ensures.few) 36 c.store_decimal-stored.ensures.stores c.store_decimal-stored.ensures.few) 30 c.store_decimal-checksums.ensures.stores c.store_decimal-checksums.ensures.few) 26 c.store_decimal-field.ensures.stores c.store_decimal-field.ensures.few) 1 c.store_bytes.ensures (omega arith) in
    record { stores = f.stored; few = f.few }
