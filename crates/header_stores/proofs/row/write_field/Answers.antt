-- `header_stores::row::write_field` meets its contract. Assumes nothing.
use native.Mathlib.Omega.{arith}
use Rattle.writing.specs.Header.{field_piece}
use Rattle.stores.proofs.Storing.{stored_none, stored_then, stored_record}
use Rattle.header_stores.proofs.row.write_field.Goals as goal

pub overflow_sub-end : goal.overflow_sub-end
overflow_sub-end c = omega (arith, c.store_4-body.ensures.onward, (c.write_head-texts.ensures 0).onward, c.write_texts-end.ensures.onward)

pub returns : goal.returns
unfolding field_piece
returns c = λ n. stored_record _ c.store_4-body.ensures (stored_then (c.write_head-texts.ensures n) (stored_then c.write_texts-end.ensures (stored_none _ _))) c.store_4.ensures
