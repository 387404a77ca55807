use Prim.Native.Nat.{◌/◌}
use lib.ListN.{length}
use Rattle.rows.specs.Tables.{field_row}
use Rattle.rows.proofs.FirstRows.{rows_length}
use Rattle.stores.proofs.FramedLaws.{listed_lem}
use borrow.Author.Rules.{rules}
use Rattle.header_stores.proofs.list.write_field_list.Goals as goal

pub returns : goal.returns
returns c = let table = c.args.fields.now in
    rw (rows_length field_row table (length table / 15)) (listed_lem _ c.store_list.ensures (λ place before stop after k. search rules))
