use Prim.Native.Nat.{◌/◌}
use lib.ListN.{length}
use Rattle.rows.specs.Tables.{field_row}
use Rattle.rows.proofs.FirstRows.{rows_length}
use Rattle.field_check.proofs.number.field_list_number.Goals as goal

pub returns : goal.returns
returns c = let fields = c.args.fields.now in
    rw (rows_length field_row fields (length fields / 15), ← c.at_most-count.ensures, ← c.fields_number.ensures) c.first.ensures
