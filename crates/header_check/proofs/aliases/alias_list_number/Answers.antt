use Prim.Native.Nat.{◌/◌}
use lib.ListN.{length}
use Rattle.rows.specs.Tables.{alias_row}
use Rattle.rows.proofs.FirstRows.{rows_length}
use Rattle.header_check.proofs.aliases.alias_list_number.Goals as goal

pub returns : goal.returns
returns c = let aliases = c.args.aliases.now in
    rw (rows_length alias_row aliases (length aliases / 2), ← c.at_most-count.ensures, ← c.aliases_number.ensures) c.first.ensures
