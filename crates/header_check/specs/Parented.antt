-- Fields whose parent chains can be followed.
use Rattle.std.specs.Prelude.{◌≤◌, List, length}
use Rattle.rows.specs.Words.{most_fields}
use Rattle.rows.specs.declared.FieldRow.{FieldRow}
use Rattle.parents.specs.Parents.{Inside}
use Rattle.header.specs.Tables.{parents_of}

-- there are at most as many fields as a header may have, and the parent of each is one of them
pub record Parented (rows : List FieldRow) : Type 0 where
  pub few : length rows ≤ most_fields
  pub inside : Inside (parents_of rows) (length rows)
