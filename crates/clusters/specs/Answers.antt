-- What the code's answers say, as steps of a rule; and a cluster's numbers by their places, as they are read again once the rule has found them.
use Rattle.std.specs.Prelude.{ℕ, ◌+◌, Bool, List}
use Rattle.numbers.specs.Choice.{pick}
use Rattle.numbers.specs.Numbers.{little_in}
use Rattle.wire.specs.Reading.{Step, found, refused}
use Rattle.rows.specs.Words.{no_checksum}
use Rattle.rows.specs.declared.ClusterRow.{ClusterRow}

-- the checksum of a page list that stands at a place, where it is carried
unfoldable pub checksum_at : Bool → List ℕ → ℕ → ℕ
checksum_at carried s at = pick carried (little_in 4 s at) no_checksum

-- a cluster whose content starts at a place
unfoldable pub cluster_at : Bool → List ℕ → ℕ → ClusterRow
cluster_at carried s at =
    record {
      first_entry = little_in 8 s at;
      entries = little_in 8 s (at + 8);
      page_list = record { size = little_in 4 s (at + 20); offset = little_in 8 s (at + 24) };
      checksum = checksum_at carried s (at + 32);
    }
