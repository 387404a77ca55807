-- A page list that ends with another checksum than the row's, which its reader need not read.
use Rattle.std.specs.Prelude.{ℕ, List, Bool, length, leb}
use Rattle.numbers.specs.Choice.{pick, both}
use Rattle.wire.specs.Reading.{Step, found, refused}
use Rattle.wire.specs.declared.Fault.{Fault}
use Rattle.envelope.specs.Envelope.{Versions, opened}
use Rattle.rows.specs.declared.PageRow.{PageRow}
use Rattle.header.specs.Tables.{header_of}
use Rattle.header.specs.Beside.{Beside, beside}
use Rattle.pairing.specs.Paired.{differs, unpaired_fault}

-- it is long enough to end with a checksum
unfoldable pub stale : ℕ → List ℕ → Bool
stale checksum list = both (leb 8 (length list)) (differs checksum list)

-- its refusal, by what the checks before its payload say: its own 1 to 3, else 26
unfoldable pub stale_fault : Step Versions → Fault
stale_fault (found v p) = unpaired_fault
stale_fault (refused f) = pick (leb f.number 3) f unpaired_fault

-- beside its header
unfoldable pub stale_beside : List ℕ → List ℕ → Beside (List (List PageRow))
stale_beside header list = beside 3 (λ _. refused (stale_fault (opened 1 list))) (header_of header)
