-- A cluster's row and its page list: the list is read only where its checksum is the row's, or the row has none.
use Rattle.std.specs.Prelude.{ℕ, List, Bool, true, not, leb, eqb}
use Rattle.numbers.specs.Choice.{pick, both}
use Rattle.wire.specs.Reading.{Step, found, refused, fault}
use Rattle.wire.specs.declared.Fault.{Fault}
use Rattle.wire.specs.declared.Kind.TheVariants.{Envelope}
use Rattle.envelope.specs.Envelope.{Versions, checksum_of, opened}
use Rattle.rows.specs.Words.{no_checksum}
use Rattle.rows.specs.declared.PageRow.{PageRow}
use Rattle.header.specs.Header.{Header}
use Rattle.header.specs.Tables.{header_of}
use Rattle.header.specs.Beside.{Beside, beside}
use Rattle.page_list.specs.PageList.{page_list_of}

-- what the checks before a payload say is none of the refusals 1 to 3
abbrev pub is_intact : Step Versions → Bool
is_intact (found v p) = true
is_intact (refused f) = not (leb f.number 3)

-- none of the refusals 1 to 3 applies to a page list
abbrev pub intact : List ℕ → Bool
intact list = is_intact (opened 1 list)

-- a row has a checksum, and it is not this page list's
abbrev pub differs : ℕ → List ℕ → Bool
differs checksum list = both (not (eqb checksum no_checksum)) (not (eqb (checksum_of list) checksum))

-- what is refused where a page list is not the one that the row names
abbrev pub unpaired_fault : Fault
unpaired_fault = fault 26 Envelope 0

-- the pages of each column that an envelope lists beside a header, for a cluster whose row has these entries and this checksum: 26 just after
-- 1 to 3, and else what the page list says
unfoldable pub paired_of : Header → ℕ → ℕ → ℕ → List ℕ → Step (List (List PageRow))
paired_of h entries checksum file list =
    pick (both (intact list) (differs checksum list)) (refused unpaired_fault) (page_list_of h entries file list)

-- read beside its header: the header's refusal first
unfoldable pub paired_beside : List ℕ → List ℕ → ℕ → ℕ → ℕ → Beside (List (List PageRow))
paired_beside header list entries checksum file = beside 3 (λ h. paired_of h entries checksum file list) (header_of header)
