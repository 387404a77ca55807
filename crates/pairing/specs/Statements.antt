-- What the pairing says of a page list and of the row that it is read for.
use Rattle.std.specs.Prelude.{ℕ, List, ◌≡◌}
use Rattle.wire.specs.Reading.{fault}
use Rattle.wire.specs.declared.Kind.TheVariants.{Envelope}
use Rattle.envelope.specs.Envelope.{checksum_of}
use Rattle.rows.specs.Words.{no_checksum}
use Rattle.rows.specs.declared.PageRow.{PageRow}
use Rattle.header.specs.Beside.{read, refusal}
use Rattle.page_list.specs.Tables.{page_list_beside}
use Rattle.pairing.specs.Paired.{paired_beside}

pub record Pairs : Type 0 where
  -- a row without a checksum, and a row with the checksum of this page list: the page-list reader's call
  pub unnamed : (header list : List ℕ) (entries file : ℕ) → paired_beside header list entries no_checksum file ≡ page_list_beside header list entries file
  pub its : (header list : List ℕ) (entries file : ℕ) → paired_beside header list entries (checksum_of list) file ≡ page_list_beside header list entries file
  -- a page list that its reader accepts is refused 26 for a row with another checksum
  pub another : (header list : List ℕ) (entries checksum file : ℕ) (pages : List (List PageRow)) → (checksum ≡ no_checksum → ⊥) → (checksum_of list ≡ checksum → ⊥)
      → page_list_beside header list entries file ≡ read pages → paired_beside header list entries checksum file ≡ refusal 3 (fault 26 Envelope 0)
  -- so what is accepted is what the reader reads, and has the row's checksum where the row has one
  pub accepted : (header list : List ℕ) (entries checksum file : ℕ) (pages : List (List PageRow)) → paired_beside header list entries checksum file ≡ read pages
      → (page_list_beside header list entries file ≡ read pages) × ((checksum ≡ no_checksum → ⊥) → checksum_of list ≡ checksum)
