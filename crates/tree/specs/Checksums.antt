-- Which rows of an accepted footer have the checksum of their page list: all where its version is 2 or above, and else none.
use Rattle.std.specs.Prelude.{ℕ, ◌^◌, ◌<◌, List, Bool, true, false, ◌≡◌}
use Rattle.envelope.specs.Envelope.{version_of}
use Rattle.rows.specs.Words.{no_checksum}
use Rattle.rows.specs.Tables.{cluster_row}
use Rattle.rows.specs.declared.ClusterRow.{ClusterRow}
use Rattle.footer.specs.Footer.{this_build, carries}
use Rattle.footer.specs.Tables.{footer_beside, Answered}
use Rattle.tree.specs.Bytes.{Bytes}
use Rattle.std.specs.Prelude.{Ok}

-- a row of a footer that carries the checksums of its page lists has a number of four bytes; a row of any other has the number that says so
abbrev pub HasChecksum : Bool → ClusterRow → Type 0
HasChecksum true row = row.checksum < 2 ^ 32
HasChecksum false row = row.checksum ≡ no_checksum

-- every row that an accepting call leaves in the lent table is so by the footer's version
unfoldable pub ChecksumsByVersion : Type 0
ChecksumsByVersion =
    (e g : List ℕ) (file : ℕ) (c₀ c m₀ m : List ℕ) (clusters metadata : ℕ) → Bytes g → Answered (footer_beside e g file) c₀ c m₀ m (Ok (record { clusters = clusters; metadata = metadata }))
    → (i : ℕ) → i < clusters → HasChecksum (carries this_build (version_of g)) (cluster_row c i)
