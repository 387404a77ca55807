-- A footer as it is written: each part in the order of the reader's rules, with the reader's verdicts.
use Rattle.std.specs.Prelude.{ℕ, List, [], ◌∷◌, Bool, true, not, eqb}
use Rattle.numbers.specs.Choice.{pick, both}
use Rattle.frames.specs.Frames.{at_most}
use Rattle.locator.specs.Locator.{stored_as, in_file}
use Rattle.clusters.specs.Clusters.{starts_at, entry_count, entries_of}
use Rattle.footer.specs.Footer.{Footer, this_build, carries, names, no_items}
use Rattle.rows.specs.Words.{most_clusters, most_links, no_checksum}
use Rattle.rows.specs.declared.Link.{Link}
use Rattle.rows.specs.declared.ClusterRow.{ClusterRow}
use Rattle.tree.specs.Shape.{NoVerdict}
use Rattle.tree.specs.Spelling.{footer_version}
use Rattle.writing.specs.Piece.{Piece, put, nothing, in_order, record_piece, list_piece, tested_first, enveloped}
use Rattle.writing.specs.Header.{feature_word}

-- a link: its size as the uncompressed and as the stored one, whose place has 31 bits
unfoldable pub link_piece : ℕ → Link → Piece
link_piece file l =
    in_order (put 4 32 NoVerdict l.size ∷ put 4 31 (stored_as l.size) l.size ∷ put 8 64 (in_file file l.size 0) l.offset ∷ [])

-- the checksum of a cluster's page list, where the footer carries these
unfoldable pub checksum_piece : Bool → ℕ → Piece
checksum_piece carried n = pick carried (put 4 32 NoVerdict n) nothing

-- a cluster's content, after clusters with `sum` entries
unfoldable pub cluster_piece : Bool → ℕ → ℕ → ClusterRow → Piece
cluster_piece carried file sum c =
    in_order (
    put 8 64 (starts_at sum) c.first_entry
    ∷ put 8 60 (entry_count sum) c.entries
    ∷ link_piece file c.page_list
    ∷ checksum_piece carried c.checksum
    ∷ [])

-- a list without items
abbrev pub empty_piece : Piece
empty_piece = list_piece {A = Unit {0}} no_items (λ _ _. nothing) []

-- the record of a cluster, after those before it; and a metadata link

abbrev pub cluster_item : Bool → ℕ → List ClusterRow → ClusterRow → Piece
cluster_item carried file before c = record_piece (cluster_piece carried file (entries_of before) c)

abbrev pub link_item : ℕ → List Link → Link → Piece
link_item file before l = link_piece file l

abbrev pub cluster_list_piece : Bool → ℕ → List ClusterRow → Piece
cluster_list_piece carried file rows = list_piece (at_most most_clusters) (cluster_item carried file) rows

abbrev pub link_list_piece : ℕ → List Link → Piece
link_list_piece file rows = list_piece (at_most most_links) (link_item file) rows

-- the payload of a footer whose header has this checksum, in a file of so many bytes
unfoldable pub footer_payload_piece : Bool → ℕ → ℕ → Footer → Piece
footer_payload_piece carried checksum file f =
    in_order (
    feature_word
    ∷ put 4 32 (names checksum) checksum
    ∷ empty_piece
    ∷ empty_piece
    ∷ cluster_list_piece carried file f.clusters
    ∷ link_list_piece file f.metadata
    ∷ [])

-- a footer of these rows carries the checksums of its page lists: version 2 does, version 1 does not
abbrev pub carries_for : List ClusterRow → Bool
carries_for rows = carries this_build (footer_version rows)

-- a row has the checksum of its page list where these are carried, and none where they are not; any number but one is such a checksum
abbrev pub as_carried : Bool → ClusterRow → Bool
as_carried carried c = pick carried (not (eqb c.checksum no_checksum)) (eqb c.checksum no_checksum)

-- and every row does
unfoldable pub all_as_carried : Bool → List ClusterRow → Bool
all_as_carried carried [] = true
all_as_carried carried (c ∷ cs) = both (as_carried carried c) (all_as_carried carried cs)

-- the footer of tables: version 2 where its rows have the checksums of their page lists, else 1; minimum 1. Rows some of which have one and
-- some have none are refused before all else
unfoldable pub footer_piece : ℕ → ℕ → Footer → Piece
footer_piece checksum file f =
    let carried = carries_for f.clusters in
    tested_first (all_as_carried carried f.clusters) 19 (enveloped (footer_version f.clusters) 1 (footer_payload_piece carried checksum file f))
