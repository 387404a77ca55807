-- A build that knows version 1 alone, shown a footer of version 2 or above with minimum 1 and a header that it accepts, still reads its old rows.
use Rattle.std.specs.Prelude.{ℕ, zero, suc, ◌/◌, ◌≤◌, List, [], ◌∷◌, ◌++◌, map, Bool, ◌≡◌, length, take, drop, leb}
use Rattle.numbers.specs.Choice.{pick, both}
use Rattle.numbers.specs.Numbers.{little}
use Rattle.numbers.specs.Rows.{flat, over}
use Rattle.wire.specs.Reading.{Step, Rule, ◌>>=◌, give, tested}
use Rattle.frames.specs.Frames.{record_of, list_of, at_most}
use Rattle.envelope.specs.Envelope.{version_of, envelope}
use Rattle.header.specs.Beside.{Beside, read, refusal}
use Rattle.rows.specs.Words.{most_clusters, no_checksum, cluster_width, link_width, link_words}
use Rattle.rows.specs.declared.ClusterRow.{ClusterRow}
use Rattle.links.specs.Links.{link, link_list}
use Rattle.clusters.specs.Clusters.{starts_at, entry_count, entries_of}
use Rattle.footer.specs.Footer.{Footer, first_build, after_opening, footer_by_build}
use Rattle.footer.specs.Tables.{beside_by_build, footer_beside, metadata_table, Answered}
use Rattle.footer.specs.Answer.{FooterAnswer}
use Rattle.std.specs.Prelude.{Ok, Err}

-- The rules as they were before the checksums, word for word (but that a row says that it has none).

unfoldable pub old_cluster : ℕ → ℕ → Rule ClusterRow
old_cluster file sum = do
  first ← tested 8 (starts_at sum)
  word ← tested 8 (entry_count sum)
  l ← link file
  give (record { first_entry = first; entries = word; page_list = l; checksum = no_checksum })

unfoldable pub old_payload : ℕ → ℕ → Bool → Rule Footer
old_payload checksum file strict = after_opening checksum strict (do
  clusters ← list_of strict (at_most most_clusters) (λ _ before. record_of strict (old_cluster file (entries_of before)))
  metadata ← link_list strict file
  give (record { clusters = clusters; metadata = metadata }))

unfoldable pub old_footer_of : ℕ → ℕ → List ℕ → Step Footer
old_footer_of checksum file e = envelope 1 (old_payload checksum file) e

-- the first build keeps them
abbrev pub FirstBuildIsOld : Type 0
FirstBuildIsOld = (checksum file : ℕ) (e : List ℕ) → footer_by_build first_build checksum file e ≡ old_footer_of checksum file e

-- rows without the checksum of the page list
abbrev pub old_row : ClusterRow → ClusterRow
old_row c = record { first_entry = c.first_entry; entries = c.entries; page_list = c.page_list; checksum = no_checksum }

abbrev pub old_rows : Footer → Footer
old_rows f = record { clusters = map old_row f.clusters; metadata = f.metadata }

-- what this build reads beside a header in a footer of version 2 or above with minimum 1, the first build reads too, without the checksums
abbrev pub OldBuildReads : Type 0
OldBuildReads =
    (header footer : List ℕ) (file : ℕ) (f : Footer) → footer_beside header footer file ≡ read f → 2 ≤ version_of footer → little 2 footer 2 ≡ 1
    → beside_by_build first_build header footer file ≡ read (old_rows f)

-- The first build's call: rows of four words, and room counted by them; the rest as it is.

abbrev pub old_width : ℕ
old_width = 4

abbrev pub old_words : ClusterRow → List ℕ
old_words c = c.first_entry ∷ c.entries ∷ link_words c.page_list

abbrev pub old_table : Footer → List ℕ
old_table f = flat old_words f.clusters

abbrev pub old_room : ℕ → ℕ → Footer → Bool
old_room c m f = both (leb (length f.clusters) (c / old_width)) (leb (length f.metadata) (m / link_width))

unfoldable pub old_answer : ℕ → ℕ → Beside Footer → FooterAnswer
old_answer c m (read f) = pick (old_room c m f) (Ok (record { clusters = length f.clusters; metadata = length f.metadata })) (Err (record { envelope = 2; number = 20 }))
old_answer c m (refusal k f) = Err (record { envelope = k; number = f.number })

unfoldable pub old_written : (Footer → List ℕ) → ℕ → ℕ → List ℕ → Beside Footer → List ℕ
old_written words c m old (read f) = pick (old_room c m f) (over (words f) old) old
old_written words c m old (refusal k f) = old

-- all that a call of the first build leaves
pub record OldAnswered (x : Beside Footer) (c₀ c m₀ m : List ℕ) (r : FooterAnswer) : Type 0 where
  pub answers : r ≡ old_answer (length c₀) (length m₀) x
  pub clusters_are : c ≡ old_written old_table (length c₀) (length m₀) c₀ x
  pub metadata_are : m ≡ old_written metadata_table (length c₀) (length m₀) m₀ x

-- the first n rows of a table of clusters, less their fifth words
unfoldable pub without_checksums : ℕ → List ℕ → List ℕ
without_checksums zero table = []
without_checksums (suc n) table = take old_width table ++ without_checksums n (drop cluster_width table)

-- Where a call of this build accepts a footer of version 2 or above with minimum 1, a call of the first build for the same bytes, with the same room
-- for links and with room for as many of its rows, gives the same answer and leaves the same links, and its rows are this build's less the checksums.
abbrev pub OldBuildCalls : Type 0
OldBuildCalls =
    (e g : List ℕ) (file : ℕ) (c₀ c m₀ m : List ℕ) (clusters metadata : ℕ) → Answered (footer_beside e g file) c₀ c m₀ m (Ok (record { clusters = clusters; metadata = metadata }))
    → 2 ≤ version_of g → little 2 g 2 ≡ 1
    → (d₀ d m' : List ℕ) (r : FooterAnswer) → clusters ≤ length d₀ / old_width → OldAnswered (beside_by_build first_build e g file) d₀ d m₀ m' r
    → (r ≡ Ok (record { clusters = clusters; metadata = metadata })) × (d ≡ over (without_checksums clusters c) d₀) × (m' ≡ m)
