-- What a footer's reader answers, and what its lent tables then hold.
use Rattle.std.specs.Prelude.{ℕ, ◌/◌, List, [], ◌∷◌, Bool, ◌≡◌, length, leb}
use Rattle.numbers.specs.Choice.{pick, both}
use Rattle.envelope.specs.Envelope.{checksum_of}
use Rattle.outcome.specs.Outcome.{Outcome, accepted_with, refused_in}
use Rattle.numbers.specs.Rows.{flat, over}
use Rattle.rows.specs.Words.{cluster_width, link_width, cluster_words, link_words}
use Rattle.header.specs.Tables.{header_of}
use Rattle.header.specs.Beside.{Beside, read, refusal, beside}
use Rattle.footer.specs.Footer.{Footer, this_build, footer_by_build}
use Rattle.footer.specs.Answer.{FooterAnswer}
use Rattle.std.specs.Prelude.{Ok, Err}

-- the footer read beside its header, by a build that knows versions up to `newest`: the header's refusal first
unfoldable pub beside_by_build : ℕ → List ℕ → List ℕ → ℕ → Beside Footer
beside_by_build newest header footer file = beside 2 (λ _. footer_by_build newest (checksum_of header) file footer) (header_of header)

-- and by this build
abbrev pub footer_beside : List ℕ → List ℕ → ℕ → Beside Footer
footer_beside = beside_by_build this_build

-- the words of each table

abbrev pub cluster_table : Footer → List ℕ
cluster_table f = flat cluster_words f.clusters

abbrev pub metadata_table : Footer → List ℕ
metadata_table f = flat link_words f.metadata

-- tables of c and m words have room for so many clusters and links
abbrev pub fitting : ℕ → ℕ → ℕ → ℕ → Bool
fitting c m clusters links = both (leb clusters (c / cluster_width)) (leb links (m / link_width))

abbrev pub room_for : ℕ → ℕ → Footer → Bool
room_for c m f = fitting c m (length f.clusters) (length f.metadata)

-- the whole answer, for lent tables of c and m words
unfoldable pub answer : ℕ → ℕ → Beside Footer → FooterAnswer
answer c m (read f) = pick (room_for c m f) (Ok (record { clusters = length f.clusters; metadata = length f.metadata })) (Err (record { envelope = 2; number = 20 }))
answer c m (refusal k f) = Err (record { envelope = k; number = f.number })

-- what an answer says in document 01's terms: the envelope and the number of a refusal, and the counts of clusters and of metadata links
abbrev pub outcome_of : FooterAnswer → Outcome
outcome_of (Ok counts) = accepted_with (counts.clusters ∷ counts.metadata ∷ [])
outcome_of (Err why) = refused_in why.envelope why.number 2

-- the outcome that is due, for lent tables of c and m words
abbrev pub reported : ℕ → ℕ → Beside Footer → Outcome
reported c m x = outcome_of (answer c m x)

-- a lent table after the call: the words in front where the footer is accepted, else as it was
unfoldable pub written : (Footer → List ℕ) → ℕ → ℕ → List ℕ → Beside Footer → List ℕ
written words c m old (read f) = pick (room_for c m f) (over (words f) old) old
written words c m old (refusal k f) = old

-- all that a call leaves, for a footer read beside its header and two lent tables
pub record Answered (x : Beside Footer) (c₀ c m₀ m : List ℕ) (r : FooterAnswer) : Type 0 where
  pub answers : r ≡ answer (length c₀) (length m₀) x
  pub reports : outcome_of r ≡ reported (length c₀) (length m₀) x
  pub clusters_are : c ≡ written cluster_table (length c₀) (length m₀) c₀ x
  pub metadata_are : m ≡ written metadata_table (length c₀) (length m₀) m₀ x
