-- The footer's payload: feature words, the header's checksum, and four lists, of which the first two are empty.
use Rattle.std.specs.Prelude.{ℕ, List, Bool, length, leb, eqb}
use Rattle.numbers.specs.Choice.{both}
use Rattle.wire.specs.Reading.{Step, Rule, ◌>>=◌, ◌>>◌, give, tested, unless}
use Rattle.frames.specs.Frames.{list_of}
use Rattle.envelope.specs.Envelope.{versioned}
use Rattle.envelope.specs.Features.{features}
use Rattle.rows.specs.declared.Link.{Link}
use Rattle.rows.specs.declared.ClusterRow.{ClusterRow}
use Rattle.links.specs.Links.{link_list}
use Rattle.clusters.specs.Clusters.{cluster_list}

-- what a footer reads
pub record Footer : Type 0 where
  pub clusters : List ClusterRow
  pub metadata : List Link

-- the newest version of footers that a build knows: this one, and the first, whose footers carried no checksums of page lists

abbrev pub this_build : ℕ
this_build = 2

abbrev pub first_build : ℕ
first_build = 1

-- the first version whose footers carry the checksums of their page lists
abbrev pub checksums_since : ℕ
checksums_since = 2

-- a build that knows versions up to `newest` finds them in a footer of this version
abbrev pub carries : ℕ → ℕ → Bool
carries newest version = both (leb checksums_since newest) (leb checksums_since version)

-- a verdict on the header checksum that a footer names
abbrev pub names : ℕ → ℕ → ℕ
names checksum c = unless (eqb c checksum) 16 0

-- a verdict on the count of extension header links or column groups: none
abbrev pub no_items : ℕ → ℕ
no_items n = unless (eqb n 0) 17 0

-- a list without items
abbrev pub empty : Bool → Rule (List (Unit {0}))
empty strict = list_of strict no_items (λ _ _. give tt)

-- the rest of a payload, after what stands before the clusters
abbrev pub after_opening : {A : Type 0} → ℕ → Bool → Rule A → Rule A
after_opening checksum strict rest s = (do
  features (length s)
  tested 4 (names checksum)
  empty strict
  empty strict
  rest) s

-- what stands before the clusters alone
abbrev pub opening : ℕ → Bool → Rule (Unit {0})
opening checksum strict = after_opening checksum strict (give tt)

-- the payload of a footer whose header has this checksum, in a file of `file` bytes; `carried`: with the checksums of page lists
unfoldable pub payload : Bool → ℕ → ℕ → Bool → Rule Footer
payload carried checksum file strict = after_opening checksum strict (do
  clusters ← cluster_list carried strict file
  metadata ← link_list strict file
  give (record { clusters = clusters; metadata = metadata }))

-- the footer that an envelope is beside a header with this checksum, or its refusal, for a build that knows versions up to `newest` and reads
-- minimum versions up to that one; room is not asked for here
unfoldable pub footer_by_build : ℕ → ℕ → ℕ → List ℕ → Step Footer
footer_by_build newest checksum file = versioned newest (λ v. payload (carries newest v.version) checksum file v.strict)

-- and for this build
abbrev pub footer_of : ℕ → ℕ → List ℕ → Step Footer
footer_of = footer_by_build this_build
