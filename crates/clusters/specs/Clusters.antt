-- Clusters, and their list.
use Rattle.std.specs.Prelude.{ℕ, ◌+◌, ◌/◌, ◌%◌, ◌^◌, List, [], ◌∷◌, Bool, ltb, eqb}
use Rattle.numbers.specs.Choice.{pick}
use Rattle.wire.specs.Reading.{Step, Rule, ◌>>=◌, give, number, tested, unless}
use Rattle.links.specs.Links.{link}
use Rattle.frames.specs.Frames.{record_of, items, list_of, at_most}
use Rattle.frames.specs.declared.ListHead.{ListHead}
use Rattle.rows.specs.Words.{most_clusters, no_checksum}
use Rattle.rows.specs.declared.ClusterRow.{ClusterRow}

-- a verdict on a cluster's first entry: the sum of the earlier entry counts
abbrev pub starts_at : ℕ → ℕ → ℕ
starts_at sum f = unless (eqb f sum) 19 0

-- a verdict on a cluster's entry count with four flags above it: flag 60, the other flags, and the running sum
abbrev pub entry_count : ℕ → ℕ → ℕ
entry_count sum w =
    unless (eqb (w / 2 ^ 60 % 2) 0) 17
    (unless (ltb w (2 ^ 60)) 12
    (unless (ltb (sum + w) (2 ^ 60)) 19 0))

-- the checksum of a cluster's page list, where the footer carries these
unfoldable pub list_checksum : Bool → Rule ℕ
list_checksum carried = pick carried (number 4) (give no_checksum)

-- a cluster's content, after clusters with `sum` entries: its first entry, its entries with four flags above them, its page list, and where
-- it is carried that list's checksum
unfoldable pub cluster : Bool → ℕ → ℕ → Rule ClusterRow
cluster carried file sum = do
  first ← tested 8 (starts_at sum)
  word ← tested 8 (entry_count sum)
  l ← link file
  checksum ← list_checksum carried
  give (record { first_entry = first; entries = word; page_list = l; checksum = checksum })

-- the entries of all clusters
unfoldable pub entries_of : List ClusterRow → ℕ
entries_of [] = 0
entries_of (c ∷ cs) = c.entries + entries_of cs

-- the items of a list at `list`, whose head was read
abbrev pub cluster_items : List ℕ → Bool → Bool → ℕ → ListHead → ℕ → Step (List ClusterRow)
cluster_items s carried strict list h file = items list (λ before. record_of strict (cluster carried file (entries_of before))) h.count [] s h.start

-- the list of clusters
abbrev pub cluster_list : Bool → Bool → ℕ → Rule (List ClusterRow)
cluster_list carried strict file = list_of strict (at_most most_clusters) (λ _ before. record_of strict (cluster carried file (entries_of before)))
