-- How the reader takes a footer that is written.
use Prim.Native.Nat.{ℕ, ◌+◌, ◌^◌, ◌≤◌, ◌<◌}
use mathlib.Core.List.{List, [], ◌∷◌, map}
use mathlib.Core.Bool.{Bool, true, false}
use mathlib.Core.Path.{◌≡◌, refl, sym, ap, ◌∙◌}
use native.Mathlib.Omega.{arith}
use lib.Dec.{eqb}
use borrow.Author.Tests.{eqb-true}
use lib.ListN.{length}
use Rattle.numbers.specs.Choice.{pick}
use Rattle.numbers.proofs.Choice.{both_true}
use Rattle.wire.specs.Reading.{give, number}
use Rattle.frames.specs.Frames.{record_of, at_most}
use Rattle.locator.specs.Locator.{stored_as, in_file}
use Rattle.envelope.specs.Features.{feature_bits}
use Rattle.envelope.specs.Envelope.{ceiling}
use Rattle.footer.specs.Footer.{Footer, this_build, carries, names, no_items, empty, payload, footer_by_build, footer_of}
use Rattle.clusters.specs.Clusters.{cluster, starts_at, entry_count, entries_of, list_checksum, cluster_list}
use Rattle.rows.specs.Words.{most_clusters, most_links, no_checksum}
use Rattle.links.specs.Links.{link, link_list}
use Rattle.rows.specs.declared.Link.{Link}
use Rattle.rows.specs.declared.ClusterRow.{ClusterRow}
use Rattle.tree.specs.Shape.{NoVerdict}
use Rattle.tree.specs.Spelling.{footer_version}
use Rattle.writing.specs.Piece.{Piece, put, nothing, tested_first, enveloped}
use Rattle.writing.specs.Footer.{link_piece, checksum_piece, cluster_piece, empty_piece, cluster_item, link_item, cluster_list_piece, link_list_piece, footer_payload_piece, carries_for, as_carried, all_as_carried, footer_piece}
use Rattle.writing.specs.Promises.{Promised, FooterPromised, MixedRows}
use Rattle.writing.proofs.Sure.{Sure, put_sure, nothing_sure, and_sure, record_sure, list_sure}
use Rattle.writing.proofs.ReadBack.{Reads, number_reads, judged_reads, plain_reads, meant_reads, give_reads, next_reads}
use Rattle.writing.proofs.FramesBack.{record_reads, list_reads}
use Rattle.writing.proofs.EnvelopeBack.{rows_long, Accepts, minimum_one, envelope_takes, tested_takes, unfit_takes, promised}
use Rattle.writing.proofs.HeaderBack.{means_same, means_rows, features_read}

link_sure : (file : ℕ) (l : Link) → Sure (link_piece file l)
unfolding link_piece
link_sure file l = and_sure (put_sure 4 32 NoVerdict _) (and_sure (put_sure 4 31 (stored_as _) _) (and_sure (put_sure 8 64 (in_file file _ 0) _) nothing_sure))

checksum_sure : (carried : Bool) (n : ℕ) → Sure (checksum_piece carried n)
unfolding checksum_piece
checksum_sure true n = put_sure 4 32 NoVerdict n
checksum_sure false n = nothing_sure

cluster_sure : (carried : Bool) (file sum : ℕ) (c : ClusterRow) → Sure (cluster_piece carried file sum c)
unfolding cluster_piece
cluster_sure carried file sum c =
    and_sure (put_sure 8 64 (starts_at sum) _) (and_sure (put_sure 8 60 (entry_count sum) _) (and_sure (link_sure file _) (and_sure (checksum_sure carried _) nothing_sure)))

empty_sure : Sure empty_piece
empty_sure = list_sure no_items (λ _ _. nothing) (λ _ _. nothing_sure) []

pub payload_sure : (carried : Bool) (checksum file : ℕ) (f : Footer) → Sure (footer_payload_piece carried checksum file f)
unfolding footer_payload_piece
payload_sure carried checksum file f =
    and_sure (put_sure 8 64 feature_bits 0)
    (and_sure (put_sure 4 32 (names checksum) checksum)
    (and_sure empty_sure
    (and_sure empty_sure
    (and_sure (list_sure (at_most most_clusters) _ (λ before c. record_sure (cluster_sure carried file (entries_of before) c)) f.clusters)
    (and_sure (list_sure (at_most most_links) _ (λ _ l. link_sure file l) f.metadata) nothing_sure)))))

-- tables of few rows
record Few (f : Footer) : Type 0 where
  clusters : length f.clusters < 2 ^ 28
  metadata : length f.metadata < 2 ^ 28

few_in : (carried : Bool) (checksum file : ℕ) (f : Footer) → 8 + (footer_payload_piece carried checksum file f).long ≤ ceiling → Few f
unfolding footer_payload_piece link_piece
few_in carried checksum file f small =
    record {
      clusters = omega (arith, rows_long (cluster_item carried file) (λ _ _. omega arith) f.clusters []);
      metadata = omega (arith, rows_long (link_item file) (λ _ _. omega arith) f.metadata []);
    }

-- a row as it is read: without a checksum of its page list where these are not carried
abbrev as_read : Bool → ClusterRow → ClusterRow
as_read carried c =
    record { first_entry = c.first_entry; entries = c.entries; page_list = c.page_list; checksum = pick carried c.checksum no_checksum }

same_entries : (carried : Bool) (rows : List ClusterRow) → entries_of (map (as_read carried) rows) ≡ entries_of rows
unfolding entries_of
same_entries carried [] = refl
same_entries carried (c ∷ cs) = ap (λ (k : ℕ). c.entries + k) (same_entries carried cs)

-- that is the row, where it has a checksum exactly if these are carried

row_same : (carried : Bool) (c : ClusterRow) → as_carried carried c ≡ true → pick carried c.checksum no_checksum ≡ c.checksum
row_same true c e = refl
row_same false c e = sym (eqb-true c.checksum no_checksum e)

rows_same : (carried : Bool) (rows : List ClusterRow) → all_as_carried carried rows ≡ true → map (as_read carried) rows ≡ rows
unfolding all_as_carried
rows_same carried [] e = refl
rows_same carried (c ∷ cs) e =
    let (this, others) = both_true (as_carried carried c) (all_as_carried carried cs) e in
    let sum = row_same carried c this in
    let rest = rows_same carried cs others in
    λ i. record { first_entry = c.first_entry; entries = c.entries; page_list = c.page_list; checksum = sum i } ∷ rest i

module _ (s : List ℕ) (strict carried : Bool) (small : length s < 2 ^ 31) (checksum file : ℕ) where
  link_reads : (l : Link) → Reads s (link file) (link_piece file l) (λ a. a ≡ l)
  unfolding link link_piece
  link_reads l =
      next_reads s (plain_reads s 4 32 l.size (omega arith)) λ a₁ e₁.
      next_reads s (judged_reads s 4 31 (stored_as a₁) (stored_as l.size) l.size (omega arith) (ap (λ (v : ℕ). stored_as v l.size) e₁)) λ a₂ e₂.
      next_reads s (judged_reads s 8 64 (in_file file a₂ 0) (in_file file l.size 0) l.offset (omega arith) (ap (λ (v : ℕ). in_file file v 0 l.offset) e₂)) λ a₃ e₃.
      give_reads s _ _ (λ i. record { size = e₂ i; offset = e₃ i })

  checksum_reads : (n : ℕ) → Reads s (list_checksum carried) (checksum_piece carried n) (λ a. a ≡ pick carried n no_checksum)
  unfolding list_checksum checksum_piece
  checksum_reads n = by carried
    where
      by : (b : Bool) → Reads s (pick b (number 4) (give no_checksum)) (pick b (put 4 32 NoVerdict n) nothing) (λ a. a ≡ pick b n no_checksum)
      by true = plain_reads s 4 32 n (omega arith)
      by false = give_reads s no_checksum _ refl

  cluster_reads : (sum : ℕ) (c : ClusterRow) → Reads s (cluster carried file sum) (cluster_piece carried file sum c) (λ a. a ≡ as_read carried c)
  unfolding cluster cluster_piece
  cluster_reads sum c =
      next_reads s (number_reads s 8 64 (starts_at sum) c.first_entry (omega arith)) λ a₁ e₁.
      next_reads s (number_reads s 8 60 (entry_count sum) c.entries (omega arith)) λ a₂ e₂.
      next_reads s (link_reads c.page_list) λ a₃ e₃.
      next_reads s (checksum_reads c.checksum) λ a₄ e₄.
      give_reads s _ _ (λ i. record { first_entry = e₁ i; entries = e₂ i; page_list = e₃ i; checksum = e₄ i })

  empty_reads : Reads s (empty strict) empty_piece (λ xs. Unit {0})
  empty_reads =
      meant_reads s (λ _ _. tt)
      (list_reads s strict no_items (λ _ _. give tt) (λ _ _. nothing) (λ _ _ _. Unit {0}) [] small (omega arith) (λ done before m c. give_reads s tt _ tt))

  clusters_read_lem : (rows : List ClusterRow) → length rows < 2 ^ 28 → Reads s (cluster_list carried strict file) (cluster_list_piece carried file rows) (λ xs. xs ≡ map (as_read carried) rows)
  clusters_read_lem rows few =
      meant_reads s (λ xs m. means_rows m)
      (list_reads s strict (at_most most_clusters) (λ _ before. record_of strict (cluster carried file (entries_of before))) (cluster_item carried file) (λ done c a. a ≡ as_read carried c) rows small few
      (λ done before m c. rw (means_rows m, same_entries carried done) (record_reads strict small (cluster_reads (entries_of done) c))))

  links_read : (rows : List Link) → length rows < 2 ^ 28 → Reads s (link_list strict file) (link_list_piece file rows) (λ xs. xs ≡ rows)
  links_read rows few =
      meant_reads s (λ xs m. means_same m)
      (list_reads s strict (at_most most_links) (λ _ _. link file) (link_item file) (λ done c a. a ≡ c) rows small few (λ done before m c. link_reads c))

  payload_reads : (f : Footer) → Few f → all_as_carried carried f.clusters ≡ true
      → Reads s (payload carried checksum file strict) (footer_payload_piece carried checksum file f) (λ g. g ≡ f)
  unfolding payload footer_payload_piece
  payload_reads f few alike =
      let law : Reads s _ (footer_payload_piece carried checksum file f) (λ g. g ≡ f) =
      next_reads s (features_read s) λ _ _.
      next_reads s (number_reads s 4 32 (names checksum) checksum (omega arith)) λ _ _.
      next_reads s empty_reads λ _ _.
      next_reads s empty_reads λ _ _.
      next_reads s (clusters_read_lem f.clusters few.clusters) λ a₁ e₁.
      next_reads s (links_read f.metadata few.metadata) λ a₂ e₂.
      give_reads s (record { clusters = a₁; metadata = a₂ }) _ (λ i. record { clusters = (e₁ ∙ rows_same carried f.clusters alike) i; metadata = e₂ i }) in
      record { finds = law.finds; refuses = law.refuses }

-- versions 1 and 2 are read
version_read : (rows : List ClusterRow) → Accepts this_build (footer_version rows) 1
version_read [] = minimum_one 2 1 (omega arith) (omega arith) (omega arith)
version_read (c ∷ cs) = by (eqb c.checksum no_checksum)
  where
    by : (b : Bool) → Accepts this_build (pick b 1 2) 1
    by true = minimum_one 2 1 (omega arith) (omega arith) (omega arith)
    by false = minimum_one 2 2 (omega arith) (omega arith) (omega arith)

module _ (checksum file : ℕ) (f : Footer) where
  abbrev carried : Bool
  carried = carries_for f.clusters

  abbrev version : ℕ
  version = footer_version f.clusters

  abbrev inside : Piece
  inside = footer_payload_piece carried checksum file f

  promised_by : (b : Bool) → all_as_carried carried f.clusters ≡ b
      → Promised (tested_first b 19 (enveloped version 1 inside)) (footer_of checksum file (enveloped version 1 inside).bytes) (λ g. g ≡ f)
  unfolding footer_by_build
  promised_by true alike =
      promised
      (tested_takes 19
      (envelope_takes 2 (λ v. payload (carries this_build v.version) checksum file v.strict) version 1 inside (λ g. g ≡ f) (version_read f.clusters) (payload_sure carried checksum file f)
      (λ short size. payload_reads (enveloped version 1 inside).bytes (eqb version 1) carried (omega arith) checksum file f (few_in carried checksum file f short) alike)))
  promised_by false mixed = promised (unfit_takes (tested_first false 19 (enveloped version 1 inside)) refl (λ z. absurd (omega (arith, z))))

pub footer_promised : FooterPromised
unfolding FooterPromised footer_piece
footer_promised checksum file f = promised_by checksum file f (all_as_carried (carries_for f.clusters) f.clusters) refl

pub mixed_rows : MixedRows
unfolding MixedRows footer_piece
mixed_rows checksum file f mixed = rw mixed refl
