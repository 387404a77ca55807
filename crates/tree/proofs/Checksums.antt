-- Which rows of an accepted footer have the checksum of their page list.
use Prim.Native.Nat.{ℕ, ◌<◌}
use mathlib.Core.List.{List, [], ◌∷◌, ◌++◌, map}
use mathlib.Core.Bool.{Bool, true, false}
use mathlib.Core.Path.{◌≡◌, sym, ap, ◌∙◌, subst}
use native.Mathlib.Omega.{arith}
use lib.ListN.{length, drop, get_or}
use Rattle.numbers.specs.Lists.{Each}
use Rattle.numbers.proofs.Lists.{each_at}
use Rattle.outcome.specs.Outcome.{is_accepted}
use Rattle.envelope.specs.Envelope.{version_of}
use Rattle.rows.specs.Tables.{cluster_row}
use Rattle.rows.proofs.RowLaws.{clusters_back}
use Rattle.footer.specs.Footer.{this_build, carries}
use Rattle.footer.specs.Tables.{footer_beside, cluster_table, outcome_of}
use Rattle.footer.specs.Answer.{FooterAnswer}
use Rattle.tree.specs.Bytes.{Bytes}
use Rattle.tree.specs.Shape.{record_shape, ValidItems}
use Rattle.tree.specs.EnvelopeTree.{unsummed}
use Rattle.tree.specs.FooterTree.{ClusterContent, cluster_row as row_of, entries_in, cluster_shape, footer_carrier, footer_shape, footer_shapes, FooterTree, render_footer, RightFooter}
use Rattle.tree.specs.Checksums.{HasChecksum, ChecksumsByVersion}
use Rattle.tree.proofs.Envelope.{parts, sealed_parts}
use Rattle.tree.proofs.Exactly.{footer_exactly}
use Rattle.tree.proofs.Accepted.{FooterRead, footer_read_lem}
use Rattle.tree.proofs.FooterCalls.{footer_left}
use Rattle.std.specs.Prelude.{Ok, Err}

-- by what the trees say

cluster_has : (carried : Bool) (file sum : ℕ) (c : ClusterContent) → (cluster_shape carried file sum).Valid c → HasChecksum carried (row_of c)
unfolding cluster_shape
cluster_has true file sum c v = v.1.1.1.0.0
cluster_has false file sum c v = v.1.1.1.0

clusters_have : (carried : Bool) (file : ℕ) (done cs : List ClusterContent) → ValidItems (λ before. record_shape (cluster_shape carried file (entries_in before))) done cs
    → Each (HasChecksum carried) (map row_of cs)
clusters_have carried file done [] v = tt
clusters_have carried file done (c ∷ cs) v = (cluster_has carried file (entries_in done) c v.0, clusters_have carried file (done ++ (c ∷ [])) cs v.1)

-- a footer's version is its tree's
version_same : (checksum file : ℕ) (t : FooterTree) → RightFooter checksum file t → version_of (render_footer t) ≡ t.version
version_same checksum file t right =
    let s = sealed_parts (unsummed (footer_shapes 0 0) t) in
    (parts (footer_shapes 0 0) t (render_footer t) right.version_fits (omega (arith, right.order, right.version_fits)) s.stands).version

-- the clusters that were read
read_have : (e g : List ℕ) (file c m : ℕ) → Bytes g → (k : FooterRead e g file c m) → Each (HasChecksum (carries this_build (version_of g))) k.footer.clusters
unfolding footer_shape
read_have e g file c m bytes k =
    let b = k.both in
    let w = footer_exactly.sound _ file g k.footer b.stop bytes b.inner in
    let version : version_of g ≡ w.tree.version = sym (ap version_of w.bytes) ∙ version_same _ file w.tree w.right in
    rw (w.means, version) (clusters_have (carries this_build w.tree.version) file [] (footer_carrier.content w.tree.inside).clusters w.right.valid.1.1.1.1.0.2)

-- the clusters that an answer counts
abbrev clusters_in : FooterAnswer → ℕ
clusters_in (Ok counts) = counts.clusters
clusters_in (Err why) = 0

pub checksums_by_version : ChecksumsByVersion
unfolding ChecksumsByVersion
checksums_by_version e g file c₀ c m₀ m clusters metadata bytes call i h =
    let k = footer_read_lem e g file (length c₀) (length m₀) (sym (ap (λ (y : FooterAnswer). is_accepted (outcome_of y)) call.answers)) in
    let rows = k.footer.clusters in
    let P = HasChecksum (carries this_build (version_of g)) in
    let left = footer_left (footer_beside e g file) k.footer c₀ c m₀ m (Ok (record { clusters = clusters; metadata = metadata })) k.is k.room call in
    let count = left.answers in
    let many : clusters ≡ length rows = ap clusters_in count in
    let inside : i < length rows = omega (arith, many, h) in
    let row : cluster_row c i ≡ get_or rows i (cluster_row c i) = ap (λ (t : List ℕ). cluster_row t i) left.clusters ∙ clusters_back.each rows (drop (length (cluster_table k.footer)) c₀) (cluster_row c i) i inside in
    subst P (sym row) (each_at P rows (cluster_row c i) i (read_have e g file (length c₀) (length m₀) bytes k) inside)
