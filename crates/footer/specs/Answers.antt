-- What a scan of a payload says of it.
use Rattle.std.specs.Prelude.{ℕ, List, ◌≡◌, Bool, true, length, Result, Ok, Err}
use Rattle.wire.specs.declared.Fault.{Fault}
use Rattle.wire.specs.Reading.{found, refused, accepted, rows_of}
use Rattle.envelope.specs.Envelope.{whole}
use Rattle.footer.specs.Footer.{Footer, payload}
use Rattle.links.specs.Links.{link_list}
use Rattle.clusters.specs.Clusters.{cluster_list}
use Rattle.footer.specs.declared.lists.FooterScan.{FooterScan}

-- the footer whose lists stand where a scan says
abbrev pub scanned_footer : Bool → Bool → ℕ → List ℕ → FooterScan → Footer
scanned_footer carried strict file s scan =
    record { clusters = rows_of (cluster_list carried strict file s scan.clusters_at); metadata = rows_of (link_list strict file s scan.metadata_at) }

-- a payload is the footer whose lists stand where a scan says, and each has as many rows as it says
pub record Scanned (checksum file : ℕ) (carried strict : Bool) (s : List ℕ) (scan : FooterScan) : Type 0 where
  pub was : whole strict (payload carried checksum file strict) s 4 ≡ found (scanned_footer carried strict file s scan) (length s)
  pub clusters_read : accepted (cluster_list carried strict file s scan.clusters_at) ≡ true
  pub metadata_read : accepted (link_list strict file s scan.metadata_at) ≡ true
  pub clusters_counted : length (scanned_footer carried strict file s scan).clusters ≡ scan.clusters
  pub metadata_counted : length (scanned_footer carried strict file s scan).metadata ≡ scan.metadata

-- what a scan of a payload says of it
abbrev pub Scans : ℕ → ℕ → Bool → Bool → List ℕ → Result FooterScan Fault → Type 0
Scans checksum file carried strict s (Ok scan) = Scanned checksum file carried strict s scan
Scans checksum file carried strict s (Err f) = whole strict (payload carried checksum file strict) s 4 ≡ refused f
