-- What the reading of a footer leaves, from what a scan of its payload says.
use Prim.Native.Nat.{ℕ, ◌*◌, ◌/◌, ◌≤◌}
use mathlib.Core.Path.{◌≡◌, ◌∙◌}
use mathlib.Core.Bool.{Bool, true, false}
use mathlib.Core.List.{List}
use native.Mathlib.Omega.{arith}
use borrow.Author.Tests.{leb-true}
use lib.Dec.{leb}
use lib.ListN.{length, take}
use Rattle.numbers.proofs.Choice.{both_true}
use Rattle.numbers.specs.Rows.{flat, over}
use Rattle.wire.specs.declared.Fault.{Fault}
use Rattle.envelope.specs.Envelope.{Versions, checksum_of, opened, whole, versioned}
use Rattle.wire.specs.Reading.{found, refused, rows_of}
use Rattle.header.specs.Header.{Header}
use Rattle.header.specs.Tables.{header_of}
use Rattle.header.specs.Beside.{Beside, refusal, in_envelope}
use Rattle.footer.specs.Footer.{Footer, this_build, carries, payload, footer_by_build}
use Rattle.links.specs.Links.{link_list}
use Rattle.clusters.specs.Clusters.{cluster_list}
use Rattle.footer.specs.Tables.{fitting, room_for, answer, written, beside_by_build, footer_beside, Answered}
use Rattle.rows.specs.Words.{cluster_width, cluster_words, link_width, link_words}
use Rattle.footer.specs.Answers.{Scanned, scanned_footer}
use Rattle.footer.specs.Answer.{FooterAnswer}
use Rattle.footer.specs.declared.lists.FooterScan.{FooterScan}
use Rattle.std.specs.Prelude.{Ok, Err}

pub answered_refused : {x : Beside Footer} {k : ℕ} {f : Fault} (C M : List ℕ) → x ≡ refusal k f → Answered x C C M M (Err (record { envelope = k; number = f.number }))
unfolding answer written
answered_refused C M e = record { answers = rw e; reports = rw e; clusters_are = rw e; metadata_are = rw e }

-- a payload that a scan accepted, and lent tables C and M
module _ {checksum file : ℕ} {carried strict : Bool} {s : List ℕ} {scan : FooterScan} (k : Scanned checksum file carried strict s scan) (C M : List ℕ) where
  room_is : room_for (length C) (length M) (scanned_footer carried strict file s scan) ≡ fitting (length C) (length M) scan.clusters scan.metadata
  room_is = rw (k.clusters_counted, k.metadata_counted)

  pub no_room : fitting (length C) (length M) scan.clusters scan.metadata ≡ false
      → Answered (in_envelope 2 (whole strict (payload carried checksum file strict) s 4)) C C M M (Err (record { envelope = 2; number = 20 }))
  unfolding answer written
  no_room r =
      let z = room_is ∙ r in
      record { answers = rw (k.was, z); reports = rw (k.was, z); clusters_are = rw (k.was, z); metadata_are = rw (k.was, z) }

  module _ (r : fitting (length C) (length M) scan.clusters scan.metadata ≡ true) where
    rooms : (leb scan.clusters (length C / cluster_width) ≡ true) × (leb scan.metadata (length M / link_width) ≡ true)
    rooms = both_true (leb scan.clusters (length C / cluster_width)) (leb scan.metadata (length M / link_width)) r

    pub clusters_fit_lem : cluster_width * length (rows_of (cluster_list carried strict file s scan.clusters_at)) ≤ length C
    clusters_fit_lem = let a = leb-true scan.clusters (length C / cluster_width) rooms.0 in let n = k.clusters_counted in omega arith

    pub metadata_fit_lem : link_width * length (rows_of (link_list strict file s scan.metadata_at)) ≤ length M
    metadata_fit_lem = let a = leb-true scan.metadata (length M / link_width) rooms.1 in let n = k.metadata_counted in omega arith

    pub all_read : {C' M' : List ℕ}
        → C' ≡ over (flat cluster_words (rows_of (cluster_list carried strict file s scan.clusters_at))) C
        → M' ≡ over (flat link_words (rows_of (link_list strict file s scan.metadata_at))) M
        → Answered (in_envelope 2 (whole strict (payload carried checksum file strict) s 4)) C C' M M' (Ok (record { clusters = scan.clusters; metadata = scan.metadata }))
    unfolding answer written
    all_read x y =
        let z = room_is ∙ r in
        record {
          answers = rw (k.was, z, k.clusters_counted, k.metadata_counted);
          reports = rw (k.was, z, k.clusters_counted, k.metadata_counted);
          clusters_are = rw (k.was, z) x;
          metadata_are = rw (k.was, z) y;
        }

-- a footer beside its header

pub header_first : (header footer : List ℕ) (file : ℕ) {g : Fault} → header_of header ≡ refused g → footer_beside header footer file ≡ refusal 1 g
unfolding beside_by_build
header_first header footer file w = rw w

module _ (header footer : List ℕ) (file : ℕ) {h : Header} {p : ℕ} (w : header_of header ≡ found h p) where
  pub not_opened : {f : Fault} → opened this_build footer ≡ refused f → footer_beside header footer file ≡ refusal 2 f
  unfolding beside_by_build footer_by_build versioned
  not_opened o = rw (w, o)

  -- what is left of the payload's reading, by the header's checksum, is left of the footer's
  pub footer_read_lem : {v : Versions} {stop sum : ℕ} {carried : Bool} {s C C' M M' : List ℕ} {r : FooterAnswer} → opened this_build footer ≡ found v stop → sum ≡ checksum_of header → s ≡ take stop footer
      → carried ≡ carries this_build v.version → Answered (in_envelope 2 (whole v.strict (payload carried sum file v.strict) s 4)) C C' M M' r
      → Answered (footer_beside header footer file) C C' M M' r
  unfolding beside_by_build footer_by_build versioned
  footer_read_lem o e u d k = rw (w, o) (rw (e, u, d) at k)
