-- The payload: what a scan of it says, from what its parts read.
use Prim.Native.Nat.{ℕ}
use mathlib.Core.Path.{◌≡◌, sym, ap, ◌∙◌}
use mathlib.Core.Bool.{Bool, true, false}
use mathlib.Core.List.{List}
use lib.ListN.{length}
use Rattle.wire.specs.declared.Fault.{Fault}
use Rattle.wire.specs.declared.Kind.TheVariants.{Spare}
use Rattle.envelope.specs.Envelope.{whole}
use Rattle.wire.specs.Reading.{Step, found, refused, ◌>>=◌, after, give, counted, rows_of, fault}
use Rattle.frames.specs.Frames.{spare, closed}
use Rattle.frames.proofs.Laws.{ended, spared}
use Rattle.numbers.specs.Choice.{pick}
use Rattle.wire.proofs.Laws.{never, counted_found, counted_refused}
use Rattle.footer.specs.Footer.{payload, opening}
use Rattle.links.specs.Links.{link_list}
use Rattle.clusters.specs.Clusters.{cluster_list}
use Rattle.footer.specs.Answers.{Scanned}
use Rattle.footer.proofs.OpeningLaws.{opening_then}

module _ (checksum file : ℕ) (carried strict : Bool) (s : List ℕ) where
  payload_is : payload carried checksum file strict s 4 ≡ after (λ _. cluster_list carried strict file >>= (λ clusters. link_list strict file >>= (λ metadata. give (record { clusters = clusters; metadata = metadata })))) s (opening checksum strict s 4)
  unfolding payload
  payload_is = opening_then checksum strict (cluster_list carried strict file >>= (λ clusters. link_list strict file >>= (λ metadata. give (record { clusters = clusters; metadata = metadata })))) s 4

  pub no_opening : {f : Fault} → opening checksum strict s 4 ≡ refused f → whole strict (payload carried checksum file strict) s 4 ≡ refused f
  no_opening o = rw (payload_is, o)

  module _ {ca : ℕ} (o : opening checksum strict s 4 ≡ found tt ca) where
    clusters_refused : {f : Fault} → cluster_list carried strict file s ca ≡ refused f → whole strict (payload carried checksum file strict) s 4 ≡ refused f
    clusters_refused e = rw (payload_is, o, e)

    pub no_clusters : {f : Fault} → refused f ≡ counted (cluster_list carried strict file s ca) → whole strict (payload carried checksum file strict) s 4 ≡ refused f
    no_clusters e = clusters_refused (counted_refused (cluster_list carried strict file s ca) (sym e))

    module _ {n ma : ℕ} (c : found n ma ≡ counted (cluster_list carried strict file s ca)) where
      the_clusters : (cluster_list carried strict file s ca ≡ found (rows_of (cluster_list carried strict file s ca)) ma) × (length (rows_of (cluster_list carried strict file s ca)) ≡ n)
      the_clusters = counted_found (cluster_list carried strict file s ca) (sym c)

      pub no_metadata : {f : Fault} → refused f ≡ counted (link_list strict file s ma) → whole strict (payload carried checksum file strict) s 4 ≡ refused f
      no_metadata e = rw (payload_is, o, the_clusters.0, counted_refused (link_list strict file s ma) (sym e))

      module _ {m p : ℕ} (l : found m p ≡ counted (link_list strict file s ma)) where
        the_metadata : (link_list strict file s ma ≡ found (rows_of (link_list strict file s ma)) p) × (length (rows_of (link_list strict file s ma)) ≡ m)
        the_metadata = counted_found (link_list strict file s ma) (sym l)

        payload_found : payload carried checksum file strict s 4 ≡ found (record { clusters = rows_of (cluster_list carried strict file s ca); metadata = rows_of (link_list strict file s ma) }) p
        payload_found = rw (payload_is, o, the_clusters.0, the_metadata.0)

        pub spare_bytes : {f : Fault} → ◌≡◌ {A = Step (Unit {0})} (refused f) (closed strict (length s) (found tt p)) → whole strict (payload carried checksum file strict) s 4 ≡ refused f
        spare_bytes e = ap (closed strict (length s)) payload_found ∙ spared (λ f. f) strict p (length s) (record { clusters = rows_of (cluster_list carried strict file s ca); metadata = rows_of (link_list strict file s ma) }) e

        whole_end : {q : ℕ} (b : Bool) → found tt q ≡ pick {A = Step (Unit {0})} b (refused (fault 11 Spare p)) (found tt (length s)) → q ≡ length s
        whole_end true g = never (sym g)
        whole_end false g = cc

        pub scanned : {q : ℕ} → ◌≡◌ {A = Step (Unit {0})} (found tt q) (closed strict (length s) (found tt p)) → Scanned checksum file carried strict s (record { clusters_at = ca; clusters = n; metadata_at = ma; metadata = m })
        scanned e =
            record {
              was =
                  ap (closed strict (length s)) payload_found ∙ ended (λ f. f) strict p (length s) (record { clusters = rows_of (cluster_list carried strict file s ca); metadata = rows_of (link_list strict file s ma) }) e
                  ∙ ap (found (record { clusters = rows_of (cluster_list carried strict file s ca); metadata = rows_of (link_list strict file s ma) })) (whole_end (spare strict p (length s)) e);
              clusters_read = rw the_clusters.0;
              metadata_read = rw the_metadata.0;
              clusters_counted = the_clusters.1;
              metadata_counted = the_metadata.1;
            }
