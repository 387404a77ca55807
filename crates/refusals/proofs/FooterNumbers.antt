-- The numbers that a footer can be refused with.
use Prim.Native.Nat.{ℕ, ◌+◌, ◌/◌, ◌%◌, ◌^◌}
use mathlib.Core.Path.{refl}
use mathlib.Core.Bool.{Bool}
use lib.Dec.{eqb, ltb}
use lib.ListN.{length}
use Rattle.wire.specs.Reading.{give}
use Rattle.frames.specs.Frames.{at_most, record_of}
use Rattle.footer.specs.Footer.{this_build, carries, names, no_items, empty, payload, footer_by_build}
use Rattle.links.specs.Links.{link}
use Rattle.clusters.specs.Clusters.{starts_at, entry_count, list_checksum, cluster, entries_of}
use Rattle.rows.specs.Words.{most_clusters, most_links}
use Rattle.refusals.specs.Refusals.{among, in_footer, FooterNumbers}
use Rattle.refusals.proofs.Naming.{Naming, unless_judged, last_judged, naming_give, naming_pick, naming_bind, naming_number, naming_tested, naming_located, naming_features, naming_record, naming_list, judging_most, named_versioned}

naming_link : (file : ℕ) → Naming in_footer (link file)
unfolding link among
naming_link file = naming_bind _ _ (naming_number refl 4) (λ size. naming_located refl file size 0 _ refl refl (λ stored offset. naming_give _))

naming_cluster : (carried : Bool) (file sum : ℕ) → Naming in_footer (cluster carried file sum)
unfolding cluster list_checksum among
naming_cluster carried file sum =
    naming_bind _ _ (naming_tested refl 8 (starts_at sum) (λ f. last_judged (eqb f sum) 19 refl)) (λ first.
    naming_bind _ _ (naming_tested refl 8 (entry_count sum) (λ w.
    unless_judged (eqb (w / 2 ^ 60 % 2) 0) 17 _ refl
    (unless_judged (ltb w (2 ^ 60)) 12 _ refl
    (last_judged (ltb (sum + w) (2 ^ 60)) 19 refl)))) (λ word.
    naming_bind _ _ (naming_link file) (λ l.
    naming_bind _ _ (naming_pick carried (naming_number refl 4) (naming_give _)) (λ checksum. naming_give _))))

naming_empty : (strict : Bool) → Naming in_footer (empty strict)
unfolding among
naming_empty strict = naming_list refl strict no_items (λ _ _. give tt) (λ n. last_judged (eqb n 0) 17 refl) (λ _ _. naming_give tt)

naming_payload : (carried : Bool) (checksum file : ℕ) (strict : Bool) → Naming in_footer (payload carried checksum file strict)
unfolding payload among
naming_payload carried checksum file strict =
    record {
      at = λ s p.
          (naming_bind _ _ (naming_features refl refl (length s)) (λ _.
          naming_bind _ _ (naming_tested refl 4 (names checksum) (λ c. last_judged (eqb c checksum) 16 refl)) (λ _.
          naming_bind _ _ (naming_empty strict) (λ _.
          naming_bind _ _ (naming_empty strict) (λ _.
          naming_bind _ _ (naming_list refl strict (at_most most_clusters) (λ _ before. record_of strict (cluster carried file (entries_of before))) (judging_most refl most_clusters refl) (λ _ before. naming_record refl strict (cluster carried file (entries_of before)) (naming_cluster carried file (entries_of before)))) (λ clusters.
          naming_bind _ _ (naming_list refl strict (at_most most_links) (λ _ _. link file) (judging_most refl most_links refl) (λ _ _. naming_link file)) (λ metadata.
          naming_give _))))))).at s p;
    }

pub footer_numbers : FooterNumbers
unfolding FooterNumbers footer_by_build among
footer_numbers checksum file g =
    (named_versioned refl this_build (λ v. payload (carries this_build v.version) checksum file v.strict) (λ v. naming_payload (carries this_build v.version) checksum file v.strict) g).number
