-- Footers that grow: their cluster records get bytes at their ends, and where the footer is raised to a version that carries them, checksums.
use Prim.Native.Nat.{ℕ, ◌+◌, ◌≤◌}
use mathlib.Core.List.{List, [], ◌∷◌, ◌++◌, map}
use mathlib.Core.Bool.{Bool, true, false, not}
use mathlib.Core.Path.{◌≡◌, refl, sym, ap, ◌∙◌, subst}
use native.Mathlib.Omega.{arith}
use borrow.Author.Tests.{leb-true, le-leb}
use lib.ListN.{length, drop, length-map}
use Rattle.numbers.specs.Choice.{pick, both}
use Rattle.numbers.specs.Rows.{flat, over}
use Rattle.numbers.proofs.Choice.{clash}
use Rattle.rows.specs.Words.{cluster_words}
use Rattle.footer.specs.Footer.{this_build, carries}
use Rattle.tree.specs.Shape.{Framed, record_shape, ValidItems}
use Rattle.tree.specs.FooterTree.{ClusterContent, cluster_row, entries_in, cluster_shape, clusters_shape, FooterContent, FooterPayload, footer_carrier, footer_shape, footer_shapes, footer_tables, FooterTree, RightFooter}
use Rattle.forward.specs.Extension.{Grown, Pairwise, none, more, Chosen, kept, extended}
use Rattle.forward.specs.ReadersForward.{Checksummed, GrownFooter, raised, checksums_in, with_checksums}
use Rattle.forward.proofs.Extending.{grown_records, extended_right}

grown_footer : (old new : FooterPayload) → GrownFooter false old new → footer_carrier.content old ≡ footer_carrier.content new
grown_footer old new g =
    λ i. record {
      words = g.words i;
      checksum = g.checksum i;
      extensions = map (λ x. x) (g.extensions.inside i);
      groups = map (λ x. x) (g.groups.inside i);
      clusters = grown_records old.clusters.inside new.clusters.inside g.clusters.inside i;
      metadata = map (λ x. x) (g.metadata.inside i);
    }

-- Clusters that get checksums.

-- the contents of records
abbrev said : List (Framed ClusterContent) → List ClusterContent
said = map (λ (f : Framed ClusterContent). f.inside)

-- the words of their rows
abbrev row_words_lem : List (Framed ClusterContent) → List ℕ
row_words_lem ts = flat cluster_words (map cluster_row (said ts))

entries_snoc : (cs : List ClusterContent) (c : ClusterContent) → entries_in (cs ++ (c ∷ [])) ≡ entries_in cs + c.entries
entries_snoc [] c = omega arith
entries_snoc (d ∷ cs) c = let e = entries_snoc cs c in omega arith

each_long : {T : Type 0} {Grows : T → T → Type 0} (ts us : List T) → Pairwise Grows ts us → length us ≡ length ts
each_long _ _ none = refl
each_long _ _ (more {ts = ts} {us = us} g rest) = let e = each_long ts us rest in omega arith

given_valid : (file : ℕ) (ts us : List (Framed ClusterContent)) → Pairwise (Grown Checksummed) ts us → (done done' : List ClusterContent) → entries_in done' ≡ entries_in done
    → ValidItems (λ before. record_shape (cluster_shape false file (entries_in before))) done (said ts)
    → ValidItems (λ before. record_shape (cluster_shape true file (entries_in before))) done' (said us)
unfolding cluster_shape
given_valid file _ _ none done done' e v = tt
given_valid file _ _ (more {t = t} {u = u} {ts = ts} {us = us} g rest) done done' e v =
    let w = v.0 in
    let k = g.inside in
    let sums : entries_in (done' ++ (u.inside ∷ [])) ≡ entries_in (done ++ (t.inside ∷ [])) = omega (arith, e, k.entries, entries_snoc done t.inside, entries_snoc done' u.inside) in
    ((rw (e, k.first) w.0, (rw (e, k.entries) w.1.0, (rw k.link w.1.1.0, ((omega (arith, k.fits), refl), tt)))), given_valid file ts us rest (done ++ (t.inside ∷ [])) (done' ++ (u.inside ∷ [])) sums v.1)

given_clusters : (file : ℕ) (ts us : List (Framed ClusterContent)) → Pairwise (Grown Checksummed) ts us → (clusters_shape false file).Valid (said ts) → (clusters_shape true file).Valid (said us)
given_clusters file ts us each v =
    let many : length (said us) ≡ length (said ts) = length-map us _ ∙ each_long ts us each ∙ sym (length-map ts _) in
    (rw many v.0, rw many v.1, given_valid file ts us each [] [] refl v.2)

given_words : (ts us : List (Framed ClusterContent)) → Pairwise (Grown Checksummed) ts us → (rest : List ℕ)
    → row_words_lem us ++ rest ≡ with_checksums (map (λ (f : Framed ClusterContent). f.inside.checksum) us) (row_words_lem ts ++ rest)
unfolding flat with_checksums
given_words _ _ none rest = refl
given_words _ _ (more {t = t} {u = u} {ts = ts} {us = us} g each) rest =
    λ i. g.inside.first i ∷ g.inside.entries i ∷ (g.inside.link i).stored ∷ (g.inside.link i).offset ∷ u.inside.checksum ∷ given_words ts us each rest i

given_long : (ts us : List (Framed ClusterContent)) → Pairwise (Grown Checksummed) ts us → length (row_words_lem us) ≡ length (row_words_lem ts)
unfolding flat
given_long _ _ none = refl
given_long _ _ (more {ts = ts} {us = us} g each) = let e = given_long ts us each in omega arith

-- Validity at the new version: `a` and `b` say whether the old and the new version carry checksums.
grown_valid : (a b : Bool) (checksum file : ℕ) (old new : FooterPayload) → (a ≡ true → b ≡ true) → GrownFooter (both (not a) b) old new
    → (footer_shape a checksum file).Valid (footer_carrier.content old) → (footer_shape b checksum file).Valid (footer_carrier.content new)
unfolding footer_shape
grown_valid true true checksum file old new up g v = subst (footer_shape true checksum file).Valid (grown_footer old new g) v
grown_valid true false checksum file old new up g v = clash (up refl) refl
grown_valid false false checksum file old new up g v = subst (footer_shape false checksum file).Valid (grown_footer old new g) v
grown_valid false true checksum file old new up g v =
    let now = footer_carrier.content new in
    let mixed : FooterContent = record { words = now.words; checksum = now.checksum; extensions = now.extensions; groups = now.groups; clusters = said old.clusters.inside; metadata = now.metadata } in
    let same : footer_carrier.content old ≡ mixed = λ i. record {
      words = g.words i;
      checksum = g.checksum i;
      extensions = map (λ x. x) (g.extensions.inside i);
      groups = map (λ x. x) (g.groups.inside i);
      clusters = said old.clusters.inside;
      metadata = map (λ x. x) (g.metadata.inside i);
    } in
    let w = subst (footer_shape false checksum file).Valid same v in
    (w.0, (w.1.0, (w.1.1.0, (w.1.1.1.0, (given_clusters file old.clusters.inside new.clusters.inside g.clusters.inside w.1.1.1.1.0, w.1.1.1.1.1)))))

-- What the new footer's rows are; `up`: the footer was raised.
pub record Rows (up : Bool) (old new : FooterTree) : Type 0 where
  pub clusters : (table : List ℕ)
      → over (row_words_lem new.inside.clusters.inside) table
      ≡ pick up (with_checksums (checksums_in new) (over (row_words_lem old.inside.clusters.inside) table)) (over (row_words_lem old.inside.clusters.inside) table)
  pub count : length (footer_tables (footer_carrier.content new.inside)).clusters ≡ length (footer_tables (footer_carrier.content old.inside)).clusters
  pub metadata : (footer_tables (footer_carrier.content new.inside)).metadata ≡ (footer_tables (footer_carrier.content old.inside)).metadata

grown_rows : (up : Bool) (old new : FooterTree) → GrownFooter up old.inside new.inside → Rows up old new
grown_rows false old new g =
    let same = sym (grown_footer old.inside new.inside g) in
    record {
      clusters = λ table. ap (λ (c : FooterContent). over (flat cluster_words (map cluster_row c.clusters)) table) same;
      count = ap (λ (c : FooterContent). length (map cluster_row c.clusters)) same;
      metadata = ap (λ (c : FooterContent). (footer_tables c).metadata) same;
    }
grown_rows true old new g =
    let ts = old.inside.clusters.inside in
    let us = new.inside.clusters.inside in
    let each = g.clusters.inside in
    record {
      clusters = λ table.
          given_words ts us each (drop (length (row_words_lem us)) table)
          ∙ ap (λ (n : ℕ). with_checksums (checksums_in new) (row_words_lem ts ++ drop n table)) (given_long ts us each);
      count = length-map (said us) cluster_row ∙ length-map us _ ∙ each_long ts us each ∙ sym (length-map ts _) ∙ sym (length-map (said ts) cluster_row);
      metadata = sym (ap (λ (l : List _). (footer_tables (record { words = 0; checksum = 0; extensions = []; groups = []; clusters = []; metadata = map (λ x. x) l })).metadata) g.metadata.inside);
    }

not_raised : (a : Bool) → both (not a) a ≡ false
not_raised true = refl
not_raised false = refl

-- a version that carries checksums, and one above it
carries_on : (version version' : ℕ) → version ≤ version' → carries this_build version ≡ true → carries this_build version' ≡ true
carries_on version version' up e = le-leb 2 version' (omega (arith, up, leb-true 2 version e))

-- a footer that is kept or extended is right, and its rows are the same but for the checksums that it got
pub chosen_footer : (checksum file : ℕ) (up : Bool) (old new : FooterTree) → up ≡ raised old.version new.version → RightFooter checksum file old
    → Chosen (GrownFooter up) old new → RightFooter checksum file new × Rows up old new
chosen_footer checksum file up old _ is right kept =
    let same : up ≡ false = is ∙ not_raised (carries this_build old.version) in
    (right, record { clusters = λ table. rw same refl; count = refl; metadata = refl })
chosen_footer checksum file up old _ is right (extended {new = new} ext) =
    let a = carries this_build old.version in
    let b = carries this_build new.version in
    let grown : GrownFooter (both (not a) b) old.inside new.inside = subst (λ (x : Bool). GrownFooter x old.inside new.inside) is ext.inside in
    let valid = grown_valid a b checksum file old.inside new.inside (carries_on old.version new.version ext.not_lowered) grown right.valid in
    (extended_right this_build footer_carrier (footer_shapes checksum file) old new right ext valid, grown_rows up old new ext.inside)
