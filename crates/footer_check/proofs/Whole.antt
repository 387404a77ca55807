-- A whole footer: its length, and its first refusal.
use Prim.Native.Nat.{ℕ, ◌+◌, ◌*◌, ◌/◌, ◌≤◌, ◌<◌}
use mathlib.Core.Path.{◌≡◌, refl, sym, ap, ◌∙◌}
use mathlib.Core.Bool.{Bool, true, false}
use mathlib.Core.List.{List, [], ◌∷◌, ◌++◌}
use native.Mathlib.Nat.{suc-mul}
use native.Mathlib.Omega.{arith}
use borrow.Author.Tests.{le-leb, lt-leb}
use lib.Dec.{leb}
use lib.ListN.{length}
use Rattle.envelope.specs.Envelope.{ceiling}
use Rattle.rows.specs.Words.{cluster_width, link_width}
use Rattle.rows.specs.Tables.{cluster_row, link_row}
use Rattle.rows.specs.declared.ClusterRow.{ClusterRow}
use Rattle.rows.specs.declared.Link.{Link}
use Rattle.rows.proofs.FirstRows.{rows_length}
use Rattle.clusters.specs.Clusters.{entries_of}
use Rattle.writing.specs.Piece.{Piece, record_piece, pieces}
use Rattle.writing.specs.Rows.{all_rows, footer_rows}
use Rattle.writing.specs.Footer.{link_piece, checksum_piece, cluster_piece, cluster_item, link_item, carries_for, all_as_carried, footer_payload_piece, footer_piece}
use Rattle.verdicts.specs.Length.{capped}
use Rattle.verdicts.proofs.Capped.{capped_leb, grown_twice}
use Rattle.footer_check.specs.Sizes.{record_size}

-- lengths

record_long : (carried : Bool) (file sum : ℕ) (c : ClusterRow) → (record_piece (cluster_piece carried file sum c)).long ≡ record_size carried
unfolding cluster_piece link_piece checksum_piece
record_long true file sum c = refl
record_long false file sum c = refl

clusters_long : (carried : Bool) (file : ℕ) (done rows : List ClusterRow) → (pieces (cluster_item carried file) done rows).long ≡ length rows * record_size carried
unfolding pieces
clusters_long carried file done [] = omega arith
clusters_long carried file done (c ∷ rows) =
    omega (arith, record_long carried file (entries_of done) c, clusters_long carried file (done ++ (c ∷ [])) rows, suc-mul (length rows) (record_size carried))

links_long : (file : ℕ) (done rows : List Link) → (pieces (link_item file) done rows).long ≡ length rows * 16
unfolding pieces link_piece
links_long file done [] = omega arith
links_long file done (l ∷ rows) = omega (arith, links_long file (done ++ (l ∷ [])) rows)

module _ (checksum file : ℕ) (clusters metadata : List ℕ) where
  abbrev rows : List ClusterRow
  rows = all_rows cluster_row cluster_width clusters

  abbrev x : Piece
  x = footer_piece checksum file (footer_rows clusters metadata)

  footer_long_is : x.long ≡ 52 + (length clusters / 5 * record_size (carries_for rows) + length metadata / 2 * 16)
  unfolding footer_piece footer_payload_piece pieces
  footer_long_is =
      let carried = carries_for rows in
      let n_is = rows_length cluster_row clusters (length clusters / 5) in
      let m_is = rows_length link_row metadata (length metadata / 2) in
      let c = clusters_long carried file [] rows in
      let l = links_long file [] (all_rows link_row link_width metadata) in
      omega (arith, c, l, ap (λ (k : ℕ). k * record_size carried) n_is, ap (λ (k : ℕ). k * 16) m_is)

  pub footer_counted : {carried : Bool} {size r s : ℕ} → carried ≡ carries_for rows → size ≡ record_size carried → r ≡ capped (52 + length clusters / 5 * size)
      → s ≡ capped (r + length metadata / 2 * 16) → s ≡ capped x.long
  footer_counted {size = size} {r} {s} is its-size e f =
      grown_twice 52 (length clusters / 5 * size) (length metadata / 2 * 16) r s e f
      ∙ ap (λ (k : ℕ). capped (52 + (length clusters / 5 * k + length metadata / 2 * 16))) (its-size ∙ ap record_size is)
      ∙ ap capped (sym footer_long_is)

  -- the first refusal: rows that are not alike, the length, the payload

  module _ {carried good : Bool} (is : carried ≡ carries_for rows) (tested : good ≡ all_as_carried carried rows) where
    its_test : all_as_carried (carries_for rows) rows ≡ good
    its_test = sym (tested ∙ ap (λ (b : Bool). all_as_carried b rows) is)

    pub number_mixed : good ≡ false → 19 ≡ x.number
    unfolding footer_piece
    number_mixed e = let z = its_test ∙ e in rw z refl

    module _ (alike : good ≡ true) {long : ℕ} (counted : long ≡ capped x.long) where
      pub number_long : ceiling < long → 1 ≡ x.number
      unfolding footer_piece
      number_long big =
          let z = its_test ∙ alike in
          let over_it : leb x.long ceiling ≡ false = sym (capped_leb x.long) ∙ ap (λ (k : ℕ). leb k ceiling) (sym counted) ∙ lt-leb long ceiling big in
          rw (z, over_it) refl

      pub number_short : {r : ℕ} → long ≤ ceiling → r ≡ (footer_payload_piece carried checksum file (footer_rows clusters metadata)).number → r ≡ x.number
      unfolding footer_piece
      number_short {r} short e =
          let z = its_test ∙ alike in
          let within : leb x.long ceiling ≡ true = sym (capped_leb x.long) ∙ ap (λ (k : ℕ). leb k ceiling) (sym counted) ∙ le-leb long ceiling short in
          rw (z, within) (e ∙ ap (λ (b : Bool). (footer_payload_piece b checksum file (footer_rows clusters metadata)).number) is)
