-- The bytes of a footer that is written.
use Prim.Native.Nat.{ℕ, ◌+◌, ◌-◌, ◌^◌}
use mathlib.Core.Path.{◌≡◌, refl, ap, ◌∙◌}
use mathlib.Core.Bool.{Bool, true, false}
use mathlib.Core.List.{List, [], ◌∷◌, ◌++◌}
use native.Mathlib.Omega.{arith}
use lib.Dec.{eqb}
use lib.ListN.{length, length-append}
use Rattle.numbers.specs.Choice.{pick}
use Rattle.rows.specs.Words.{no_checksum}
use Rattle.rows.specs.declared.Link.{Link}
use Rattle.rows.specs.declared.ClusterRow.{ClusterRow}
use Rattle.footer.specs.Footer.{Footer, this_build, carries}
use Rattle.tree.specs.Bytes.{spelled}
use Rattle.tree.specs.Spelling.{footer_version}
use Rattle.writing.specs.Piece.{record_piece, pieces}
use Rattle.writing.specs.Footer.{link_piece, checksum_piece, cluster_piece, empty_piece, carries_for, footer_payload_piece}
use Rattle.stores.specs.Stored.{Stored}
use Rattle.stores.proofs.Storing.{numbers_long, stored_then, stored_as_lem}
use Rattle.footer_check.specs.Sizes.{record_size}

-- a record of a cluster has the size that is stored first

link_long : (file : ℕ) (l : Link) → length (link_piece file l).bytes ≡ 16
unfolding link_piece
link_long file l = numbers_long 4 l.size _ (numbers_long 4 l.size _ (numbers_long 8 l.offset [] refl))

checksum_long : (carried : Bool) (n : ℕ) → length ((checksum_piece carried n).bytes ++ []) ≡ pick carried 4 0
unfolding checksum_piece
checksum_long true n = numbers_long 4 n [] refl
checksum_long false n = refl

size_is : (carried : Bool) → 36 + pick carried 4 0 ≡ record_size carried
size_is true = refl
size_is false = refl

pub cluster_record : (carried : Bool) (file sum : ℕ) (c : ClusterRow) {size : ℕ} → size ≡ record_size carried
    → spelled 4 size ++ (spelled 8 c.first_entry ++ (spelled 8 c.entries ++ ((link_piece file c.page_list).bytes ++ ((checksum_piece carried c.checksum).bytes ++ []))))
    ≡ (record_piece (cluster_piece carried file sum c)).bytes
unfolding cluster_piece
cluster_record carried file sum c {size} is =
    let link = (link_piece file c.page_list).bytes in
    let last = (checksum_piece carried c.checksum).bytes ++ [] in
    let body = spelled 8 c.first_entry ++ (spelled 8 c.entries ++ (link ++ last)) in
    let four : length (link ++ last) ≡ 16 + pick carried 4 0 = length-append link last ∙ (λ i. link_long file c.page_list i + checksum_long carried c.checksum i) in
    let long : length body ≡ 8 + (8 + (16 + pick carried 4 0)) = numbers_long 8 c.first_entry _ (numbers_long 8 c.entries (link ++ last) four) in
    let same : size ≡ 4 + length body = omega (arith, is, long, size_is carried) in
    ap (λ (k : ℕ). spelled 4 k ++ body) same

-- the head of a list without items
pub empty_bytes : spelled 4 (2 ^ 32 - 8) ++ spelled 4 0 ≡ empty_piece.bytes
unfolding pieces spelled
empty_bytes = refl

-- version 2 where checksums are carried

version_is_lem : (rows : List ClusterRow) → pick (carries_for rows) 2 1 ≡ footer_version rows
version_is_lem [] = refl
version_is_lem (c ∷ cs) = by (eqb c.checksum no_checksum)
  where
    by : (b : Bool) → ◌≡◌ {A = ℕ} (pick (carries this_build (pick b 1 2)) 2 1) (pick b 1 2)
    by true = refl
    by false = refl

-- what stands before the checksum of the footer, stored part by part
module _ (checksum file : ℕ) (f : Footer) {carried : Bool} {version : ℕ} (is : carried ≡ carries_for f.clusters) (v : version ≡ pick carried 2 1) where
  front : spelled 2 version ++ (spelled 2 1 ++ (footer_payload_piece carried checksum file f).bytes)
      ≡ spelled 2 (footer_version f.clusters) ++ (spelled 2 1 ++ (footer_payload_piece (carries_for f.clusters) checksum file f).bytes)
  front =
      let its : version ≡ footer_version f.clusters = v ∙ ap (λ (b : Bool). pick b 2 1) is ∙ version_is_lem f.clusters in
      λ i. spelled 2 (its i) ++ (spelled 2 1 ++ (footer_payload_piece (is i) checksum file f).bytes)

  pub front_stored : {a b c d : List ℕ} {m n e : ℕ} → Stored a 0 (spelled 2 version) b m → Stored b m (spelled 2 1) c n → Stored c n (footer_payload_piece carried checksum file f).bytes d e
      → Stored a 0 (spelled 2 (footer_version f.clusters) ++ (spelled 2 1 ++ (footer_payload_piece (carries_for f.clusters) checksum file f).bytes)) d e
  front_stored one two three = stored_as_lem front (stored_then one (stored_then two three))
