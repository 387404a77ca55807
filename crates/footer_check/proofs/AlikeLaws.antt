-- Rows that have the checksums of their page lists, and rows that have none.
use Prim.Native.Nat.{ℕ, zero, suc, ◌+◌, ◌/◌, ◌≤◌, ◌<◌}
use mathlib.Core.Path.{◌≡◌, refl, sym, ap, ◌∙◌}
use mathlib.Core.Bool.{Bool, true, false, not}
use mathlib.Core.List.{List, [], ◌∷◌, ◌++◌}
use native.Mathlib.Numerals.{add-one}
use native.Mathlib.Omega.{arith}
use lib.Dec.{eqb}
use lib.ListN.{length, get_or}
use Rattle.numbers.specs.Choice.{pick, both}
use Rattle.numbers.proofs.Choice.{both_true}
use Rattle.rows.specs.Words.{cluster_width, no_checksum, cluster_of}
use Rattle.rows.specs.Tables.{cluster_row, first_rows}
use Rattle.rows.specs.declared.ClusterRow.{ClusterRow}
use Rattle.rows.proofs.FirstRows.{rows_length, row_at}
use Rattle.footer.specs.Footer.{this_build, carries}
use Rattle.writing.specs.Rows.{all_rows}
use Rattle.writing.specs.Footer.{carries_for, as_carried, all_as_carried}

-- any row, for a place that a table does not have
abbrev no_row : ClusterRow
no_row = cluster_of []

-- the first row says whether checksums are carried

first_says : (rows : List ClusterRow) → 0 < length rows → not (eqb (get_or rows 0 no_row).checksum no_checksum) ≡ carries_for rows
first_says [] h = absurd (omega arith)
first_says (c ∷ cs) h = by (eqb c.checksum no_checksum)
  where
    by : (b : Bool) → not b ≡ carries this_build (pick b 1 2)
    by true = refl
    by false = refl

module _ (clusters : List ℕ) where
  abbrev rows : List ClusterRow
  rows = all_rows cluster_row cluster_width clusters

  pub none_carried : length clusters < 5 → false ≡ carries_for rows
  unfolding first_rows
  none_carried h = let z : length clusters / 5 ≡ 0 = omega arith in rw z refl

  pub carried_first : 5 ≤ length clusters → not (eqb (cluster_row clusters 0).checksum no_checksum) ≡ carries_for rows
  carried_first h =
      let n = length clusters / 5 in
      ap (λ (c : ClusterRow). not (eqb c.checksum no_checksum)) (sym (row_at cluster_row clusters n 0 no_row (omega arith)))
      ∙ first_says rows (omega (arith, rows_length cluster_row clusters n))

-- one row more, and a row that is not as the others

carried_more : (carried : Bool) (done : List ClusterRow) (c : ClusterRow) → all_as_carried carried done ≡ true → as_carried carried c ≡ true → all_as_carried carried (done ++ (c ∷ [])) ≡ true
unfolding all_as_carried
carried_more carried [] c e h = rw h refl
carried_more carried (x ∷ done) c e h =
    let (a, b) = both_true (as_carried carried x) (all_as_carried carried done) e in
    rw (a, carried_more carried done c b h) refl

mixed_at : (carried : Bool) (all : List ClusterRow) (k : ℕ) → k < length all → as_carried carried (get_or all k no_row) ≡ false → all_as_carried carried all ≡ false
unfolding all_as_carried
mixed_at carried [] k h e = absurd (omega arith)
mixed_at carried (x ∷ all) zero h e = rw e refl
mixed_at carried (x ∷ all) (suc k) h e = by (as_carried carried x) (mixed_at carried all k (omega arith) e)
  where
    by : (b : Bool) {a : Bool} → a ≡ false → both b a ≡ false
    by true e = e
    by false e = refl

-- the loop: i of n rows are as carried
pub record Alike (carried : Bool) (table : List ℕ) (n i : ℕ) : Type 0 where
  pub most : i ≤ n
  pub alike : all_as_carried carried (first_rows cluster_row table i) ≡ true

module _ (carried : Bool) (table : List ℕ) where
  pub alike_none : (n : ℕ) → Alike carried table n 0
  unfolding all_as_carried first_rows
  alike_none n = record { most = omega arith; alike = refl }

  module _ {n i : ℕ} (m : Alike carried table n i) where
    pub alike_more : i < n → as_carried carried (cluster_row table i) ≡ true → Alike carried table n (i + 1)
    unfolding first_rows
    alike_more less good =
        record {
          most = omega arith;
          alike = ap (λ (k : ℕ). all_as_carried carried (first_rows cluster_row table k)) (add-one i) ∙ carried_more carried (first_rows cluster_row table i) (cluster_row table i) m.alike good;
        }

    pub alike_not : i < n → as_carried carried (cluster_row table i) ≡ false → false ≡ all_as_carried carried (first_rows cluster_row table n)
    alike_not less bad =
        let l = rows_length cluster_row table n in
        sym (mixed_at carried (first_rows cluster_row table n) i (omega arith) (ap (as_carried carried) (row_at cluster_row table n i no_row less) ∙ bad))

    pub alike_all : n ≤ i → true ≡ all_as_carried carried (first_rows cluster_row table n)
    alike_all h = let same : n ≡ i = omega (arith, m.most) in sym (ap (λ (k : ℕ). all_as_carried carried (first_rows cluster_row table k)) same ∙ m.alike)
