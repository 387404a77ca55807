-- The clusters of a table that are to be written: the running sum of their entries.
use Prim.Native.Nat.{ℕ, zero, suc, ◌+◌, ◌^◌, ◌<◌}
use mathlib.Core.Path.{◌≡◌, refl, sym, ap, ◌∙◌}
use mathlib.Core.Bool.{Bool}
use mathlib.Core.List.{List, []}
use native.Mathlib.Numerals.{add-one}
use native.Mathlib.Omega.{arith}
use lib.Dec.{ltb}
use Rattle.wire.proofs.Laws.{passed}
use Rattle.rows.specs.Tables.{cluster_row, first_rows}
use Rattle.rows.specs.declared.ClusterRow.{ClusterRow}
use Rattle.clusters.specs.Clusters.{starts_at, entry_count, entries_of}
use Rattle.clusters.proofs.ClusterLaws.{entries_snoc, count_fits}
use Rattle.writing.specs.Piece.{first, put, pieces}
use Rattle.writing.specs.Footer.{cluster_piece, cluster_item}
use Rattle.writing.proofs.Items.{Passed, passed_none, passed_more, passed_refused}

first_none : (a b : ℕ) → first a b ≡ 0 → (a ≡ 0) × (b ≡ 0)
first_none zero b e = (refl, e)
first_none (suc a) b e = absurd (omega (arith, e))

-- a cluster that passes keeps the sum below 2^60
cluster_fits : (carried : Bool) (file sum : ℕ) (c : ClusterRow) → (cluster_piece carried file sum c).number ≡ 0 → sum + c.entries < 2 ^ 60
unfolding cluster_piece
cluster_fits carried file sum c e =
    let (_, e₁) = first_none (put 8 64 (starts_at sum) c.first_entry).number _ e in
    let (e₂, _) = first_none (put 8 60 (entry_count sum) c.entries).number _ e₁ in
    count_fits sum c.entries (passed (ltb c.entries (2 ^ 60)) 24 (entry_count sum c.entries) e₂).1

-- i of n clusters have passed, and have `sum` entries
pub record Summed (carried : Bool) (file : ℕ) (table : List ℕ) (n i sum : ℕ) : Type 0 where
  pub passes : Passed (cluster_item carried file) cluster_row table n i
  pub sums : sum ≡ entries_of (first_rows cluster_row table i)

module _ (carried : Bool) (file : ℕ) (table : List ℕ) where
  pub summed_none : (n : ℕ) → Summed carried file table n 0 0
  unfolding first_rows entries_of
  summed_none n = record { passes = passed_none (cluster_item carried file) cluster_row table n; sums = refl }

  module _ {n i sum r : ℕ} {row : ClusterRow} (m : Summed carried file table n i sum) (is : row ≡ cluster_row table i) (number : r ≡ (cluster_piece carried file sum row).number) where
    its_number : r ≡ (cluster_piece carried file (entries_of (first_rows cluster_row table i)) (cluster_row table i)).number
    its_number = number ∙ (λ j. (cluster_piece carried file (m.sums j) (is j)).number)

    pub summed_refused : i < n → (r ≡ 0 → ⊥) → r ≡ (pieces (cluster_item carried file) [] (first_rows cluster_row table n)).number
    summed_refused less bad = passed_refused (cluster_item carried file) cluster_row table m.passes less its_number bad

    pub summed_fits : r ≡ 0 → sum + row.entries < 2 ^ 60
    summed_fits good = cluster_fits carried file sum row (sym number ∙ good)

    pub summed_more : i < n → r ≡ 0 → Summed carried file table n (i + 1) (sum + row.entries)
    unfolding first_rows
    summed_more less good =
        record {
          passes = passed_more (cluster_item carried file) cluster_row table m.passes less its_number good;
          sums =
              (λ j. m.sums j + (is j).entries) ∙ sym (entries_snoc (first_rows cluster_row table i) (cluster_row table i))
              ∙ sym (ap (λ (k : ℕ). entries_of (first_rows cluster_row table k)) (add-one i));
        }
