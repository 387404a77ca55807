-- What the reader of a header needs to go from its rows to the parents' array. Assumes nothing.
use Prim.Native.Nat.{ℕ, ◌≤◌}
use mathlib.Core.Path.{◌≡◌, sym, ap, ◌∙◌}
use mathlib.Core.Logic.{◌↔◌}
use mathlib.Core.Bool.{true, false}
use mathlib.Core.List.{List}
use native.Mathlib.Omega.{arith}
use lib.ListN.{length, take, length-map}
use Rattle.rows.specs.declared.FieldRow.{FieldRow}
use Rattle.std.specs.Prelude.{Some, None}
use Rattle.parents.specs.Parents.{Inside, all_reach, endless, chains_of}
use Rattle.header.specs.Tables.{parents_of, lowest_in}
use Rattle.rows.specs.Words.{most_fields}
use Rattle.rows.specs.declared.FieldNumber.{FieldNumber}
use Rattle.numbers.proofs.Choice.{is_false}
use Rattle.parents.proofs.EndlessLaws.{all_reach_iff}
use Rattle.parents.proofs.InsideLaws.{inside_front}

-- refusal 15 by the answer for an array that starts with the rows' parents
module _ (rows : List FieldRow) (parents : List ℕ) (n : ℕ) (count : length rows ≡ n) (same : take n parents ≡ parents_of rows) (few : n ≤ most_fields) (inside : Inside (parents_of rows) n) where
  chains_are : chains_of parents n ≡ endless (take n parents) n n
  unfolding chains_of
  chains_are = rw (inside_front parents n (parents_of rows) few same (length-map rows (λ (f : FieldRow). f.head.parent.0) ∙ count) inside)

  rows_iff : (all_reach (parents_of rows) (length rows) ≡ true) ↔ (endless (take n parents) n n ≡ None)
  rows_iff =
      let r = all_reach_iff (parents_of rows) (length rows) in
      let e : endless (parents_of rows) (length (parents_of rows)) (length rows) ≡ endless (take n parents) n n
      = rw (same, length-map rows (λ (f : FieldRow). f.head.parent.0), count) in
      (λ t. sym e ∙ r.0 t, λ q. r.1 (e ∙ q))

  pub rows_end : chains_of parents n ≡ None → all_reach (parents_of rows) (length rows) ≡ true
  rows_end e = rows_iff.1 (sym chains_are ∙ e)

  pub rows_endless : (f : FieldNumber) → chains_of parents n ≡ Some f → all_reach (parents_of rows) (length rows) ≡ false
  rows_endless f e = is_false _ (λ t. let q = rows_iff.0 t in let w = sym chains_are ∙ e in let z : ◌≡◌ {A = ℕ} 0 1 = cc in omega arith)

  pub rows_lowest : (f : FieldNumber) → chains_of parents n ≡ Some f → lowest_in (endless (parents_of rows) (length rows) (length rows)) ≡ f.0
  rows_lowest f e =
      let w : endless (parents_of rows) (length rows) (length rows) ≡ endless (take n parents) n n = rw (same, count) in
      ap lowest_in (w ∙ sym chains_are ∙ e)
