-- What a list and rows leave that calls stored.
use Prim.Native.Nat.{ℕ, zero, suc, ◌+◌, ◌≤◌, ◌<◌}
use mathlib.Core.List.{List}
use mathlib.Core.Path.{sym, subst}
use native.Mathlib.Numerals.{add-one}
use native.Mathlib.Omega.{arith}
use denote.Ref.{MutBor}
use Rattle.tree.specs.Shape.{list_bytes}
use Rattle.stores.specs.Stored.{Stored}
use Rattle.stores.specs.Listed.{Listed}
use Rattle.stores.specs.Rowed.{Rowed}
use Rattle.stores.proofs.Storing.{stored_list}
use Rattle.stores.proofs.Laid.{Laid, laid_none, laid_more, laid_all}
use Rattle.writing.specs.Piece.{Piece}
use Rattle.writing.proofs.Items.{items, item}

module _ {old : List ℕ} {at : ℕ} {new : List ℕ} {end : ℕ} where
  pub listed_lem : {Call : ℕ → MutBor (List ℕ) → ℕ → MutBor (List ℕ) → Type 0} {n : ℕ} (body : List ℕ) → Listed Call n old at new end
      → ((place : ℕ) (before : MutBor (List ℕ)) (stop : ℕ) (after : MutBor (List ℕ)) → Call place before stop after → Stored before.now place body after.now stop)
      → Stored old at (list_bytes n body) new end
  listed_lem {n = n} body l is = stored_list n body l.room (is l.place l.before end l.after l.items) l.head

module _ {A : Type 0} (f : List A → A → Piece) (row : List ℕ → ℕ → A) (table : List ℕ) {Call : ℕ → ℕ → MutBor (List ℕ) → ℕ → MutBor (List ℕ) → Type 0} {old : List ℕ} {at n : ℕ}
    (is : (i place : ℕ) (before : MutBor (List ℕ)) (stop : ℕ) (after : MutBor (List ℕ)) → i < n → Call i place before stop after → Stored before.now place (item f row table i).bytes after.now stop) where
  rows_laid : (i : ℕ) → i ≤ n → (new : List ℕ) (end : ℕ) → Rowed Call old at i new end → Laid f row table n old at i new end
  unfolding Rowed
  rows_laid zero h new end r = subst (λ (o : List ℕ). Laid f row table n old at 0 o end) (sym r.0) (subst (λ (e : ℕ). Laid f row table n old at 0 old e) (sym r.1) (laid_none f row table n old at))
  rows_laid (suc i) h new end r =
      subst (λ (k : ℕ). Laid f row table n old at k new end) (add-one i)
      (subst (λ (o : List ℕ). Laid f row table n old at (i + 1) o end) r.left
      (laid_more f row table (rows_laid i (omega arith) r.before.now r.place r.rows) (omega arith) (is i r.place r.before end r.after (omega arith) r.row)))

  pub rows_stored : {new : List ℕ} {end : ℕ} → Rowed Call old at n new end → Stored old at (items f row table n).bytes new end
  rows_stored {new} {end} r = laid_all f row table (rows_laid n (omega arith) new end r) (omega arith)
