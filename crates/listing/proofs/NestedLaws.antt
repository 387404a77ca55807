-- Lines below one another show what their fields hang on. Assumes nothing.
use Prim.Native.Nat.{ℕ, zero, suc, ◌-◌}
use mathlib.Core.Path.{◌≡◌, refl, sym, ap, ◌∙◌}
use mathlib.Core.Logic.{⊎_elim}
use mathlib.Core.List.{List, [], ◌∷◌, ◌++◌, append_assoc, append-nil}
use native.Mathlib.Omega.{arith}
use borrow.Author.Tests.{eqb-true}
use lib.Dec.{eqb}
use lib.ListN.{length, get_or, length-append}
use lib.Seq.{drop_at}
use Rattle.numbers.proofs.Choice.{which}
use Rattle.listing.specs.Order.{Entry, below, branch, holder, order}
use Rattle.listing.proofs.OrderLaws.{joined_all}
use Rattle.listing.specs.Statements.{open_above, Nested, ParentsShown}

module _ (up : ℕ → ℕ) (root : ℕ) where
  -- lines that stand below the path b, whatever stands deeper in front of them, and whatever lines below b follow
  abbrev Under : List ℕ → List Entry → Type 0
  Under b l = (deep : List ℕ) (rest : List Entry) → ((d : List ℕ) → Nested up root (d ++ b) rest) → Nested up root (deep ++ b) (l ++ rest)

  under_append : (b : List ℕ) (xs ys : List Entry) → Under b xs → Under b ys → Under b (xs ++ ys)
  under_append b xs ys u v deep rest r = rw (append_assoc xs ys rest) (u deep (ys ++ rest) (λ d. v d rest r))

  -- a line whose field hangs on the innermost field of b, and lines below that field
  under_line : (k level : ℕ) (b : List ℕ) (l : List Entry) → length b ≡ level → up k ≡ get_or b 0 root → Under (k ∷ b) l → Under b (record { field = k; level = level } ∷ l)
  under_line k level b l e h u deep rest r =
      let long = length-append deep b in
      let left : open_above level (deep ++ b) ≡ b = drop_at deep b (length (deep ++ b) - level) (omega arith) in (
        omega arith,
        rw left h,
        rw left (u [] rest (λ d. rw append_assoc at (r (d ++ (k ∷ []))))),
      )

  under_below : (n left level g : ℕ) (b : List ℕ) → length b ≡ level → get_or b 0 root ≡ g → Under b (below up n left level g)
  unfolding below
  under_below n zero level g b e h = λ deep rest r. r deep
  under_below n (suc left) level g b e h =
      joined_all (Under b) (λ deep rest r. r deep) (under_append b) (branch up n left level g) n
      (λ k _.
      ⊎_elim
      (λ t. rw t (under_line k level b (below up n left (suc level) k) e (eqb-true (up k) g t ∙ sym h) (under_below n left (suc level) k (k ∷ b) (ap suc e) refl)))
      (λ t. rw t (λ deep rest r. r deep))
      (which (eqb (up k) g)))

pub parents_shown : ParentsShown
unfolding order
parents_shown parents =
    let n = length parents in
    rw (append-nil (below (holder parents) n n 0 n)) at (under_below (holder parents) n n n 0 n [] refl refl [] [] (λ _. tt))
