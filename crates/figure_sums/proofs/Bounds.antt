-- No figure of a page list that was read is above 2 to the 45, and sums of words stay within the sums of their bounds.
-- Assumes nothing.
use Prim.Native.Nat.{ℕ, zero, suc, ◌+◌, ◌*◌, ◌^◌, ◌<◌, ◌≤◌}
use mathlib.Core.Path.{◌≡◌, refl}
use mathlib.Core.Bool.{true}
use mathlib.Core.List.{List, [], ◌∷◌}
use native.Mathlib.Omega.{arith}
use borrow.Author.Tests.{lt-ltb}
use lib.ListN.{length, get_or, replicate}
use Rattle.numbers.specs.Lists.{Each}
use Rattle.numbers.specs.Rows.{flat}
use Rattle.rows.specs.Words.{bit}
use Rattle.rows.specs.declared.PageRow.{PageRow}
use Rattle.pages.specs.Pages.{elements_of}
use Rattle.figure_rules.specs.Report.{sizes_of, checksums_of, list_figures, added, sums_fit}
use Rattle.figure_rules.proofs.Accepted.{SmallPage, SmallColumn}
use Rattle.figure_rules.proofs.Figures.{bit_most}

-- no word is above a bound
abbrev pub AtMost : ℕ → List ℕ → Type 0
AtMost m words = (k : ℕ) → get_or words k 0 ≤ m

pub zeros_most : (n k : ℕ) → get_or (replicate n 0) k 0 ≤ 0
zeros_most zero k = omega arith
zeros_most (suc n) zero = omega arith
zeros_most (suc n) (suc k) = zeros_most n k

-- a sum over the pages of a column
sum_most : (f : PageRow → ℕ) (sum : List PageRow → ℕ) → sum [] ≡ 0 → ((p : PageRow) (ps : List PageRow) → sum (p ∷ ps) ≡ f p + sum ps)
    → ((p : PageRow) → SmallPage p → f p ≤ 2 ^ 31) → (ps : List PageRow) → SmallColumn ps → sum ps ≤ 2 ^ 45
sum_most f sum none one small ps column = let few = column.few in omega (arith, by ps column.each)
  where
    by : (ps : List PageRow) → Each SmallPage ps → sum ps ≤ 2 ^ 31 * length ps
    by [] each = omega (arith, none)
    by (p ∷ ps) each = omega (arith, one p ps, small p each.0, by ps each.1)

pub figures_most : (pss : List (List PageRow)) → Each SmallColumn pss → AtMost (2 ^ 45) (list_figures pss)
unfolding flat elements_of sizes_of checksums_of
figures_most [] each k = omega arith
figures_most (ps ∷ pss) each zero = let few = each.0.few in omega arith
figures_most (ps ∷ pss) each (suc zero) = sum_most (λ p. p.elements) elements_of refl (λ p ps. refl) (λ p small. omega (arith, small.elements_few)) ps each.0
figures_most (ps ∷ pss) each (suc (suc zero)) = sum_most (λ p. p.size) sizes_of refl (λ p ps. refl) (λ p small. omega (arith, small.size_few)) ps each.0
figures_most (ps ∷ pss) each (suc (suc (suc zero))) = sum_most (λ p. bit p.checksum) checksums_of refl (λ p ps. refl) (λ p small. omega (arith, bit_most p.checksum)) ps each.0
figures_most (ps ∷ pss) each (suc (suc (suc (suc k)))) = figures_most pss each.1 k

-- sums

pub sums_fit_lem : (xs ys : List ℕ) (a b : ℕ) → AtMost a xs → AtMost b ys → b + a < 2 ^ 64 → sums_fit xs ys ≡ true
unfolding sums_fit
sums_fit_lem [] ys a b f g h = refl
sums_fit_lem (x ∷ xs) [] a b f g h = refl
sums_fit_lem (x ∷ xs) (y ∷ ys) a b f g h =
    let l : y + x < 2 ^ 64 = omega (arith, f 0, g 0) in
    rw (lt-ltb (y + x) (2 ^ 64) l) (sums_fit_lem xs ys a b (λ k. f (suc k)) (λ k. g (suc k)) h)

pub added_most : (xs ys : List ℕ) (a b : ℕ) → AtMost a xs → AtMost b ys → AtMost (b + a) (added xs ys)
unfolding added
added_most [] ys a b f g k = omega (arith, g k)
added_most (x ∷ xs) [] a b f g k = omega arith
added_most (x ∷ xs) (y ∷ ys) a b f g zero = omega (arith, f 0, g 0)
added_most (x ∷ xs) (y ∷ ys) a b f g (suc k) = added_most xs ys a b (λ i. f (suc i)) (λ i. g (suc i)) k
