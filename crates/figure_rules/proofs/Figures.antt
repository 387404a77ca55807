-- The figures of a column with one page more, and of a page list with one column more.
-- Assumes nothing.
use Prim.Native.Nat.{ℕ, ◌+◌, ◌*◌, ◌≤◌}
use mathlib.Core.Path.{◌≡◌, refl, sym, ap, ◌∙◌}
use mathlib.Core.Bool.{Bool, true, false}
use mathlib.Core.List.{List, [], ◌∷◌, ◌++◌}
use native.Mathlib.Omega.{arith}
use lib.ListN.{length}
use Rattle.numbers.specs.Rows.{flat}
use Rattle.rows.specs.Words.{bit}
use Rattle.rows.specs.declared.PageRow.{PageRow}
use Rattle.rows.proofs.TableLaws.{flat_is, flat_join, flat_length}
use Rattle.figure_rules.specs.Report.{sizes_of, checksums_of, figure_width, figures_of, list_figures}

-- a sum over pages, with one page more
sum_snoc : (f : PageRow → ℕ) (sum : List PageRow → ℕ) → sum [] ≡ 0 → ((p : PageRow) (ps : List PageRow) → sum (p ∷ ps) ≡ f p + sum ps)
    → (ps : List PageRow) (p : PageRow) → sum (ps ++ (p ∷ [])) ≡ sum ps + f p
sum_snoc f sum none one [] p = omega (arith, none, one p [])
sum_snoc f sum none one (q ∷ ps) p = omega (arith, one q ps, one q (ps ++ (p ∷ [])), sum_snoc f sum none one ps p)

pub sizes_snoc : (ps : List PageRow) (p : PageRow) → sizes_of (ps ++ (p ∷ [])) ≡ sizes_of ps + p.size
unfolding sizes_of
sizes_snoc = sum_snoc (λ p. p.size) sizes_of refl (λ p ps. refl)

pub checksums_snoc : (ps : List PageRow) (p : PageRow) → checksums_of (ps ++ (p ∷ [])) ≡ checksums_of ps + bit p.checksum
unfolding checksums_of
checksums_snoc = sum_snoc (λ p. bit p.checksum) checksums_of refl (λ p ps. refl)

-- a page has a checksum or not, so each adds at most 1
pub bit_most : (b : Bool) → bit b ≤ 1
bit_most true = omega arith
bit_most false = omega arith

pub figures_snoc : (pss : List (List PageRow)) (ps : List PageRow) → list_figures (pss ++ (ps ∷ [])) ≡ list_figures pss ++ figures_of ps
unfolding flat
figures_snoc pss ps = flat_join figures_of pss (ps ∷ [])

pub figures_length : (pss : List (List PageRow)) → length (list_figures pss) ≡ figure_width * length pss
figures_length pss = ap length (sym (flat_is figures_of 0 pss)) ∙ flat_length (λ _. figures_of) figure_width (λ _ _. refl) 0 pss
