-- The loop over the pages of a column: what they sum up to.
use Prim.Native.Nat.{ℕ, ◌+◌, ◌*◌, ◌^◌, ◌≤◌, ◌<◌}
use mathlib.Core.Path.{◌≡◌, refl, sym, ap, ◌∙◌}
use mathlib.Core.List.{List, [], ◌∷◌}
use native.Mathlib.Omega.{arith}
use lib.ListN.{length}
use Rattle.wire.specs.Reading.{found, accepted, rows_of}
use Rattle.frames.specs.Frames.{items}
use Rattle.frames.proofs.Loops.{Reached, reached_none, reached_more, reached_all}
use Rattle.rows.specs.Words.{bit}
use Rattle.rows.specs.declared.PageRow.{PageRow}
use Rattle.pages.specs.Pages.{page, elements_of}
use Rattle.pages.proofs.PageLaws.{elements_snoc}
use Rattle.figure_rules.specs.Report.{sizes_of, checksums_of, figures_of}
use Rattle.figure_rules.proofs.Figures.{sizes_snoc, checksums_snoc, bit_most}
use Rattle.figure_rules.proofs.Accepted.{page_small}

-- i pages of the n of a list have been read, and sum up to these figures
pub record Summed (file c bits list n : ℕ) (s : List ℕ) (start i at elements sizes checksums : ℕ) : Type 0 where
  pub reached : Reached list (λ _. page file c bits) n s start i at
  pub elements_are : elements ≡ elements_of reached.done
  pub sizes_are : sizes ≡ sizes_of reached.done
  pub checksums_are : checksums ≡ checksums_of reached.done
  pub elements_few : elements ≤ 1073741823 * i
  pub sizes_few : sizes ≤ 2147483647 * i
  pub checksums_few : checksums ≤ i

module _ {file c bits list n : ℕ} {s : List ℕ} {start : ℕ} where
  pub summed_none : Summed file c bits list n s start 0 start 0 0 0
  unfolding elements_of sizes_of checksums_of reached_none
  summed_none =
      record { reached = reached_none; elements_are = refl; sizes_are = refl; checksums_are = refl; elements_few = omega arith; sizes_few = omega arith; checksums_few = omega arith }

  -- the figures with one page more stay below 64 bits
  pub summed_fits : {i at elements sizes checksums : ℕ} → Summed file c bits list n s start i at elements sizes checksums → i < 16384 → {x : PageRow} {p : ℕ} → page file c bits s at ≡ found x p
      → (elements + x.elements < 2 ^ 64) × (sizes + x.size < 2 ^ 64) × (checksums + bit x.checksum < 2 ^ 64)
  summed_fits {at = at} m h {x} e =
      let small = page_small file c bits s at e in
      let a = m.elements_few in
      let b = m.sizes_few in
      let d = m.checksums_few in
      let f = small.elements_few in
      let g = small.size_few in
      let k = bit_most x.checksum in
      (omega arith, omega arith, omega arith)

  pub summed_more : {i at elements sizes checksums : ℕ} → Summed file c bits list n s start i at elements sizes checksums → i < n → {x : PageRow} {p : ℕ} → page file c bits s at ≡ found x p
      → Summed file c bits list n s start (i + 1) p (elements + x.elements) (sizes + x.size) (checksums + bit x.checksum)
  unfolding reached_more
  summed_more {at = at} m h {x} e =
      let small = page_small file c bits s at e in
      record {
        reached = reached_more m.reached h e;
        elements_are = let a = m.elements_are in let b = elements_snoc m.reached.done x in omega arith;
        sizes_are = let a = m.sizes_are in let b = sizes_snoc m.reached.done x in omega arith;
        checksums_are = let a = m.checksums_are in let b = checksums_snoc m.reached.done x in omega arith;
        elements_few = let a = m.elements_few in let b = small.elements_few in omega arith;
        sizes_few = let a = m.sizes_few in let b = small.size_few in omega arith;
        checksums_few = let a = m.checksums_few in let b = bit_most x.checksum in omega arith;
      }

  pub summed_all : {i at elements sizes checksums : ℕ} → Summed file c bits list n s start i at elements sizes checksums → n ≤ i
      → (n ∷ elements ∷ sizes ∷ checksums ∷ []) ≡ figures_of (rows_of (items list (λ _. page file c bits) n [] s start))
  summed_all m h =
      let count : n ≡ length m.reached.done = let a = m.reached.count in let b = m.reached.most in omega arith in
      rw (reached_all m.reached h) (λ j. count j ∷ m.elements_are j ∷ m.sizes_are j ∷ m.checksums_are j ∷ [])
