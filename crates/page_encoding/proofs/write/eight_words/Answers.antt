-- `page_encoding::write::eight_words` meets its contract. Assumes nothing.
use mathlib.Core.Path.{◌≡◌, refl, sym, ap, ◌∙◌}
use mathlib.Core.List.{List, [], ◌∷◌}
use Prim.Native.Nat.{ℕ, suc, ◌+◌, ◌<◌, ◌≤◌}
use native.Mathlib.Omega.{arith}
use native.Mathlib.Numerals.{add-one}
use lib.ListN.{length, take, drop, get_or}
use lib.Seq.{drop-cons}

word : (n p q : ℕ) (xs l : List ℕ) → p < length xs → q ≡ p + 1 → l ≡ take n (drop q xs) → get_or xs p 0 ∷ l ≡ take (suc n) (drop p xs)
word n p q xs l h e g = ap (λ (t : List ℕ). get_or xs p 0 ∷ t) g ∙ rw (e, add-one p) (ap (take (suc n)) (sym (drop-cons xs p 0 h)))

eight : (p : ℕ) (xs : List ℕ) → p + 8 ≤ length xs
    → get_or xs p 0 ∷ get_or xs (p + 1) 0 ∷ get_or xs (p + 2) 0 ∷ get_or xs (p + 3) 0 ∷ get_or xs (p + 4) 0 ∷ get_or xs (p + 5) 0 ∷ get_or xs (p + 6) 0 ∷ get_or xs (p + 7) 0 ∷ [] ≡ take 8 (drop p xs)
eight p xs h =
    word 7 p (p + 1) xs _ (omega arith) (omega arith) (
    word 6 (p + 1) (p + 2) xs _ (omega arith) (omega arith) (
    word 5 (p + 2) (p + 3) xs _ (omega arith) (omega arith) (
    word 4 (p + 3) (p + 4) xs _ (omega arith) (omega arith) (
    word 3 (p + 4) (p + 5) xs _ (omega arith) (omega arith) (
    word 2 (p + 5) (p + 6) xs _ (omega arith) (omega arith) (
    word 1 (p + 6) (p + 7) xs _ (omega arith) (omega arith) (
    word 0 (p + 7) (p + 8) xs _ (omega arith) (omega arith) refl)))))))
