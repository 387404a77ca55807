-- Parts of a list.
use Prim.Native.Nat.{ℕ, ◌+◌, ◌-◌, ◌≤◌}
use mathlib.Core.List.{List, [], ◌∷◌}
use mathlib.Core.Path.{◌≡◌, refl, sym, ap, ◌∙◌}
use native.Mathlib.Omega.{arith}
use lib.ListN.{length, take, drop, length-drop}
use lib.Seq.{take_all, take-nil}

drop_past : (s : List ℕ) (n : ℕ) → length s ≤ n → drop n s ≡ []
drop_past s n h = nothing (drop n s) (omega (arith, length-drop n s))
  where
    nothing : (l : List ℕ) → length l ≡ 0 → l ≡ []
    nothing [] e = refl
    nothing (x ∷ l) e = absurd (omega arith)

pub part_past : (s : List ℕ) (place n : ℕ) → length s ≤ place → [] ≡ take n (drop place s)
part_past s place n h = sym (ap (take n) (drop_past s place h) ∙ take-nil n)

pub part_to_end : (s : List ℕ) (place n : ℕ) → length s - place ≤ n → take (length s - place) (drop place s) ≡ take n (drop place s)
part_to_end s place n h =
    let long = length-drop place s in
    take_all (length s - place) (drop place s) (omega arith) ∙ sym (take_all n (drop place s) (omega arith))

pub part_of : (s : List ℕ) (place n : ℕ) → take (place + n - place) (drop place s) ≡ take n (drop place s)
part_of s place n = let e : place + n - place ≡ n = omega arith in ap (λ (k : ℕ). take k (drop place s)) e
