-- Bytes joined to numbers, each by a function of the two.
-- Assumes nothing.
use mathlib.Core.Path.{◌≡◌, refl, ap, ap₂}
use mathlib.Core.List.{List, [], ◌∷◌, ◌++◌}
use Prim.Native.Nat.{ℕ, zero, suc, ◌<◌, ◌≤◌}
use native.Mathlib.Nat.{not-suc-le-zero, le_of_suc-le-suc}
use native.Mathlib.Omega.{arith}
use lib.ListN.{length, set, take, drop, get_or}
use Rattle.planes.specs.Plane.{joined_by}

module _ (f : ℕ → ℕ → ℕ) where
  pub length_joined : (bs xs : List ℕ) → length (joined_by f bs xs) ≡ length xs
  unfolding joined_by
  length_joined [] xs = refl
  length_joined (b ∷ bs) [] = refl
  length_joined (b ∷ bs) (x ∷ xs) = ap suc (length_joined bs xs)

  pub get_or_joined : (bs xs : List ℕ) (i : ℕ) → i < length bs → i < length xs → get_or (joined_by f bs xs) i 0 ≡ f (get_or bs i 0) (get_or xs i 0)
  unfolding joined_by
  get_or_joined [] xs i h l = absurd (not-suc-le-zero h)
  get_or_joined (b ∷ bs) [] i h l = absurd (not-suc-le-zero l)
  get_or_joined (b ∷ bs) (x ∷ xs) zero h l = refl
  get_or_joined (b ∷ bs) (x ∷ xs) (suc i) h l = get_or_joined bs xs i (le_of_suc-le-suc h) (le_of_suc-le-suc l)

  pub get_or_behind : (bs xs : List ℕ) (i : ℕ) → length bs ≤ i → get_or (joined_by f bs xs) i 0 ≡ get_or xs i 0
  unfolding joined_by
  get_or_behind [] xs i h = refl
  get_or_behind (b ∷ bs) [] i h = refl
  get_or_behind (b ∷ bs) (x ∷ xs) zero h = absurd (not-suc-le-zero h)
  get_or_behind (b ∷ bs) (x ∷ xs) (suc i) h = get_or_behind bs xs i (le_of_suc-le-suc h)

  -- one byte more
  pub joined_more : (bs xs : List ℕ) (i : ℕ) → i < length bs → i < length xs
      → set (joined_by f (take i bs) xs) i (f (get_or bs i 0) (get_or (joined_by f (take i bs) xs) i 0)) ≡ joined_by f (take (suc i) bs) xs
  unfolding joined_by
  joined_more [] xs i h l = absurd (not-suc-le-zero h)
  joined_more (b ∷ bs) [] i h l = absurd (not-suc-le-zero l)
  joined_more (b ∷ bs) (x ∷ xs) zero h l = refl
  joined_more (b ∷ bs) (x ∷ xs) (suc i) h l = ap (λ (t : List ℕ). f b x ∷ t) (joined_more bs xs i (le_of_suc-le-suc h) (le_of_suc-le-suc l))

  -- the first r bytes, and then the others
  pub joined_rest : (r : ℕ) (bs xs : List ℕ) → r ≤ length bs → length bs ≤ length xs
      → take r (joined_by f (take r bs) xs) ++ joined_by f (drop r bs) (drop r (joined_by f (take r bs) xs)) ≡ joined_by f bs xs
  unfolding joined_by
  joined_rest zero bs xs h l = refl
  joined_rest (suc r) [] xs h l = absurd (not-suc-le-zero h)
  joined_rest (suc r) (b ∷ bs) [] h l = absurd (not-suc-le-zero l)
  joined_rest (suc r) (b ∷ bs) (x ∷ xs) h l = ap (λ (t : List ℕ). f b x ∷ t) (joined_rest r bs xs (le_of_suc-le-suc h) (le_of_suc-le-suc l))

  -- bytes that there is no number for
  pub joined_cut : (bs xs : List ℕ) → joined_by f (take (length xs) bs) xs ≡ joined_by f bs xs
  unfolding joined_by
  joined_cut [] [] = refl
  joined_cut [] (x ∷ xs) = refl
  joined_cut (b ∷ bs) [] = refl
  joined_cut (b ∷ bs) (x ∷ xs) = ap (λ (t : List ℕ). f b x ∷ t) (joined_cut bs xs)

  -- where joining changes nothing
  pub joined_none : (bs xs : List ℕ) → ((b x : ℕ) → f b x ≡ x) → joined_by f bs xs ≡ xs
  unfolding joined_by
  joined_none [] xs h = refl
  joined_none (b ∷ bs) [] h = refl
  joined_none (b ∷ bs) (x ∷ xs) h = ap₂ (λ (y : ℕ) (t : List ℕ). y ∷ t) (h b x) (joined_none bs xs h)

-- two functions that agree on these bytes and numbers
pub joined_same : (f g : ℕ → ℕ → ℕ) (bs xs : List ℕ) → ((i : ℕ) → i < length bs → i < length xs → f (get_or bs i 0) (get_or xs i 0) ≡ g (get_or bs i 0) (get_or xs i 0))
    → joined_by f bs xs ≡ joined_by g bs xs
unfolding joined_by
joined_same f g [] xs h = refl
joined_same f g (b ∷ bs) [] h = refl
joined_same f g (b ∷ bs) (x ∷ xs) h =
    ap₂ (λ (y : ℕ) (t : List ℕ). y ∷ t) (h 0 (omega arith) (omega arith)) (joined_same f g bs xs (λ i l m. h (suc i) (omega arith) (omega arith)))
