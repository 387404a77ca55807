-- Lists of which each element has a property.
use Prim.Native.Nat.{ℕ, zero, suc, ◌<◌}
use mathlib.Core.List.{List, [], ◌∷◌, ◌++◌, map, flatten}
use native.Mathlib.Omega.{arith}
use lib.ListN.{length, get_or}
use Rattle.numbers.specs.Lists.{Each}

pub each_append : {T : Type 0} (P : T → Type 0) (xs ys : List T) → Each P xs → Each P ys → Each P (xs ++ ys)
each_append P [] ys a b = b
each_append P (x ∷ xs) ys a b = (a.0, each_append P xs ys a.1 b)

pub each_weaken : {T : Type 0} {P Q : T → Type 0} → ((t : T) → P t → Q t) → (xs : List T) → Each P xs → Each Q xs
each_weaken f [] a = tt
each_weaken f (x ∷ xs) a = (f x a.0, each_weaken f xs a.1)

pub each_map : {T U : Type 0} (P : U → Type 0) (f : T → U) (xs : List T) → Each (λ t. P (f t)) xs → Each P (map f xs)
each_map P f [] a = tt
each_map P f (x ∷ xs) a = (a.0, each_map P f xs a.1)

pub each_back : {T U : Type 0} (P : U → Type 0) (f : T → U) (xs : List T) → Each P (map f xs) → Each (λ t. P (f t)) xs
each_back P f [] a = tt
each_back P f (x ∷ xs) a = (a.0, each_back P f xs a.1)

-- all elements of lists of which each has the property
pub each_flat : {T : Type 0} (P : T → Type 0) (xss : List (List T)) → Each (Each P) xss → Each P (flatten xss)
unfolding flatten
each_flat P [] a = tt
each_flat P (xs ∷ xss) a = each_append P xs (flatten xss) a.0 (each_flat P xss a.1)

pub each_at : {T : Type 0} (P : T → Type 0) (xs : List T) (other : T) (i : ℕ) → Each P xs → i < length xs → P (get_or xs i other)
each_at P [] other i a h = absurd (omega arith)
each_at P (x ∷ xs) other zero a h = a.0
each_at P (x ∷ xs) other (suc i) a h = each_at P xs other i a.1 (omega arith)
