-- Lists whose elements are all below a bound.
-- Assumes nothing.
use mathlib.Core.Path.{◌≡◌, refl, sym, ap, ap₂, ◌∙◌}
use mathlib.Core.List.{List, [], ◌∷◌, ◌++◌, map}
use mathlib.Core.Bool.{Bool, true, false}
use Prim.Native.Nat.{ℕ, zero, suc, ◌+◌, ◌^◌, ◌<◌}
use native.Mathlib.Nat.{not-suc-le-zero, le_of_suc-le-suc}
use native.Mathlib.Omega.{arith}
use lib.ListN.{length, take, drop, get_or, length-drop}
use lib.Seq.{take-add, take-suc, get_or-drop}
use native.Mathlib.Numerals.{add-one}
use lib.Dec.{ltb}
use borrow.Author.Tests.{ltb-true, ltb-false, lt-ltb, le-ltb}
use lib.Bits.{bit_or, or_lt, or_add_and, and_le_l, and_le_r}
use Rattle.numbers.specs.Choice.{both}
use Rattle.numbers.proofs.Choice.{both_true, both_assoc, both_right}
use Rattle.coding.specs.Inverses.{Below}
use Rattle.coding.specs.Layout.{fit, FitsAs}

pub below_take : (m n : ℕ) (xs : List ℕ) → Below m xs → Below m (take n xs)
below_take m zero xs h = tt
below_take m (suc n) [] h = tt
below_take m (suc n) (x ∷ xs) h = (h.0, below_take m n xs h.1)

pub below_drop : (m n : ℕ) (xs : List ℕ) → Below m xs → Below m (drop n xs)
below_drop m zero xs h = h
below_drop m (suc n) [] h = tt
below_drop m (suc n) (x ∷ xs) h = below_drop m n xs h.1

pub below_append : (m : ℕ) (xs ys : List ℕ) → Below m xs → Below m ys → Below m (xs ++ ys)
below_append m [] ys h g = g
below_append m (x ∷ xs) ys h g = (h.0, below_append m xs ys h.1 g)

pub below_map : (m k : ℕ) (f : ℕ → ℕ) (xs : List ℕ) → ((x : ℕ) → x < m → f x < k) → Below m xs → Below k (map f xs)
below_map m k f [] g h = tt
below_map m k f (x ∷ xs) g h = (g x h.0, below_map m k f xs g h.1)

-- from a bound on what stands at each place, as a slice has it, and back
pub below_all : (m : ℕ) (xs : List ℕ) → ((i : ℕ) → i < length xs → get_or xs i 0 < m) → Below m xs
below_all m [] h = tt
below_all m (x ∷ xs) h = (h 0 (omega arith), below_all m xs (λ i l. h (suc i) (omega arith)))

pub below_at : (m : ℕ) (xs : List ℕ) → Below m xs → (i : ℕ) → i < length xs → get_or xs i 0 < m
below_at m [] h i l = absurd (not-suc-le-zero l)
below_at m (x ∷ xs) h zero l = h.0
below_at m (x ∷ xs) h (suc i) l = below_at m xs h.1 i (le_of_suc-le-suc l)

-- what `fit` tests
pub fit_below : (w : ℕ) (xs : List ℕ) → fit w xs ≡ true → Below (2 ^ w) xs
unfolding fit
fit_below w [] e = tt
fit_below w (x ∷ xs) e =
    let p = both_true (ltb x (2 ^ w)) (fit w xs) e in
    (ltb-true x (2 ^ w) p.0, fit_below w xs p.1)

pub below_fit : (w : ℕ) (xs : List ℕ) → Below (2 ^ w) xs → fit w xs ≡ true
unfolding fit
below_fit w [] h = refl
below_fit w (x ∷ xs) h = simp (lt-ltb x (2 ^ w) h.0) (below_fit w xs h.1)

-- any place, past the end too
pub below_any : (m : ℕ) (xs : List ℕ) → 0 < m → Below m xs → (i : ℕ) → get_or xs i 0 < m
below_any m [] z h i = z
below_any m (x ∷ xs) z h zero = h.0
below_any m (x ∷ xs) z h (suc i) = below_any m xs z h.1 i

-- bits joined word after word: they fit just where each of the words does

or_fits : (w a b : ℕ) → ltb (bit_or a b) (2 ^ w) ≡ both (ltb a (2 ^ w)) (ltb b (2 ^ w))
or_fits w a b = go (ltb a (2 ^ w)) refl (ltb b (2 ^ w)) refl
  where
    go : (p : Bool) → ltb a (2 ^ w) ≡ p → (q : Bool) → ltb b (2 ^ w) ≡ q → ltb (bit_or a b) (2 ^ w) ≡ both p q
    go true e true f = lt-ltb (bit_or a b) (2 ^ w) (or_lt w a b (ltb-true a (2 ^ w) e) (ltb-true b (2 ^ w) f))
    go true e false f =
        let h = ltb-false b (2 ^ w) f in
        let s = or_add_and a b in
        let l = and_le_l a b in
        le-ltb (bit_or a b) (2 ^ w) (omega arith)
    go false e q f =
        let h = ltb-false a (2 ^ w) e in
        let s = or_add_and a b in
        let l = and_le_r a b in
        le-ltb (bit_or a b) (2 ^ w) (omega arith)

fit_append : (w : ℕ) (xs ys : List ℕ) → both (fit w xs) (fit w ys) ≡ fit w (xs ++ ys)
unfolding fit
fit_append w [] ys = refl
fit_append w (x ∷ xs) ys = both_assoc (ltb x (2 ^ w)) (fit w xs) (fit w ys) ∙ ap (both (ltb x (2 ^ w))) (fit_append w xs ys)

pub joined_none : FitsAs 0 []
unfolding fit
joined_none w = lt-ltb 0 (2 ^ w) (lib.Pow.pow_pos w)

joined_one : (x : ℕ) → FitsAs x (x ∷ [])
unfolding fit
joined_one x w = sym (both_right (ltb x (2 ^ w)))

joined_append : (a b : ℕ) (xs ys : List ℕ) → FitsAs a xs → FitsAs b ys → FitsAs (bit_or a b) (xs ++ ys)
joined_append a b xs ys h g w = or_fits w a b ∙ ap₂ both (h w) (g w) ∙ fit_append w xs ys

-- with one word more, from a place on
pub joined_next : (from i a : ℕ) (xs : List ℕ) → from + i < length xs → FitsAs a (take i (drop from xs)) → FitsAs (bit_or a (get_or xs (from + i) 0)) (take (i + 1) (drop from xs))
joined_next from i a xs l h =
    let x = get_or (drop from xs) i 0 in
    let more = joined_append a x (take i (drop from xs)) (x ∷ []) h (joined_one x) in
    rw (sym (get_or-drop from xs i 0)) (rw (add-one i) (rw (take-suc (drop from xs) i 0 (omega (arith, length-drop from xs))) more))

-- those of the first i, with those of the k behind them
pub joined_more : (i k j a b : ℕ) (xs : List ℕ) → j ≡ i + k → FitsAs a (take i xs) → FitsAs b (take k (drop i xs)) → FitsAs (bit_or a b) (take j xs)
joined_more i k j a b xs e h g = rw e (rw (take-add i k xs) (joined_append a b (take i xs) (take k (drop i xs)) h g))
