-- Delta, once over the width: sums undo deltas and deltas undo sums, on elements below 2 ^ w.
-- Assumes nothing.
use mathlib.Core.Path.{◌≡◌, refl, sym, ap, ap₂, ◌∙◌}
use mathlib.Core.List.{List, [], ◌∷◌}
use Prim.Native.Nat.{ℕ, zero, suc, ◌+◌, ◌-◌, ◌%◌, ◌^◌, ◌<◌}
use native.Mathlib.Nat.{add-mod-mod, mod-add-mod, add-mod_right, mod-eq_of_lt, mod-lt, add-zero, add_comm, not-suc-le-zero, le_of_suc-le-suc}
use native.Mathlib.Omega.{arith}
use lib.Pow.{pow_pos}
use lib.ListN.{length, drop, get_or}
use lib.Seq.{drop-cons, drop-drop, get_or-drop}
use native.Mathlib.Numerals.{add-one}
use Rattle.coding.specs.Layout.{deltas, sums}
use Rattle.coding.specs.Inverses.{Below}

-- one element, at any modulus

pub sum_of_difference : (m b x : ℕ) → b < m → x < m → (b + (x + m - b) % m) % m ≡ x
sum_of_difference m b x hb hx =
    let e : b + (x + m - b) ≡ x + m = omega arith in
    add-mod-mod b (x + m - b) m ∙ ap (λ (k : ℕ). k % m) e ∙ add-mod_right x m ∙ mod-eq_of_lt hx

pub difference_of_sum : (m b d : ℕ) → b < m → d < m → ((b + d) % m + m - b) % m ≡ d
difference_of_sum m b d hb hd =
    let e : (b + d) % m + m - b ≡ (b + d) % m + (m - b) = omega arith in
    let f : b + d + (m - b) ≡ d + m = omega arith in
    ap (λ (k : ℕ). k % m) e ∙ mod-add-mod (b + d) m (m - b) ∙ ap (λ (k : ℕ). k % m) f ∙ add-mod_right d m ∙ mod-eq_of_lt hd

-- a difference that wraps at 2 ^ w
pub difference_wraps : (m a b r : ℕ) → (r + b) % m ≡ a → b < m → r < m → r ≡ (a + m - b) % m
difference_wraps m a b r e hb hr =
    sym (ap (λ (y : ℕ). (y + m - b) % m) (sym e ∙ ap (λ (s : ℕ). s % m) (add_comm r b)) ∙ difference_of_sum m b r hb hr)

-- all elements

pub sums_deltas : (w b : ℕ) (xs : List ℕ) → b < 2 ^ w → Below (2 ^ w) xs → sums w b (deltas w b xs) ≡ xs
unfolding sums deltas
sums_deltas w b [] hb h = refl
sums_deltas w b (x ∷ xs) hb h =
    rw (sum_of_difference (2 ^ w) b x hb h.0) (ap (λ (l : List ℕ). x ∷ l) (sums_deltas w x xs h.0 h.1))

pub deltas_sums : (w b : ℕ) (ds : List ℕ) → b < 2 ^ w → Below (2 ^ w) ds → deltas w b (sums w b ds) ≡ ds
unfolding sums deltas
deltas_sums w b [] hb h = refl
deltas_sums w b (d ∷ ds) hb h =
    ap₂ (λ (x : ℕ) (l : List ℕ). x ∷ l) (difference_of_sum (2 ^ w) b d hb h.0)
    (deltas_sums w ((b + d) % 2 ^ w) ds (mod-lt (b + d) (pow_pos w)) h.1)

-- both keep the length, and their elements are below 2 ^ w

pub length_sums : (w b : ℕ) (ds : List ℕ) → length (sums w b ds) ≡ length ds
unfolding sums
length_sums w b [] = refl
length_sums w b (d ∷ ds) = ap suc (length_sums w ((b + d) % 2 ^ w) ds)

pub length_deltas : (w b : ℕ) (xs : List ℕ) → length (deltas w b xs) ≡ length xs
unfolding deltas
length_deltas w b [] = refl
length_deltas w b (x ∷ xs) = ap suc (length_deltas w x xs)

pub below_sums : (w b : ℕ) (ds : List ℕ) → Below (2 ^ w) (sums w b ds)
unfolding sums
below_sums w b [] = tt
below_sums w b (d ∷ ds) = (mod-lt (b + d) (pow_pos w), below_sums w ((b + d) % 2 ^ w) ds)

pub below_deltas : (w b : ℕ) (xs : List ℕ) → Below (2 ^ w) (deltas w b xs)
unfolding deltas
below_deltas w b [] = tt
below_deltas w b (x ∷ xs) = (mod-lt (x + 2 ^ w - b) (pow_pos w), below_deltas w x xs)

-- a turn of the loop that sums up: the sums from place i on start from the sum b before them
pub sums_turn : (w b i : ℕ) (l ds : List ℕ) → i < length ds → drop i l ≡ sums w b (drop i ds)
    → (get_or l i 0 ≡ (b + get_or ds i 0) % 2 ^ w) × (drop (i + 1) l ≡ sums w ((b + get_or ds i 0) % 2 ^ w) (drop (i + 1) ds))
unfolding sums
sums_turn w b i l ds h e =
    let s : ℕ = (b + get_or ds i 0) % 2 ^ w in
    let f : drop i l ≡ s ∷ sums w s (drop (suc i) ds) = e ∙ ap (sums w b) (drop-cons ds i 0 h) in (
      ap (λ (k : ℕ). get_or l k 0) (sym (add-zero i)) ∙ sym (get_or-drop i l 0 0) ∙ ap (λ (t : List ℕ). get_or t 0 0) f,
      sym (drop-drop 1 i l) ∙ ap (drop 1) f ∙ ap (λ (k : ℕ). sums w s (drop k ds)) (sym (add-one i)),
    )

-- what stands at a place

pub get_or_deltas_first : (w b : ℕ) (xs : List ℕ) → 0 < length xs → get_or (deltas w b xs) 0 0 ≡ (get_or xs 0 0 + 2 ^ w - b) % 2 ^ w
unfolding deltas
get_or_deltas_first w b [] h = absurd (not-suc-le-zero h)
get_or_deltas_first w b (x ∷ xs) h = refl

pub get_or_deltas_later : (w b : ℕ) (xs : List ℕ) (i : ℕ) → suc i < length xs → get_or (deltas w b xs) (suc i) 0 ≡ (get_or xs (suc i) 0 + 2 ^ w - get_or xs i 0) % 2 ^ w
unfolding deltas
get_or_deltas_later w b [] i h = absurd (not-suc-le-zero h)
get_or_deltas_later w b (x ∷ xs) zero h = get_or_deltas_first w x xs (le_of_suc-le-suc h)
get_or_deltas_later w b (x ∷ xs) (suc i) h = get_or_deltas_later w x xs i (le_of_suc-le-suc h)
