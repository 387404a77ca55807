-- What stands at a place of an encoded page, as the code writes it.
-- Assumes nothing.
use mathlib.Core.Path.{◌≡◌, refl, sym, ap, ap₂, ◌∙◌, subst}
use mathlib.Core.List.{List, [], ◌∷◌, ◌++◌, map}
use mathlib.Core.Bool.{Bool, true, false}
use Prim.Native.Nat.{ℕ, zero, suc, ◌+◌, ◌*◌, ◌-◌, ◌/◌, ◌%◌, ◌^◌, ◌<◌}
use native.Mathlib.Nat.{not-suc-le-zero, le_of_suc-le-suc, div-one, pow-succ', div-div-eq-div-mul, mod-eq_of_lt, div-eq_of_lt, add-mod_left, add-div_left, suc-mul, zero-mul, mul-zero, mul_comm, div-lt_iff_lt-mul}
use native.Mathlib.Omega.{arith}
use lib.Dec.{ltb}
use lib.ListN.{length, get_or, length-map, get_or-append}
use lib.Seq.{get_or-append-add}
use borrow.Author.Tests.{ltb-true, ltb-false}
use Rattle.coding.specs.Layout.{zigzagged, bytes_of, plain, planes, coded_by, laid_out}
use Rattle.coding.proofs.Delta.{get_or_deltas_first, get_or_deltas_later, length_deltas}
use Rattle.coding.proofs.Planes.{low, high, length_planes}
use Rattle.coding.proofs.Plain.{length_bytes_of, length_plain}
use Rattle.planes.proofs.Filling.{get_or_mapped}

-- byte m of a number without its lowest byte is byte m + 1 of it
pub higher : (x m : ℕ) → x / 256 / 256 ^ m % 256 ≡ x / 256 ^ suc m % 256
higher x m = ap (λ (y : ℕ). y % 256) (div-div-eq-div-mul x 256 (256 ^ m) ∙ ap (λ (d : ℕ). x / d) (sym (pow-succ' 256 m)))

pub lowest : (x : ℕ) → x % 256 ≡ x / 256 ^ 0 % 256
lowest x = ap (λ (y : ℕ). y % 256) (sym (div-one x))

pub get_or_bytes_of : (k x j : ℕ) → j < k → get_or (bytes_of k x) j 0 ≡ x / 256 ^ j % 256
unfolding bytes_of
get_or_bytes_of zero x j h = absurd (not-suc-le-zero h)
get_or_bytes_of (suc k) x zero h = lowest x
get_or_bytes_of (suc k) x (suc j) h = get_or_bytes_of k (x / 256) j (le_of_suc-le-suc h) ∙ higher x j

-- split

module _ (k : ℕ) where
  plane_first : (xs : List ℕ) (p : ℕ) → p < length xs → get_or (map low xs ++ planes k (map high xs)) p 0 ≡ get_or xs (p % length xs) 0 / 256 ^ (p / length xs) % 256
  plane_first xs p l =
      get_or-append (map low xs) (planes k (map high xs)) 0 p (subst (λ (n : ℕ). p < n) (sym (length-map xs low)) l)
      ∙ get_or_mapped low xs p l ∙ lowest (get_or xs p 0)
      ∙ ap₂ (λ (i m : ℕ). get_or xs i 0 / 256 ^ m % 256) (sym (mod-eq_of_lt l)) (sym (div-eq_of_lt l))

  plane_later : (xs : List ℕ) (q : ℕ) → 0 < length xs
      → get_or (planes k (map high xs)) q 0 ≡ get_or (map high xs) (q % length xs) 0 / 256 ^ (q / length xs) % 256
      → get_or (map low xs ++ planes k (map high xs)) (length xs + q) 0 ≡ get_or xs ((length xs + q) % length xs) 0 / 256 ^ ((length xs + q) / length xs) % 256
  plane_later xs q h e =
      let n : ℕ = length xs in
      let d : (n + q) / n ≡ suc (q / n) = add-div_left q h ∙ native.Mathlib.Numerals.add-one (q / n) in
      ap (λ (m : ℕ). get_or (map low xs ++ planes k (map high xs)) (m + q) 0) (sym (length-map xs low))
      ∙ get_or-append-add (map low xs) (planes k (map high xs)) q 0 ∙ e
      ∙ ap (λ (x : ℕ). x / 256 ^ (q / n) % 256) (get_or_mapped high xs (q % n) (native.Mathlib.Nat.mod-lt q h))
      ∙ higher (get_or xs (q % n) 0) (q / n)
      ∙ ap₂ (λ (i m : ℕ). get_or xs i 0 / 256 ^ m % 256) (sym (add-mod_left n q)) (sym d)

-- at a place past the first plane, or not
here_or_later : (k : ℕ) (xs : List ℕ) (p : ℕ) → p < suc k * length xs
    → ((q : ℕ) → q < k * length xs → get_or (planes k (map high xs)) q 0 ≡ get_or (map high xs) (q % length xs) 0 / 256 ^ (q / length xs) % 256)
    → (b : Bool) → ltb p (length xs) ≡ b
    → get_or (map low xs ++ planes k (map high xs)) p 0 ≡ get_or xs (p % length xs) 0 / 256 ^ (p / length xs) % 256
here_or_later k xs p h r true e = plane_first k xs p (ltb-true p (length xs) e)
here_or_later k xs p h r false e =
    let n : ℕ = length xs in
    let l = ltb-false p n e in
    let m = suc-mul k n in
    let s : n + (p - n) ≡ p = omega arith in
    let lq : p - n < k * n = omega arith in
    let pos : 0 < n = some k n p h in
    subst (λ (i : ℕ). get_or (map low xs ++ planes k (map high xs)) i 0 ≡ get_or xs (i % n) 0 / 256 ^ (i / n) % 256) s
    (plane_later k xs (p - n) pos (r (p - n) lq))
  where
    some : (k n p : ℕ) → p < suc k * n → 0 < n
    some k zero p h = absurd (not-suc-le-zero (subst (λ (m : ℕ). p < m) (mul-zero (suc k)) h))
    some k (suc n) p h = omega arith

pub get_or_planes : (k : ℕ) (xs : List ℕ) (p : ℕ) → p < k * length xs → get_or (planes k xs) p 0 ≡ get_or xs (p % length xs) 0 / 256 ^ (p / length xs) % 256
unfolding planes
get_or_planes zero xs p h = absurd (not-suc-le-zero (subst (λ (m : ℕ). p < m) (zero-mul (length xs)) h))
get_or_planes (suc k) xs p h =
    let n : ℕ = length xs in
    let m = suc-mul k n in
    here_or_later k xs p h (λ q l. get_or_planes k (map high xs) q (subst (λ (j : ℕ). q < k * j) (sym (length-map xs high)) l)
    ∙ ap (λ (j : ℕ). get_or (map high xs) (q % j) 0 / 256 ^ (q / j) % 256) (length-map xs high)) (ltb p n) refl

-- plain

first_or_later : (k x : ℕ) (xs : List ℕ) (p : ℕ) → p < suc (length xs) * k
    → ((q : ℕ) → q < length xs * k → get_or (plain k xs) q 0 ≡ get_or xs (q / k) 0 / 256 ^ (q % k) % 256)
    → (b : Bool) → ltb p k ≡ b
    → get_or (bytes_of k x ++ plain k xs) p 0 ≡ get_or (x ∷ xs) (p / k) 0 / 256 ^ (p % k) % 256
first_or_later k x xs p h r true e =
    let l = ltb-true p k e in
    get_or-append (bytes_of k x) (plain k xs) 0 p (subst (λ (n : ℕ). p < n) (sym (length_bytes_of k x)) l)
    ∙ get_or_bytes_of k x p l
    ∙ ap₂ (λ (i m : ℕ). get_or (x ∷ xs) i 0 / 256 ^ m % 256) (sym (div-eq_of_lt l)) (sym (mod-eq_of_lt l))
first_or_later k x xs p h r false e =
    let l = ltb-false p k e in
    let m = suc-mul (length xs) k in
    let s : k + (p - k) ≡ p = omega arith in
    let q : ℕ = p - k in
    let lq : q < length xs * k = omega arith in
    let d : (k + q) / k ≡ suc (q / k) = add-div_left q (some (suc (length xs)) k p h) ∙ native.Mathlib.Numerals.add-one (q / k) in
    subst (λ (i : ℕ). get_or (bytes_of k x ++ plain k xs) i 0 ≡ get_or (x ∷ xs) (i / k) 0 / 256 ^ (i % k) % 256) s
    (ap (λ (n : ℕ). get_or (bytes_of k x ++ plain k xs) (n + q) 0) (sym (length_bytes_of k x))
    ∙ get_or-append-add (bytes_of k x) (plain k xs) q 0 ∙ r q lq
    ∙ ap₂ (λ (i m : ℕ). get_or (x ∷ xs) i 0 / 256 ^ m % 256) (sym d) (sym (add-mod_left k q)))
  where
    some : (n k p : ℕ) → p < n * k → 0 < k
    some n zero p h = absurd (not-suc-le-zero (subst (λ (m : ℕ). p < m) (mul-zero n) h))
    some n (suc k) p h = omega arith

pub get_or_plain : (k : ℕ) (xs : List ℕ) (p : ℕ) → p < length xs * k → get_or (plain k xs) p 0 ≡ get_or xs (p / k) 0 / 256 ^ (p % k) % 256
unfolding plain
get_or_plain k [] p h = absurd (not-suc-le-zero (subst (λ (m : ℕ). p < m) (zero-mul k) h))
get_or_plain k (x ∷ xs) p h = first_or_later k x xs p h (λ q l. get_or_plain k xs q l) (ltb p k) refl

-- the number that is stored for an element

module _ (z : Bool) (w : ℕ) (xs : List ℕ) where
  pub coded_first : (d : Bool) (i : ℕ) → d ≡ true → i ≡ 0 → i < length xs → (get_or xs i 0 + 2 ^ w - 0) % 2 ^ w ≡ get_or (coded_by d z w xs) i 0
  coded_first d i e f h =
      ap (λ (j : ℕ). (get_or xs j 0 + 2 ^ w - 0) % 2 ^ w) f ∙ sym (get_or_deltas_first w 0 xs (subst (λ (j : ℕ). j < length xs) f h))
      ∙ ap₂ (λ (b : Bool) (j : ℕ). get_or (coded_by b z w xs) j 0) (sym e) (sym f)

  pub coded_later : (d : Bool) (i : ℕ) → d ≡ true → (i ≡ 0 → ⊥) → i < length xs → (get_or xs i 0 + 2 ^ w - get_or xs (i - 1) 0) % 2 ^ w ≡ get_or (coded_by d z w xs) i 0
  coded_later d zero e f h = absurd (f refl)
  coded_later d (suc i) e f h =
      let p : suc i - 1 ≡ i = omega arith in
      ap (λ (j : ℕ). (get_or xs (suc i) 0 + 2 ^ w - get_or xs j 0) % 2 ^ w) p ∙ sym (get_or_deltas_later w 0 xs i h)
      ∙ ap (λ (b : Bool). get_or (coded_by b z w xs) (suc i) 0) (sym e)

pub coded_zigzag : (d z : Bool) (w : ℕ) (xs : List ℕ) (i : ℕ) → d ≡ false → z ≡ true → i < length xs → zigzagged w (get_or xs i 0) ≡ get_or (coded_by d z w xs) i 0
coded_zigzag d z w xs i e f h = sym (get_or_mapped (zigzagged w) xs i h) ∙ ap₂ (λ (b c : Bool). get_or (coded_by b c w xs) i 0) (sym e) (sym f)

pub coded_same : (d z : Bool) (w : ℕ) (xs : List ℕ) (i : ℕ) → d ≡ false → z ≡ false → get_or xs i 0 ≡ get_or (coded_by d z w xs) i 0
coded_same d z w xs i e f = ap₂ (λ (b c : Bool). get_or (coded_by b c w xs) i 0) (sym e) (sym f)

-- a page's byte, by its place

pub length_coded : (d z : Bool) (w : ℕ) (xs : List ℕ) → length (coded_by d z w xs) ≡ length xs
length_coded true z w xs = length_deltas w 0 xs
length_coded false true w xs = length-map xs (zigzagged w)
length_coded false false w xs = refl

pub some_element : (n k p : ℕ) → p < n * k → 0 < n
some_element zero k p h = absurd (not-suc-le-zero (subst (λ (m : ℕ). p < m) (zero-mul k) h))
some_element (suc n) k p h = omega arith

pub plane_of : (n k p : ℕ) → p < n * k → p / n < k
plane_of n k p h = (div-lt_iff_lt-mul {k = n} {x = p} {y = k} (some_element n k p h)).1 (subst (λ (m : ℕ). p < m) (mul_comm n k) h)

-- byte p of a split page of n elements
pub byte_split : (k : ℕ) (xs : List ℕ) (n p : ℕ) → length xs ≡ n → p < n * k → get_or xs (p % n) 0 / 256 ^ (p / n) % 256 ≡ get_or (planes k xs) p 0
byte_split k xs n p f h =
    ap (λ (m : ℕ). get_or xs (p % m) 0 / 256 ^ (p / m) % 256) (sym f)
    ∙ sym (get_or_planes k xs p (subst (λ (m : ℕ). p < m) (mul_comm n k ∙ ap (λ (m : ℕ). k * m) (sym f)) h))

pub length_laid_out : (s : Bool) (k : ℕ) (xs : List ℕ) → length (laid_out s k xs) ≡ length xs * k
length_laid_out true k xs = length_planes k xs ∙ mul_comm k (length xs)
length_laid_out false k xs = length_plain k xs
