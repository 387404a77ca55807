-- Bits, eight to a byte: unpacked undoes packed on elements below 2, and packed undoes unpacked on bytes whose unused bits are zero.
-- Assumes nothing.
use mathlib.Core.Path.{◌≡◌, refl, sym, ap, ap₂, ◌∙◌}
use mathlib.Core.List.{List, [], ◌∷◌, ◌++◌}
use Prim.Native.Nat.{ℕ, zero, suc, ◌+◌, ◌*◌, ◌-◌, ◌/◌, ◌%◌, ◌^◌, ◌<◌, ◌≤◌}
use native.Mathlib.Nat.{not-suc-le-zero, le_of_suc-le-suc, pow-succ', div-div-eq-div-mul, pow-suc, div-one, mod-lt}
use native.Mathlib.Omega.{arith}
use lib.Dec.{lit<, ltb}
use lib.Pow.{pow_mono}
use lib.ListN.{length, take, drop, get_or, get_or-append, length-drop}
use lib.Seq.{drop-cons, get_or-drop, get_or-take, ext_get_or, length-take-le}
use borrow.Author.Tests.{ltb-true, ltb-false}
use mathlib.Core.Bool.{Bool, true, false}
use Rattle.coding.specs.Layout.{bits_byte, packed, bit_at, unpacked}
use Rattle.coding.specs.Inverses.{Below}
use Rattle.coding.proofs.Below.{below_drop}

-- the bits of a byte

shift_out : (x b r : ℕ) → x < 2 → (x + 2 * b) / 2 ^ suc r ≡ b / 2 ^ r
shift_out x b r h =
    let e : (x + 2 * b) / 2 ≡ b = omega arith in
    ap (λ (d : ℕ). (x + 2 * b) / d) (pow-succ' 2 r) ∙ sym (div-div-eq-div-mul (x + 2 * b) 2 (2 ^ r)) ∙ ap (λ (n : ℕ). n / 2 ^ r) e

zero_bit : (r : ℕ) → 0 / 2 ^ r % 2 ≡ 0
zero_bit r = ap (λ (n : ℕ). n % 2) (native.Mathlib.Nat.zero-div (2 ^ r))

pub bit_of_byte : (k : ℕ) (xs : List ℕ) (r : ℕ) → r < k → Below 2 xs → bits_byte k xs / 2 ^ r % 2 ≡ get_or xs r 0
unfolding bits_byte
bit_of_byte zero xs r l h = absurd (not-suc-le-zero l)
bit_of_byte (suc k) [] r l h = zero_bit r
bit_of_byte (suc k) (x ∷ xs) zero l h =
    let hx : x < 2 = h.0 in
    ap (λ (n : ℕ). n % 2) (div-one (x + 2 * bits_byte k xs)) ∙ omega arith
bit_of_byte (suc k) (x ∷ xs) (suc r) l h =
    ap (λ (n : ℕ). n % 2) (shift_out x (bits_byte k xs) r h.0) ∙ bit_of_byte k xs r (le_of_suc-le-suc l) h.1

pub bits_byte_below : (k : ℕ) (xs : List ℕ) → Below 2 xs → bits_byte k xs < 2 ^ k
unfolding bits_byte
bits_byte_below zero xs h = lit< tt
bits_byte_below (suc k) [] h = lib.Pow.pow_pos (suc k)
bits_byte_below (suc k) (x ∷ xs) h =
    let hx : x < 2 = h.0 in
    omega (arith, pow-succ' 2 k, bits_byte_below k xs h.1)

-- what stands at a place

pub length_packed : (m : ℕ) (xs : List ℕ) → length (packed m xs) ≡ m
unfolding packed
length_packed zero xs = refl
length_packed (suc m) xs = ap suc (length_packed m (drop 8 xs))

pub get_or_packed : (m : ℕ) (xs : List ℕ) (j : ℕ) → j < m → get_or (packed m xs) j 0 ≡ bits_byte 8 (drop (8 * j) xs)
unfolding packed
get_or_packed zero xs j l = absurd (not-suc-le-zero l)
get_or_packed (suc m) xs zero l = refl
get_or_packed (suc m) xs (suc j) l =
    let e : 8 + 8 * j ≡ 8 * suc j = omega arith in
    get_or_packed m (drop 8 xs) j (le_of_suc-le-suc l) ∙ ap (bits_byte 8) (lib.Seq.drop-drop (8 * j) 8 xs ∙ ap (λ (n : ℕ). drop n xs) e)

pub length_unpacked : (n i : ℕ) (bs : List ℕ) → length (unpacked n i bs) ≡ n
unfolding unpacked
length_unpacked zero i bs = refl
length_unpacked (suc n) i bs = ap suc (length_unpacked n (i + 1) bs)

pub get_or_unpacked : (n i : ℕ) (bs : List ℕ) (j : ℕ) → j < n → get_or (unpacked n i bs) j 0 ≡ bit_at bs (i + j)
unfolding unpacked
get_or_unpacked zero i bs j l = absurd (not-suc-le-zero l)
get_or_unpacked (suc n) i bs zero l = ap (bit_at bs) (sym (native.Mathlib.Nat.add-zero i))
get_or_unpacked (suc n) i bs (suc j) l =
    let e : i + 1 + j ≡ i + suc j = omega arith in
    get_or_unpacked n (i + 1) bs j (le_of_suc-le-suc l) ∙ ap (bit_at bs) e

pub below_unpacked : (n i : ℕ) (bs : List ℕ) → Below 2 (unpacked n i bs)
unfolding unpacked
below_unpacked zero i bs = tt
below_unpacked (suc n) i bs = (mod-lt (get_or bs (i / 8) 0 / 2 ^ (i % 8)) (lit< tt), below_unpacked n (i + 1) bs)

drop_unpacked : (d n i : ℕ) (bs : List ℕ) → drop d (unpacked n i bs) ≡ unpacked (n - d) (i + d) bs
unfolding unpacked
drop_unpacked zero n i bs =
    let a : n ≡ n - 0 = omega arith in
    let b : i ≡ i + 0 = omega arith in
    ap₂ (λ (x y : ℕ). unpacked x y bs) a b
drop_unpacked (suc d) zero i bs =
    let a : zero ≡ zero - suc d = omega arith in
    ap (λ (x : ℕ). unpacked x (i + suc d) bs) a
drop_unpacked (suc d) (suc n) i bs =
    let a : n - d ≡ suc n - suc d = omega arith in
    let b : i + 1 + d ≡ i + suc d = omega arith in
    drop_unpacked d n (i + 1) bs ∙ ap₂ (λ (x y : ℕ). unpacked x y bs) a b

-- k bits more, behind the first n
pub unpacked_more : (n k i : ℕ) (bs : List ℕ) → unpacked (n + k) i bs ≡ unpacked n i bs ++ unpacked k (i + n) bs
unfolding unpacked
unpacked_more zero k i bs =
    let a : zero + k ≡ k = omega arith in
    let b : i ≡ i + zero = omega arith in
    ap₂ (λ (x y : ℕ). unpacked x y bs) a b
unpacked_more (suc n) k i bs =
    let a : suc n + k ≡ suc (n + k) = omega arith in
    let b : i + 1 + n ≡ i + suc n = omega arith in
    ap (λ (x : ℕ). unpacked x i bs) a
    ∙ ap (λ (l : List ℕ). bit_at bs i ∷ l) (unpacked_more n k (i + 1) bs ∙ ap (λ (y : ℕ). unpacked n (i + 1) bs ++ unpacked k y bs) b)

-- the round trip, with any bytes behind the page

pub unpacked_packed : (m : ℕ) (xs rest : List ℕ) → length xs ≤ 8 * m → Below 2 xs → unpacked (length xs) 0 (packed m xs ++ rest) ≡ xs
unpacked_packed m xs rest room h =
    let n = length_unpacked (length xs) 0 (packed m xs ++ rest) in
    ext_get_or 0 (unpacked (length xs) 0 (packed m xs ++ rest)) xs n at
  where
    at : (i : ℕ) → i < length (unpacked (length xs) 0 (packed m xs ++ rest)) → get_or (unpacked (length xs) 0 (packed m xs ++ rest)) i 0 ≡ get_or xs i 0
    at i l =
        let li : i < length xs = omega (arith, length_unpacked (length xs) 0 (packed m xs ++ rest)) in
        let lm : i / 8 < m = omega arith in
        let lr : i % 8 < 8 = omega arith in
        let e : 8 * (i / 8) + i % 8 ≡ i = omega arith in
        get_or_unpacked (length xs) 0 (packed m xs ++ rest) i li
        ∙ ap (bit_at (packed m xs ++ rest)) (native.Mathlib.Nat.zero-add i)
        ∙ ap (λ (b : ℕ). b / 2 ^ (i % 8) % 2)
        (get_or-append (packed m xs) rest 0 (i / 8) (omega (arith, length_packed m xs)) ∙ get_or_packed m xs (i / 8) lm)
        ∙ bit_of_byte 8 (drop (8 * (i / 8)) xs) (i % 8) lr (below_drop 2 (8 * (i / 8)) xs h)
        ∙ get_or-drop (8 * (i / 8)) xs (i % 8) 0
        ∙ ap (λ (p : ℕ). get_or xs p 0) e

-- the bits of byte j from bit r on make up what the byte has there, if no more is there
byte_of_bits : (k q r j : ℕ) (bs : List ℕ) → r + k ≤ 8 → get_or bs j 0 / 2 ^ r < 2 ^ k → get_or bs j 0 / 2 ^ r < 2 ^ q
    → bits_byte k (unpacked q (8 * j + r) bs) ≡ get_or bs j 0 / 2 ^ r
unfolding bits_byte unpacked
byte_of_bits zero q r j bs s hk hq = omega arith
byte_of_bits (suc k) zero r j bs s hk hq = omega arith
byte_of_bits (suc k) (suc q) r j bs s hk hq =
    let y : ℕ = get_or bs j 0 / 2 ^ r in
    let c : (8 * j + r) / 8 ≡ j = omega arith in
    let d : (8 * j + r) % 8 ≡ r = omega arith in
    let f : 8 * j + r + 1 ≡ 8 * j + suc r = omega arith in
    let half : get_or bs j 0 / 2 ^ suc r ≡ y / 2 =
    ap (λ (n : ℕ). get_or bs j 0 / n) (pow-suc 2 r) ∙ sym (div-div-eq-div-mul (get_or bs j 0) (2 ^ r) 2) in
    let i =
    byte_of_bits k q (suc r) j bs (omega arith)
    (omega (arith, pow-suc 2 k))
    (omega (arith, pow-suc 2 q)) in
    let g : y % 2 + 2 * (y / 2) ≡ y = omega arith in
    ap₂ (λ (a b : ℕ). a + 2 * b)
    (ap₂ (λ (u v : ℕ). get_or bs u 0 / 2 ^ v % 2) c d)
    (ap (λ (p : ℕ). bits_byte k (unpacked q p bs)) f ∙ i ∙ half)
    ∙ g

pub packed_unpacked : (n m : ℕ) (bs : List ℕ) → m ≡ (n + 7) / 8 → m ≤ length bs → Below 256 bs
    → ((n % 8 ≡ 0 → ⊥) → get_or bs (n / 8) 0 < 2 ^ (n % 8))
    → packed m (unpacked n 0 bs) ≡ take m bs
packed_unpacked n m bs e room h clear =
    ext_get_or 0 (packed m (unpacked n 0 bs)) (take m bs) (length_packed m (unpacked n 0 bs) ∙ sym (length-take-le m bs room)) at
  where
    few : (j : ℕ) → j < m → (t : Bool) → ltb (n - 8 * j) 8 ≡ t → get_or bs j 0 < 2 ^ (n - 8 * j)
    few j l true u =
        let v = ltb-true (n - 8 * j) 8 u in
        let p : n / 8 ≡ j = omega arith in
        let q : n % 8 ≡ n - 8 * j = omega arith in
        rw (p, q) at (clear (omega arith))
    few j l false u =
        let v = ltb-false (n - 8 * j) 8 u in
        native.Mathlib.Nat.lt_of_lt_of_le (Rattle.coding.proofs.Below.below_at 256 bs h j (omega arith)) (pow_mono {i = 8} v)

    at : (j : ℕ) → j < length (packed m (unpacked n 0 bs)) → get_or (packed m (unpacked n 0 bs)) j 0 ≡ get_or (take m bs) j 0
    at j l =
        let lj : j < m = omega (arith, length_packed m (unpacked n 0 bs)) in
        let one : get_or bs j 0 / 2 ^ 0 ≡ get_or bs j 0 = div-one (get_or bs j 0) in
        let b = Rattle.coding.proofs.Below.below_at 256 bs h j (omega arith) in
        let f = few j lj (ltb (n - 8 * j) 8) refl in
        let p : 0 + 8 * j ≡ 8 * j + 0 = omega arith in
        get_or_packed m (unpacked n 0 bs) j lj
        ∙ ap (bits_byte 8) (drop_unpacked (8 * j) n 0 bs ∙ ap (λ (i : ℕ). unpacked (n - 8 * j) i bs) p)
        ∙ byte_of_bits 8 (n - 8 * j) 0 j bs (omega arith) (omega arith) (omega arith)
        ∙ one ∙ sym (get_or-take m bs j 0 lj)

-- the byte of n elements, read from the last to the first

byte_from : (k p : ℕ) (xs : List ℕ) → p < length xs → bits_byte (suc k) (drop p xs) ≡ get_or xs p 0 + 2 * bits_byte k (drop (p + 1) xs)
unfolding bits_byte
byte_from k p xs l =
    ap (bits_byte (suc k)) (drop-cons xs p 0 l) ∙ ap (λ (n : ℕ). get_or xs p 0 + 2 * bits_byte k (drop n xs)) (sym (native.Mathlib.Numerals.add-one p))

pub bits_turn : (n j from : ℕ) (xs : List ℕ) → 0 < j → j ≤ n → from + n ≤ length xs
    → bits_byte (n - j) (drop (from + j) xs) * 2 + get_or xs (from + (j - 1)) 0 ≡ bits_byte (n - (j - 1)) (drop (from + (j - 1)) xs)
bits_turn n zero from xs l h r = absurd (not-suc-le-zero l)
bits_turn n (suc i) from xs l h r =
    let e : n - (suc i - 1) ≡ suc (n - suc i) = omega arith in
    let p : suc i - 1 ≡ i = omega arith in
    let q : from + suc i ≡ from + i + 1 = omega arith in
    let b = byte_from (n - suc i) (from + i) xs (omega arith) in
    rw (e, p, q) (omega arith)

pub bits_below : (n j x b : ℕ) → 0 < j → j ≤ n → x < 2 ^ (n - j) → b < 2 → x * 2 + b < 2 ^ (n - (j - 1))
bits_below n j x b l h hx hb =
    let e : n - (j - 1) ≡ suc (n - j) = omega arith in
    let p = pow-succ' 2 (n - j) in
    rw e (omega arith)

pub bits_small : (n j x : ℕ) → n ≤ 8 → x < 2 ^ (n - j) → x < 256
bits_small n j x l h = native.Mathlib.Nat.lt_of_lt_of_le h (lib.Pow.pow_mono {j = 8} (omega arith))

-- of fewer elements than it has bits, a byte has as many bits as there are elements

bits_few : (k : ℕ) (xs : List ℕ) → length xs ≤ k → bits_byte (length xs) xs ≡ bits_byte k xs
unfolding bits_byte
bits_few zero [] h = refl
bits_few (suc k) [] h = refl
bits_few zero (x ∷ xs) h = absurd (not-suc-le-zero h)
bits_few (suc k) (x ∷ xs) h = ap (λ (b : ℕ). x + 2 * b) (bits_few k xs (le_of_suc-le-suc h))

pub last_byte : (from n : ℕ) (xs : List ℕ) → from + n ≡ length xs → n ≤ 8 → bits_byte n (drop from xs) ≡ bits_byte 8 (drop from xs)
last_byte from n xs e h =
    let l : length (drop from xs) ≡ n = simp length-drop (omega arith) in
    ap (λ (k : ℕ). bits_byte k (drop from xs)) (sym l) ∙ bits_few 8 (drop from xs) (omega arith)
