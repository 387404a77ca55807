-- Plain, once over the number of bytes: unplain undoes plain on elements below 256 ^ k, and plain undoes unplain on bytes.
-- Assumes nothing.
use mathlib.Core.Path.{◌≡◌, refl, sym, ap, ap₂, ◌∙◌, subst}
use mathlib.Core.List.{List, [], ◌∷◌, ◌++◌, append_assoc}
use Prim.Native.Nat.{ℕ, zero, suc, ◌+◌, ◌*◌, ◌-◌, ◌/◌, ◌%◌, ◌^◌, ◌<◌, ◌≤◌}
use native.Mathlib.Nat.{not-suc-le-zero, le_of_suc-le-suc, suc-mul, zero-mul, add-mul, mul-le-mul_right}
use native.Mathlib.Omega.{arith}
use lib.ListN.{length, take, drop, get_or, length-drop, length-append}
use lib.Seq.{take_at, drop_at, drop-drop, take-add, get_or-drop, get_or-take, ext_get_or, length-take-le}
use Rattle.numbers.specs.Numbers.{little}
use Rattle.numbers.specs.Rows.{over}
use Rattle.numbers.proofs.Parts.{rest_of, put_rest}
use borrow.Rule.Slice.PartMut.{put_mid}
use Rattle.coding.specs.Layout.{bytes_of, plain, unplain}
use Rattle.coding.specs.Inverses.{Below}
use Rattle.coding.proofs.Below.{below_drop}
use Rattle.coding.proofs.Planes.{high_below}

-- the bytes of one element

-- a number that starts one place later stands one place later in a list with one byte more in front
little_tail : (k b at : ℕ) (s : List ℕ) → little k (b ∷ s) (suc at) ≡ little k s at
unfolding little
little_tail zero b at s = refl
little_tail (suc k) b at s =
    let e : suc at + 1 ≡ suc (at + 1) = omega arith in
    ap (λ (n : ℕ). get_or s at 0 + 256 * n) (ap (little k (b ∷ s)) e ∙ little_tail k b (at + 1) s)

pub little_cons : (k b : ℕ) (s : List ℕ) → little (suc k) (b ∷ s) 0 ≡ b + 256 * little k s 0
unfolding little
little_cons k b s = ap (λ (n : ℕ). b + 256 * n) (little_tail k b 0 s)

pub little_drop : (k at n : ℕ) (s : List ℕ) → little k (drop n s) at ≡ little k s (n + at)
unfolding little
little_drop zero at n s = refl
little_drop (suc k) at n s =
    let e : n + (at + 1) ≡ n + at + 1 = omega arith in
    ap₂ (λ (a b : ℕ). a + 256 * b) (get_or-drop n s at 0) (little_drop k (at + 1) n s ∙ ap (little k s) e)

pub little_single : (at : ℕ) (s : List ℕ) → get_or s at 0 ≡ little 1 s at
unfolding little
little_single at s = omega arith

pub length_bytes_of : (k x : ℕ) → length (bytes_of k x) ≡ k
unfolding bytes_of
length_bytes_of zero x = refl
length_bytes_of (suc k) x = ap suc (length_bytes_of k (x / 256))

pub below_bytes_of : (k x : ℕ) → Below 256 (bytes_of k x)
unfolding bytes_of
below_bytes_of zero x = tt
below_bytes_of (suc k) x = (omega arith, below_bytes_of k (x / 256))

pub little_bytes_of : (k x : ℕ) (rest : List ℕ) → x < 256 ^ k → little k (bytes_of k x ++ rest) 0 ≡ x
unfolding bytes_of little
little_bytes_of zero x rest h = omega arith
little_bytes_of (suc k) x rest h =
    let i = little_bytes_of k (x / 256) rest (high_below k x h) in
    let e : x % 256 + 256 * (x / 256) ≡ x = omega arith in
    little_cons k (x % 256) (bytes_of k (x / 256) ++ rest) ∙ ap (λ (n : ℕ). x % 256 + 256 * n) i ∙ e

pub bytes_of_little : (k : ℕ) (bs : List ℕ) → k ≤ length bs → Below 256 bs → bytes_of k (little k bs 0) ≡ take k bs
unfolding bytes_of
bytes_of_little zero bs l h = refl
bytes_of_little (suc k) [] l h = absurd (not-suc-le-zero l)
bytes_of_little (suc k) (b ∷ bs) l h =
    let hb : b < 256 = h.0 in
    let v : ℕ = little k bs 0 in
    let p : (b + 256 * v) % 256 ≡ b = omega arith in
    let q : (b + 256 * v) / 256 ≡ v = omega arith in
    ap (λ (n : ℕ). n % 256 ∷ bytes_of k (n / 256)) (little_cons k b bs)
    ∙ ap₂ (λ (x y : ℕ). x ∷ bytes_of k y) p q
    ∙ ap (λ (t : List ℕ). b ∷ t) (bytes_of_little k bs (le_of_suc-le-suc l) h.1)

-- lengths

pub length_plain : (k : ℕ) (xs : List ℕ) → length (plain k xs) ≡ length xs * k
unfolding plain
length_plain k [] = sym (zero-mul k)
length_plain k (x ∷ xs) =
    length-append (bytes_of k x) (plain k xs)
    ∙ ap₂ (λ (a b : ℕ). a + b) (length_bytes_of k x) (length_plain k xs)
    ∙ omega (arith, suc-mul (length xs) k)

pub length_unplain : (k n : ℕ) (bs : List ℕ) → length (unplain k n bs) ≡ n
unfolding unplain
length_unplain k zero bs = refl
length_unplain k (suc n) bs = ap suc (length_unplain k n (drop k bs))

-- the round trip, with any bytes behind the elements

pub unplain_plain : (k : ℕ) (xs rest : List ℕ) → Below (256 ^ k) xs → unplain k (length xs) (plain k xs ++ rest) ≡ xs
unfolding plain unplain
unplain_plain k [] rest h = refl
unplain_plain k (x ∷ xs) rest h =
    let s : List ℕ = plain k xs ++ rest in
    ap (λ (l : List ℕ). little k l 0 ∷ unplain k (length xs) (drop k l)) (append_assoc (bytes_of k x) (plain k xs) rest)
    ∙ ap₂ (λ (y : ℕ) (l : List ℕ). y ∷ unplain k (length xs) l) (little_bytes_of k x s h.0) (drop_at (bytes_of k x) s k (length_bytes_of k x))
    ∙ ap (λ (l : List ℕ). x ∷ l) (unplain_plain k xs rest h.1)

pub plain_unplain : (k n : ℕ) (bs : List ℕ) → n * k ≤ length bs → Below 256 bs → plain k (unplain k n bs) ≡ take (n * k) bs
unfolding plain unplain
plain_unplain k zero bs h b = rw (zero-mul k)
plain_unplain k (suc n) bs h b =
    let m = suc-mul n k in
    let room : n * k ≤ length (drop k bs) = simp length-drop (omega arith) in
    let c : suc n * k ≡ k + n * k = omega arith in
    ap₂ (λ (x y : List ℕ). x ++ y) (bytes_of_little k bs (omega arith) b) (plain_unplain k n (drop k bs) room (below_drop 256 k bs b))
    ∙ sym (take-add k (n * k) bs)
    ∙ ap (λ (i : ℕ). take i bs) (sym c)

-- what stands at a place

pub get_or_unplain : (k n : ℕ) (bs : List ℕ) (i : ℕ) → i < n → get_or (unplain k n bs) i 0 ≡ little k bs (i * k)
unfolding unplain
get_or_unplain k zero bs i l = absurd (not-suc-le-zero l)
get_or_unplain k (suc n) bs zero l = ap (little k bs) (sym (zero-mul k))
get_or_unplain k (suc n) bs (suc i) l =
    let m = suc-mul i k in
    let e : k + i * k ≡ suc i * k = omega arith in
    get_or_unplain k n (drop k bs) i (le_of_suc-le-suc l) ∙ little_drop k (i * k) k bs ∙ ap (little k bs) e

-- only the bytes of the numbers are read

little_take : (k at m : ℕ) (s : List ℕ) → at + k ≤ m → little k (take m s) at ≡ little k s at
unfolding little
little_take zero at m s h = refl
little_take (suc k) at m s h = ap₂ (λ (a b : ℕ). a + 256 * b) (get_or-take m s at 0 (omega arith)) (little_take k (at + 1) m s (omega arith))

pub plain_place : (k n i : ℕ) → i < n → i * k + k ≤ n * k
plain_place k n i l = omega (arith, suc-mul i k, mul-le-mul_right k l)

pub unplain_take : (k n size : ℕ) (bs : List ℕ) → n * k ≤ size → unplain k n (take size bs) ≡ unplain k n bs
unplain_take k n size bs h =
    ext_get_or 0 (unplain k n (take size bs)) (unplain k n bs) (length_unplain k n (take size bs) ∙ sym (length_unplain k n bs))
    (λ i l.
    let li : i < n = subst (λ (m : ℕ). i < m) (length_unplain k n (take size bs)) l in
    get_or_unplain k n (take size bs) i li ∙ little_take k (i * k) size bs (omega (arith, plain_place k n i li)) ∙ sym (get_or_unplain k n bs i li))

-- a page written part after part

plain_append : (k : ℕ) (xs ys : List ℕ) → plain k (xs ++ ys) ≡ plain k xs ++ plain k ys
unfolding plain
plain_append k [] ys = refl
plain_append k (x ∷ xs) ys = ap (λ (l : List ℕ). bytes_of k x ++ l) (plain_append k xs ys) ∙ sym (append_assoc (bytes_of k x) (plain k xs) (plain k ys))

pub over_more : (n : ℕ) (a b d : List ℕ) → length a ≡ n → take n (over a d) ++ over b (drop n (over a d)) ≡ over (a ++ b) d
over_more n a b d e =
    ap₂ (λ (u v : List ℕ). u ++ over b v) (take_at a (drop (length a) d) n e) (drop_at a (drop (length a) d) n e)
    ∙ ap (λ (l : List ℕ). a ++ (b ++ l)) (drop-drop (length b) (length a) d ∙ ap (λ (m : ℕ). drop m d) (sym (length-append a b)))
    ∙ sym (append_assoc a b (drop (length (a ++ b)) d))

-- n elements more, behind those of the first i
plain_more : (k i n : ℕ) (xs d o : List ℕ) → i ≤ length xs → o ≡ over (plain k (take i xs)) d
    → take (i * k) o ++ over (plain k (take n (drop i xs))) (drop (i * k) o) ≡ over (plain k (take (i + n) xs)) d
plain_more k i n xs d o l e =
    let long : length (plain k (take i xs)) ≡ i * k = length_plain k (take i xs) ∙ ap (λ (m : ℕ). m * k) (length-take-le i xs l) in
    rw (e, take-add i n xs, plain_append k (take i xs) (take n (drop i xs)))
    (over_more (i * k) (plain k (take i xs)) (plain k (take n (drop i xs))) d long)

pub plain_room : (k i n m : ℕ) → i + n ≤ m → i * k + n * k ≤ m * k
plain_room k i n m h = subst (λ (p : ℕ). p ≤ m * k) (add-mul i n k) (mul-le-mul_right k h)

-- such a part, as it is lent and put back

pub plain_part : (k i n : ℕ) (xs d q o r : List ℕ) → i ≤ length xs → q ≡ take n (drop i xs) → o ≡ over (plain k (take i xs)) d
    → r ≡ over (plain k q) (take (length o - i * k) (drop (i * k) o)) → put_mid (i * k) (length o - i * k) o r ≡ over (plain k (take (i + n) xs)) d
plain_part k i n xs d q o r l p h e =
    put_rest (i * k) o r
    ∙ ap (λ (b : List ℕ). take (i * k) o ++ b) (e ∙ ap₂ (λ (u v : List ℕ). over (plain k u) v) p (rest_of (i * k) o))
    ∙ plain_more k i n xs d o l h

pub plain_fits : (k i n : ℕ) (xs q o : List ℕ) → i + n ≤ length xs → q ≡ take n (drop i xs) → length xs * k ≤ length o
    → length q * k ≤ length (take (length o - i * k) (drop (i * k) o))
plain_fits k i n xs q o h p e =
    let long : length q ≡ n = ap length p ∙ length-take-le n (drop i xs) (omega (arith, length-drop i xs)) in
    rw (long, rest_of (i * k) o) (omega (arith, plain_room k i n (length xs) h, length-drop (i * k) o))
