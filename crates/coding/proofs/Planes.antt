-- Split, once over the number of bytes: unplanes undoes planes on elements below 256 ^ k, and planes undoes unplanes on bytes.
-- Assumes nothing.
use mathlib.Core.Path.{◌≡◌, refl, sym, ap, ap₂, ◌∙◌, subst}
use mathlib.Core.List.{List, [], ◌∷◌, ◌++◌, map, append_assoc}
use Prim.Native.Nat.{ℕ, zero, suc, ◌+◌, ◌*◌, ◌/◌, ◌%◌, ◌^◌, ◌<◌, ◌≤◌}
use native.Mathlib.Nat.{div-lt_iff_lt-mul, pow-suc, not-suc-le-zero, le_of_suc-le-suc, suc_inj, suc-mul}
use native.Mathlib.Omega.{arith}
use lib.Dec.{lit<}
use lib.ListN.{length, take, drop, get_or, replicate, length-map, length-replicate, length-drop, length-append}
use lib.Seq.{take_at, drop_at, take-add, length-take-le}
use Rattle.coding.specs.Layout.{planes, under, unplanes}
use Rattle.coding.specs.Inverses.{Below}
use Rattle.coding.proofs.Below.{below_take, below_drop}

abbrev pub low : ℕ → ℕ
low x = x % 256

abbrev pub high : ℕ → ℕ
high x = x / 256

-- a byte below the bytes above it

pub under_halves : (xs : List ℕ) → under (map low xs) (map high xs) ≡ xs
unfolding under
under_halves [] = refl
under_halves (x ∷ xs) =
    let e : x % 256 + 256 * (x / 256) ≡ x = omega arith in
    ap₂ (λ (y : ℕ) (l : List ℕ). y ∷ l) e (under_halves xs)

pub low_under : (bs hs : List ℕ) → length bs ≡ length hs → Below 256 bs → map low (under bs hs) ≡ bs
unfolding under
low_under [] hs e h = refl
low_under (b ∷ bs) [] e h = absurd (omega arith)
low_under (b ∷ bs) (x ∷ hs) e h =
    let l : b < 256 = h.0 in
    let p : (b + 256 * x) % 256 ≡ b = omega arith in
    ap₂ (λ (y : ℕ) (l : List ℕ). y ∷ l) p (low_under bs hs (suc_inj e) h.1)

pub high_under : (bs hs : List ℕ) → length bs ≡ length hs → Below 256 bs → map high (under bs hs) ≡ hs
unfolding under
high_under [] [] e h = refl
high_under [] (x ∷ hs) e h = absurd (omega arith)
high_under (b ∷ bs) [] e h = absurd (omega arith)
high_under (b ∷ bs) (x ∷ hs) e h =
    let l : b < 256 = h.0 in
    let p : (b + 256 * x) / 256 ≡ x = omega arith in
    ap₂ (λ (y : ℕ) (l : List ℕ). y ∷ l) p (high_under bs hs (suc_inj e) h.1)

pub length_under : (bs hs : List ℕ) → length bs ≡ length hs → length (under bs hs) ≡ length bs
unfolding under
length_under [] hs e = refl
length_under (b ∷ bs) [] e = absurd (omega arith)
length_under (b ∷ bs) (x ∷ hs) e = ap suc (length_under bs hs (suc_inj e))

pub get_or_under : (bs hs : List ℕ) (i : ℕ) → length bs ≡ length hs → i < length bs → get_or (under bs hs) i 0 ≡ get_or bs i 0 + 256 * get_or hs i 0
unfolding under
get_or_under [] hs i e l = absurd (not-suc-le-zero l)
get_or_under (b ∷ bs) [] i e l = absurd (omega arith)
get_or_under (b ∷ bs) (x ∷ hs) zero e l = refl
get_or_under (b ∷ bs) (x ∷ hs) (suc i) e l = get_or_under bs hs i (suc_inj e) (le_of_suc-le-suc l)

-- bounds, at 256 ^ k

pub high_below : (k x : ℕ) → x < 256 ^ suc k → x / 256 < 256 ^ k
high_below k x h = (div-lt_iff_lt-mul {k = 256} {x = x} {y = 256 ^ k} (lit< tt)).1 (subst (λ (m : ℕ). x < m) (pow-suc 256 k) h)

pub below_high : (k : ℕ) (xs : List ℕ) → Below (256 ^ suc k) xs → Below (256 ^ k) (map high xs)
below_high k [] h = tt
below_high k (x ∷ xs) h = (high_below k x h.0, below_high k xs h.1)

all_zero : (xs : List ℕ) → Below 1 xs → replicate (length xs) 0 ≡ xs
all_zero [] h = refl
all_zero (x ∷ xs) h =
    let l : x < 1 = h.0 in
    let e : 0 ≡ x = omega arith in
    ap₂ (λ (y : ℕ) (l : List ℕ). y ∷ l) e (all_zero xs h.1)

-- lengths

pub length_planes : (k : ℕ) (xs : List ℕ) → length (planes k xs) ≡ k * length xs
unfolding planes
length_planes zero xs = omega arith
length_planes (suc k) xs =
    length-append (map low xs) (planes k (map high xs))
    ∙ ap₂ (λ (a b : ℕ). a + b) (length-map xs low) (length_planes k (map high xs) ∙ ap (λ (n : ℕ). k * n) (length-map xs high))
    ∙ omega (arith, suc-mul k (length xs))

pub length_unplanes : (k n : ℕ) (bs : List ℕ) → k * n ≤ length bs → length (unplanes k n bs) ≡ n
unfolding unplanes
length_unplanes zero n bs h = length-replicate n 0
length_unplanes (suc k) n bs h =
    let m = suc-mul k n in
    let a = length-take-le n bs (omega arith) in
    let b = length_unplanes k n (drop n bs) (simp length-drop (omega arith)) in
    length_under (take n bs) (unplanes k n (drop n bs)) (a ∙ sym b) ∙ a

-- the round trip, with any bytes behind the planes

pub unplanes_planes : (k : ℕ) (xs rest : List ℕ) → Below (256 ^ k) xs → unplanes k (length xs) (planes k xs ++ rest) ≡ xs
unfolding planes unplanes
unplanes_planes zero xs rest h = all_zero xs h
unplanes_planes (suc k) xs rest h =
    let a : (map low xs ++ planes k (map high xs)) ++ rest ≡ map low xs ++ (planes k (map high xs) ++ rest) =
    append_assoc (map low xs) (planes k (map high xs)) rest in
    let s : unplanes k (length (map high xs)) (planes k (map high xs) ++ rest) ≡ map high xs =
    unplanes_planes k (map high xs) rest (below_high k xs h) in
    ap (λ (l : List ℕ). under (take (length xs) l) (unplanes k (length xs) (drop (length xs) l))) a
    ∙ ap₂ under (take_at (map low xs) _ (length xs) (length-map xs low))
    (ap (unplanes k (length xs)) (drop_at (map low xs) _ (length xs) (length-map xs low))
    ∙ ap (λ (n : ℕ). unplanes k n (planes k (map high xs) ++ rest)) (sym (length-map xs high)) ∙ s)
    ∙ under_halves xs

pub planes_unplanes : (k n : ℕ) (bs : List ℕ) → k * n ≤ length bs → Below 256 bs → planes k (unplanes k n bs) ≡ take (k * n) bs
unfolding planes unplanes
planes_unplanes zero n bs h b = rw (native.Mathlib.Nat.zero-mul n)
planes_unplanes (suc k) n bs h b =
    let m = suc-mul k n in
    let room : k * n ≤ length (drop n bs) = simp length-drop (omega arith) in
    let hs : List ℕ = unplanes k n (drop n bs) in
    let e : length (take n bs) ≡ length hs = length-take-le n bs (omega arith) ∙ sym (length_unplanes k n (drop n bs) room) in
    let c : suc k * n ≡ n + k * n = omega arith in
    ap₂ (λ (x y : List ℕ). x ++ planes k y) (low_under (take n bs) hs e (below_take 256 n bs b)) (high_under (take n bs) hs e (below_take 256 n bs b))
    ∙ ap (λ (y : List ℕ). take n bs ++ y) (planes_unplanes k n (drop n bs) room (below_drop 256 n bs b))
    ∙ sym (take-add n (k * n) bs)
    ∙ ap (λ (i : ℕ). take i bs) (sym c)
