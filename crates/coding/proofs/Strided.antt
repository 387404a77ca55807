-- The numbers of a laid out page, by their places: k bytes, a stride apart.
-- Assumes nothing.
use mathlib.Core.Path.{◌≡◌, refl, sym, ap, ap₂, ◌∙◌, subst}
use mathlib.Core.List.{List}
use Prim.Native.Nat.{ℕ, zero, suc, ◌+◌, ◌*◌, ◌^◌, ◌<◌, ◌≤◌}
use native.Mathlib.Nat.{mul_comm, mul_assoc, suc-add, suc-mul, pow-suc, add_comm, zero-add}
use native.Mathlib.Omega.{arith}
use lib.Dec.{lit<}
use lib.ListN.{length, take, drop, get_or, get_or-replicate, length-drop}
use lib.Seq.{length-take-le, get_or-take, get_or-drop}
use Rattle.numbers.specs.Numbers.{little}
use Rattle.coding.specs.Layout.{unplanes, unplain}
use Rattle.coding.specs.Strides.{strided}
use Rattle.coding.specs.Inverses.{Below}
use Rattle.coding.proofs.Below.{below_any, below_all}
use Rattle.coding.proofs.Planes.{get_or_under, length_unplanes}
use Rattle.coding.proofs.Plain.{get_or_unplain, length_unplain}

strided_one : (k at : ℕ) (s : List ℕ) → strided k 1 s at ≡ little k s at
unfolding strided little
strided_one zero at s = refl
strided_one (suc k) at s = ap (λ (n : ℕ). get_or s at 0 + 256 * n) (strided_one k (at + 1) s)

pub strided_drop : (k step at n : ℕ) (s : List ℕ) → strided k step (drop n s) at ≡ strided k step s (n + at)
unfolding strided
strided_drop zero step at n s = refl
strided_drop (suc k) step at n s =
    let e : n + (at + step) ≡ n + at + step = omega arith in
    ap₂ (λ (a b : ℕ). a + 256 * b) (get_or-drop n s at 0) (strided_drop k step (at + step) n s ∙ ap (strided k step s) e)

pub strided_add : (a b step at : ℕ) (s : List ℕ) → strided (a + b) step s at ≡ strided a step s at + 256 ^ a * strided b step s (at + a * step)
unfolding strided
strided_add zero b step at s =
    let e : at + 0 * step ≡ at = omega arith in
    rw (zero-add b, e) (omega arith)
strided_add (suc a) b step at s =
    let e : at + step + a * step ≡ at + suc a * step = omega (arith, suc-mul a step) in
    let p = pow-suc 256 a in
    let x : ℕ = strided a step s (at + step) in
    let y : ℕ = strided b step s (at + suc a * step) in
    let m : 256 ^ suc a * y ≡ 256 * (256 ^ a * y) = ap (λ (q : ℕ). q * y) (p ∙ mul_comm (256 ^ a) 256) ∙ mul_assoc 256 (256 ^ a) y in
    ap (λ (k : ℕ). strided k step s at) (suc-add a b)
    ∙ ap (λ (q : ℕ). get_or s at 0 + 256 * q) (strided_add a b step (at + step) s ∙ ap (λ (q : ℕ). x + 256 ^ a * strided b step s q) e)
    ∙ omega arith

-- each fits its bytes

pub strided_below : (k step at : ℕ) (s : List ℕ) → Below 256 s → strided k step s at < 256 ^ k
unfolding strided
strided_below zero step at s h = lit< tt
strided_below (suc k) step at s h =
    let p = pow-suc 256 k in
    let b = below_any 256 s (lit< tt) h at in
    let r = strided_below k step (at + step) s h in
    omega arith

-- elements of a page, split and plain

pub get_or_unplanes : (k n : ℕ) (bs : List ℕ) (i : ℕ) → i < n → k * n ≤ length bs → get_or (unplanes k n bs) i 0 ≡ strided k n bs i
unfolding unplanes strided
get_or_unplanes zero n bs i l h = get_or-replicate n i 0 0 l
get_or_unplanes (suc k) n bs i l h =
    let m = suc-mul k n in
    let room : k * n ≤ length (drop n bs) = simp length-drop (omega arith) in
    let t = length-take-le n bs (omega arith) in
    get_or_under (take n bs) (unplanes k n (drop n bs)) i (t ∙ sym (length_unplanes k n (drop n bs) room)) (omega arith)
    ∙ ap₂ (λ (a b : ℕ). a + 256 * b) (get_or-take n bs i 0 l)
    (get_or_unplanes k n (drop n bs) i l room ∙ strided_drop k n i n bs ∙ ap (strided k n bs) (add_comm n i))

-- they fit their bytes too

pub below_unplanes : (k n : ℕ) (bs : List ℕ) → k * n ≤ length bs → Below 256 bs → Below (256 ^ k) (unplanes k n bs)
below_unplanes k n bs h g =
    below_all (256 ^ k) (unplanes k n bs)
    (λ i l.
    let li : i < n = subst (λ (m : ℕ). i < m) (length_unplanes k n bs h) l in
    subst (λ (x : ℕ). x < 256 ^ k) (sym (get_or_unplanes k n bs i li h)) (strided_below k n i bs g))

pub below_unplain : (k n : ℕ) (bs : List ℕ) → Below 256 bs → Below (256 ^ k) (unplain k n bs)
below_unplain k n bs g =
    below_all (256 ^ k) (unplain k n bs)
    (λ i l.
    let li : i < n = subst (λ (m : ℕ). i < m) (length_unplain k n bs) l in
    subst (λ (x : ℕ). x < 256 ^ k) (strided_one k (i * k) bs ∙ sym (get_or_unplain k n bs i li)) (strided_below k 1 (i * k) bs g))

-- of one byte

pub strided_single : (step at : ℕ) (s : List ℕ) → get_or s at 0 ≡ strided 1 step s at
unfolding strided
strided_single step at s = omega arith
