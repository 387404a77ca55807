-- Bytes of a number stored into lent bytes: what stands where afterwards.
-- Assumes nothing.
use mathlib.Core.Path.{◌≡◌, refl, sym, ap, ap₂, ◌∙◌}
use mathlib.Core.List.{List, [], ◌∷◌, ◌++◌, append_assoc}
use Prim.Native.Nat.{ℕ, zero, suc, ◌+◌, ◌*◌, ◌/◌, ◌%◌, ◌^◌, ◌<◌, ◌≤◌}
use native.Mathlib.Nat.{suc-mul, mul-le-mul_right, add_comm, add-mul-div_right, div-eq_of_lt, mod-eq_of_lt, mul-add-mod_self_right, not-suc-le-zero, le_of_suc-le-suc, zero-add, suc-add, add-zero, div-one, div-div-eq-div-mul, pow-succ'}
use native.Mathlib.Omega.{arith}
use lib.ListN.{length, set, take, drop, get_or, length-set, take-append-drop}
use lib.Seq.{get_or-set_same, get_or-set_other, take-suc-set, drop-set-lt, drop-drop}
use native.Mathlib.Numerals.{add-one}
use Rattle.numbers.specs.Rows.{over}
use Rattle.coding.specs.Strides.{puts}
use Rattle.planes.specs.Plane.{byte_at}
use Rattle.coding.specs.Layout.{bytes_of, plain}
use Rattle.coding.proofs.Places.{higher, lowest, get_or_plain}
use Rattle.planes.proofs.Filling.{Filled, fill_turn}

pub puts_add : (a b x at : ℕ) (d : List ℕ) → puts (a + b) x at d ≡ puts b (x / 256 ^ a) (at + a) (puts a x at d)
unfolding puts
puts_add zero b x at d = ap (λ (k : ℕ). puts k x at d) (zero-add b) ∙ ap₂ (λ (y m : ℕ). puts b y m d) (sym (div-one x)) (sym (add-zero at))
puts_add (suc a) b x at d =
    let e : at + 1 + a ≡ at + suc a = omega arith in
    ap (λ (k : ℕ). puts k x at d) (suc-add a b) ∙ puts_add a b (x / 256) (at + 1) (set d at (x % 256))
    ∙ ap₂ (λ (y m : ℕ). puts b y m (puts a (x / 256) (at + 1) (set d at (x % 256))))
    (div-div-eq-div-mul x 256 (256 ^ a) ∙ ap (λ (m : ℕ). x / m) (sym (pow-succ' 256 a))) e

pub length_puts : (k x at : ℕ) (d : List ℕ) → length (puts k x at d) ≡ length d
unfolding puts
length_puts zero x at d = refl
length_puts (suc k) x at d = length_puts k (x / 256) (at + 1) (set d at (x % 256)) ∙ length-set d at (x % 256)

pub puts_before : (k x at p : ℕ) (d : List ℕ) → p < at → get_or (puts k x at d) p 0 ≡ get_or d p 0
unfolding puts
puts_before zero x at p d h = refl
puts_before (suc k) x at p d h =
    puts_before k (x / 256) (at + 1) p (set d at (x % 256)) (omega arith) ∙ get_or-set_other d at p (x % 256) 0 (λ e. omega arith)

pub puts_behind : (k x at p : ℕ) (d : List ℕ) → at + k ≤ p → get_or (puts k x at d) p 0 ≡ get_or d p 0
unfolding puts
puts_behind zero x at p d h = refl
puts_behind (suc k) x at p d h =
    puts_behind k (x / 256) (at + 1) p (set d at (x % 256)) (omega arith) ∙ get_or-set_other d at p (x % 256) 0 (λ e. omega arith)

pub puts_in : (k x at e : ℕ) (d : List ℕ) → e < k → at + k ≤ length d → get_or (puts k x at d) (at + e) 0 ≡ byte_at x e
unfolding puts
puts_in zero x at e d h r = absurd (not-suc-le-zero h)
puts_in (suc k) x at zero d h r =
    ap (λ (p : ℕ). get_or (puts k (x / 256) (at + 1) (set d at (x % 256))) p 0) (add-zero at)
    ∙ puts_before k (x / 256) (at + 1) at (set d at (x % 256)) (omega arith) ∙ get_or-set_same d at (x % 256) 0 (omega arith) ∙ lowest x
puts_in (suc k) x at (suc e) d h r =
    let q : at + suc e ≡ at + 1 + e = omega arith in
    let l = length-set d at (x % 256) in
    ap (λ (p : ℕ). get_or (puts k (x / 256) (at + 1) (set d at (x % 256))) p 0) q
    ∙ puts_in k (x / 256) (at + 1) e (set d at (x % 256)) (le_of_suc-le-suc h) (omega arith) ∙ higher x e

-- over what stood there
pub puts_over : (k x at : ℕ) (d : List ℕ) → at + k ≤ length d → puts k x at d ≡ take at d ++ over (bytes_of k x) (drop at d)
unfolding puts bytes_of
puts_over zero x at d h = sym (take-append-drop at d)
puts_over (suc k) x at d h =
    let b : ℕ = x % 256 in
    let l = length-set d at b in
    let t : take (at + 1) (set d at b) ≡ take at d ++ (b ∷ []) =
    ap (λ (n : ℕ). take n (set d at b)) (add-one at) ∙ take-suc-set d at b (omega arith) in
    let r : drop (at + 1) (set d at b) ≡ drop (at + 1) d = drop-set-lt (at + 1) d at b (omega arith) in
    let m : ℕ = length (bytes_of k (x / 256)) in
    let q : at + 1 + m ≡ at + suc m = omega arith in
    puts_over k (x / 256) (at + 1) (set d at b) (omega arith)
    ∙ ap₂ (λ (u v : List ℕ). u ++ over (bytes_of k (x / 256)) v) t r
    ∙ append_assoc (take at d) (b ∷ []) (over (bytes_of k (x / 256)) (drop (at + 1) d))
    ∙ ap (λ (v : List ℕ). take at d ++ (b ∷ (bytes_of k (x / 256) ++ v)))
    (drop-drop m (at + 1) d ∙ ap (λ (n : ℕ). drop n d) q ∙ sym (drop-drop (suc m) at d))

-- a loop that stores k bytes a turn
pub fill_puts : (k : ℕ) (l d out : List ℕ) (p x : ℕ) → Filled l d p out → p + k ≤ length l → p + k ≤ length d
    → ((e : ℕ) → e < k → byte_at x e ≡ get_or l (p + e) 0) → Filled l d (p + k) (puts k x p out)
unfolding puts
fill_puts zero l d out p x f a b v = ap₂ₚ f
  where
    ap₂ₚ : Filled l d p out → Filled l d (p + zero) out
    ap₂ₚ f = rw (add-zero p) f
fill_puts (suc k) l d out p x f a b v =
    let q : p + 1 + k ≡ p + suc k = omega arith in
    let z : p + 0 ≡ p = omega arith in
    let t = fill_turn l d out p (x % 256) f (omega arith) (omega arith) (lowest x ∙ v 0 (omega arith) ∙ ap (λ (i : ℕ). get_or l i 0) z) in
    mathlib.Core.Path.subst (λ (i : ℕ). Filled l d i (puts k (x / 256) (p + 1) (set out p (x % 256)))) q
    (fill_puts k l d (set out p (x % 256)) (p + 1) (x / 256) t (omega arith) (omega arith)
    (λ e h. let s : p + suc e ≡ p + 1 + e = omega arith in
    higher x e ∙ v (suc e) (omega arith) ∙ ap (λ (i : ℕ). get_or l i 0) s))

-- the byte of an element of a plain page
pub plain_byte : (k : ℕ) (xs : List ℕ) (i e : ℕ) → i < length xs → e < k → byte_at (get_or xs i 0) e ≡ get_or (plain k xs) (i * k + e) 0
plain_byte k xs i e l h =
    let z : 0 < k = omega arith in
    let m : suc i * k ≤ length xs * k = mul-le-mul_right k l in
    let w : i * k + e < length xs * k = omega (arith, suc-mul i k) in
    let d : (i * k + e) / k ≡ i =
    ap (λ (x : ℕ). x / k) (add_comm (i * k) e) ∙ add-mul-div_right e i z ∙ ap (λ (q : ℕ). q + i) (div-eq_of_lt h) ∙ zero-add i in
    let r : (i * k + e) % k ≡ e = mul-add-mod_self_right i k e ∙ mod-eq_of_lt h in
    sym (get_or_plain k xs (i * k + e) w ∙ ap₂ (λ (j p : ℕ). byte_at (get_or xs j 0) p) d r)
