-- A word that is put on the words after it instead of going through the register. Where it goes to is said by a list of shifts for each of
-- those words; that this comes to the same is one test of the number 2 ^ 63, since the register is linear and each step of it moves on.
use mathlib.Core.Path.{◌≡◌, refl, sym, ap, ap₂, ◌∙◌}
use mathlib.Core.Bool.{Bool, true, false}
use mathlib.Core.List.{List, [], ◌∷◌, ◌++◌}
use Prim.Native.Nat.{ℕ, ◌+◌, ◌-◌, ◌*◌, ◌/◌, ◌%◌, ◌^◌, ◌≤◌, ◌<◌}
use native.Mathlib.Nat.{mod-lt}
use native.Mathlib.Omega.{arith}
use lib.Bits.{bit_xor, xor_comm, xor_shifted, xor_zero_r}
use lib.Dec.{T, leb, leb→le}
use lib.Pow.{split, pow_pos, pow-add, shl-shr, shr-shr}
use Rattle.numbers.specs.Choice.{both}
use Rattle.checksum.specs.Crc.{bits}
use Rattle.checksum.specs.Wide.{joined}
use Rattle.crc_register.proofs.Xor.{xor_assoc, xor_swap, xor_up}
use Rattle.crc_register.proofs.Linear.{Linear, agree, halves}
use Rattle.crc_register.proofs.Shifts.{xors, xors_is, lefts, rights}
use Rattle.crc_register.proofs.Register.{bits_xor, bits_add, bits_swap, bits_zero, bits_up}

xors_append : (a : ℕ) (k l : List ℕ) → xors a (k ++ l) ≡ bit_xor a (bit_xor (xors 0 k) (xors 0 l))
unfolding xors
xors_append a [] l = xors_is a l
xors_append a (b ∷ k) l =
    xors_append (bit_xor a b) k l ∙ xor_assoc a b (bit_xor (xors 0 k) (xors 0 l))
    ∙ ap (bit_xor a) (sym (xor_assoc b (xors 0 k) (xors 0 l)) ∙ ap (λ (x : ℕ). bit_xor x (xors 0 l)) (sym (xors_is b k)))

unfoldable pub spread : List ℕ → ℕ → ℕ
spread [] x = 0
spread (k ∷ ks) x = bit_xor (x * 2 ^ k) (spread ks x)

unfoldable pub below : ℕ → List ℕ → Bool
below m [] = true
below m (k ∷ ks) = both (leb k m) (below m ks)

cut : (k x : ℕ) → k ≤ 64 → x * 2 ^ k ≡ bit_xor (x * 2 ^ k % 2 ^ 64) (x / 2 ^ (64 - k) * 2 ^ 64)
cut k x h =
    let e : 64 ≡ k + (64 - k) = omega arith in
    let q : x * 2 ^ k / 2 ^ 64 ≡ x / 2 ^ (64 - k) = ap (λ (n : ℕ). x * 2 ^ k / 2 ^ n) e ∙ sym (shr-shr (x * 2 ^ k) k (64 - k)) ∙ ap (λ (y : ℕ). y / 2 ^ (64 - k)) (shl-shr x k) in
    sym (split (x * 2 ^ k) 64) ∙ sym (xor_shifted (x * 2 ^ k / 2 ^ 64) 64 (x * 2 ^ k % 2 ^ 64) (mod-lt (x * 2 ^ k) (pow_pos 64)))
    ∙ xor_comm (x * 2 ^ k / 2 ^ 64 * 2 ^ 64) (x * 2 ^ k % 2 ^ 64) ∙ ap (λ (y : ℕ). bit_xor (x * 2 ^ k % 2 ^ 64) (y * 2 ^ 64)) q

cuts : (ks : List ℕ) (x : ℕ) → T (below 64 ks) → spread ks x ≡ bit_xor (xors 0 (lefts ks x)) (xors 0 (rights ks x) * 2 ^ 64)
unfolding spread below lefts rights xors
cuts [] x t = refl
cuts (k ∷ ks) x t =
    let l : ℕ = x * 2 ^ k % 2 ^ 64 in
    let r : ℕ = x / 2 ^ (64 - k) in
    ap₂ bit_xor (cut k x (leb→le k 64 (halves (leb k 64) (below 64 ks) t).0)) (cuts ks x (halves (leb k 64) (below 64 ks) t).1)
    ∙ xor_swap l (r * 2 ^ 64) (xors 0 (lefts ks x)) (xors 0 (rights ks x) * 2 ^ 64)
    ∙ ap₂ bit_xor (sym (xors_is l (lefts ks x))) (sym (ap (λ (y : ℕ). y * 2 ^ 64) (xors_is r (rights ks x)) ∙ xor_up r (xors 0 (rights ks x)) 64))

-- the words after a word x is put on them, by the shifts to each; what the word before sends up goes first
unfoldable pub put : List (List ℕ) → ℕ → List ℕ → List ℕ → List ℕ
put g x up [] = []
put [] x up (w ∷ ws) = xors w up ∷ ws
put (ks ∷ g) x up (w ∷ ws) = xors w (up ++ lefts ks x) ∷ put g x (rights ks x) ws

unfoldable pub spreads : List (List ℕ) → ℕ → ℕ
spreads [] x = 0
spreads (ks ∷ g) x = bit_xor (spread ks x) (spreads g x * 2 ^ 64)

unfoldable pub room : List (List ℕ) → List ℕ → Bool
room g [] = false
room [] (w ∷ ws) = true
room (ks ∷ g) (w ∷ ws) = both (below 64 ks) (room g ws)

pub put_is : (g : List (List ℕ)) (x : ℕ) (up ws : List ℕ) → T (room g ws) → joined (put g x up ws) ≡ bit_xor (joined ws) (bit_xor (xors 0 up) (spreads g x))
unfolding put spreads room joined
put_is g x up [] t = absurd t
put_is [] x up (w ∷ ws) t =
    let u : ℕ = joined ws * 2 ^ 64 in
    ap (λ (y : ℕ). bit_xor y u) (xors_is w up) ∙ xor_assoc w (xors 0 up) u ∙ ap (bit_xor w) (xor_comm (xors 0 up) u) ∙ sym (xor_assoc w u (xors 0 up))
    ∙ ap (bit_xor (bit_xor w u)) (sym (xor_zero_r (xors 0 up)))
put_is (ks ∷ g) x up (w ∷ ws) t =
    let u : ℕ = joined ws * 2 ^ 64 in
    let l : ℕ = xors 0 (lefts ks x) in
    let r : ℕ = xors 0 (rights ks x) * 2 ^ 64 in
    let s : ℕ = spreads g x * 2 ^ 64 in
    ap₂ bit_xor (xors_append w up (lefts ks x))
    (ap (λ (y : ℕ). y * 2 ^ 64) (put_is g x (rights ks x) ws (halves (below 64 ks) (room g ws) t).1)
    ∙ xor_up (joined ws) (bit_xor (xors 0 (rights ks x)) (spreads g x)) 64
    ∙ ap (bit_xor u) (xor_up (xors 0 (rights ks x)) (spreads g x) 64))
    ∙ xor_swap w (bit_xor (xors 0 up) l) u (bit_xor r s)
    ∙ ap (bit_xor (bit_xor w u)) (xor_assoc (xors 0 up) l (bit_xor r s)
    ∙ ap (bit_xor (xors 0 up)) (sym (xor_assoc l r s) ∙ ap (λ (y : ℕ). bit_xor y s) (sym (cuts ks x (halves (below 64 ks) (room g ws) t).0))))

-- what m steps make of all that, by what fewer steps make of the word
unfoldable pub after : ℕ → List ℕ → ℕ → ℕ
after m [] x = 0
after m (k ∷ ks) x = bit_xor (bits (m - k) x) (after m ks x)

unfoldable pub afters : ℕ → List (List ℕ) → ℕ → ℕ
afters m [] x = 0
afters m (ks ∷ g) x = bit_xor (after m ks x) (afters (m - 64) g x)

unfoldable pub inside : ℕ → List (List ℕ) → Bool
inside m [] = true
inside m (ks ∷ g) = both (leb 64 m) (both (below m ks) (inside (m - 64) g))

down : (m k x : ℕ) → k ≤ m → bits m (x * 2 ^ k) ≡ bits (m - k) x
down m k x h =
    let e : m ≡ k + (m - k) = omega arith in
    ap (λ (n : ℕ). bits n (x * 2 ^ k)) e ∙ bits_add k (m - k) (x * 2 ^ k) ∙ ap (bits (m - k)) (bits_up k x)

after_is : (m : ℕ) (ks : List ℕ) (x : ℕ) → T (below m ks) → bits m (spread ks x) ≡ after m ks x
unfolding spread below after
after_is m [] x t = bits_zero m
after_is m (k ∷ ks) x t =
    bits_xor m (x * 2 ^ k) (spread ks x)
    ∙ ap₂ bit_xor (down m k x (leb→le k m (halves (leb k m) (below m ks) t).0)) (after_is m ks x (halves (leb k m) (below m ks) t).1)

afters_is : (m : ℕ) (g : List (List ℕ)) (x : ℕ) → T (inside m g) → bits m (spreads g x) ≡ afters m g x
unfolding spreads inside afters
afters_is m [] x t = bits_zero m
afters_is m (ks ∷ g) x t =
    let rest : T (both (below m ks) (inside (m - 64) g)) = (halves (leb 64 m) (both (below m ks) (inside (m - 64) g)) t).1 in
    bits_xor m (spread ks x) (spreads g x * 2 ^ 64)
    ∙ ap₂ bit_xor (after_is m ks x (halves (below m ks) (inside (m - 64) g) rest).0)
    (down m 64 (spreads g x) (leb→le 64 m (halves (leb 64 m) (both (below m ks) (inside (m - 64) g)) t).0)
    ∙ afters_is (m - 64) g x (halves (below m ks) (inside (m - 64) g) rest).1)

after_xor : (m : ℕ) (ks : List ℕ) → Linear (after m ks)
unfolding after
after_xor m [] a b = refl
after_xor m (k ∷ ks) a b =
    ap₂ bit_xor (bits_xor (m - k) a b) (after_xor m ks a b) ∙ xor_swap (bits (m - k) a) (bits (m - k) b) (after m ks a) (after m ks b)

afters_xor : (m : ℕ) (g : List (List ℕ)) → Linear (afters m g)
unfolding afters
afters_xor m [] a b = refl
afters_xor m (ks ∷ g) a b =
    ap₂ bit_xor (after_xor m ks a b) (afters_xor (m - 64) g a b) ∙ xor_swap (after m ks a) (after m ks b) (afters (m - 64) g a) (afters (m - 64) g b)

after_bits : (j m : ℕ) (ks : List ℕ) (x : ℕ) → after m ks (bits j x) ≡ bits j (after m ks x)
unfolding after
after_bits j m [] x = sym (bits_zero j)
after_bits j m (k ∷ ks) x =
    ap₂ bit_xor (bits_swap (m - k) j x) (after_bits j m ks x) ∙ sym (bits_xor j (bits (m - k) x) (after m ks x))

afters_bits : (j m : ℕ) (g : List (List ℕ)) (x : ℕ) → afters m g (bits j x) ≡ bits j (afters m g x)
unfolding afters
afters_bits j m [] x = sym (bits_zero j)
afters_bits j m (ks ∷ g) x =
    ap₂ bit_xor (after_bits j m ks x) (afters_bits j (m - 64) g x) ∙ sym (bits_xor j (after m ks x) (afters (m - 64) g x))

-- where the two ways agree on 2 ^ 63, they agree on every word
pub same_later : (m : ℕ) (g : List (List ℕ)) → T (inside m g) → bits (64 + m) (2 ^ 63) ≡ afters m g (2 ^ 63) → (x : ℕ) → x < 2 ^ 64
    → bits m (bits 64 x) ≡ bits m (spreads g x)
same_later m g t e x h =
    sym (bits_add 64 m x) ∙ agree (bits (64 + m)) (afters m g) (bits_xor (64 + m)) (afters_xor m g) 64 powers x h ∙ sym (afters_is m g x t)
  where
    power : (j : ℕ) → j < 64 → 2 ^ j ≡ bits (63 - j) (2 ^ 63)
    power j k =
        let n : 63 ≡ j + (63 - j) = omega arith in
        sym (bits_up (63 - j) (2 ^ j)) ∙ ap (bits (63 - j)) (sym (pow-add 2 j (63 - j)) ∙ ap (λ (n : ℕ). 2 ^ n) (sym n))

    powers : (j : ℕ) → j < 64 → bits (64 + m) (2 ^ j) ≡ afters m g (2 ^ j)
    powers j k =
        ap (bits (64 + m)) (power j k) ∙ bits_swap (64 + m) (63 - j) (2 ^ 63) ∙ ap (bits (63 - j)) e ∙ sym (afters_bits (63 - j) m g (2 ^ 63))
        ∙ sym (ap (afters m g) (power j k))
