-- A word through the register at once: by shifts and exclusive or alone. Both ways are linear, so 64 computed cases are all.
use mathlib.Core.Path.{◌≡◌, refl, sym, ap, ap₂, ◌∙◌}
use mathlib.Core.Bool.{Bool}
use mathlib.Core.List.{List, [], ◌∷◌}
use Prim.Native.Nat.{ℕ, ◌-◌, ◌*◌, ◌/◌, ◌%◌, ◌^◌, ◌<◌}
use lib.Bits.{bit_xor, xor_shr, xor_mod}
use lib.Dec.{T, eqb, eqb→eq}
use Rattle.crc_register.specs.Register.{shifted, bits}
use Rattle.crc_register.proofs.Xor.{xor_swap, xor_up}
use Rattle.crc_register.proofs.Linear.{Linear, then, agree, sure, sure_at}
use Rattle.crc_register.proofs.Register.{bits_xor}
use Rattle.crc_register.proofs.Shifts.{xors, xors_is, lefts, rights}

-- a word with itself shifted up, and down, by each of some shifts
unfoldable pub raised : List ℕ → ℕ → ℕ
raised ks x = xors x (lefts ks x)

unfoldable pub lowered : List ℕ → ℕ → ℕ
lowered ks x = xors x (rights ks x)

lefts_xor : (ks : List ℕ) → Linear (λ x. xors 0 (lefts ks x))
unfolding lefts xors
lefts_xor [] a b = refl
lefts_xor (k ∷ ks) a b =
    let f : ℕ → ℕ = λ x. x * 2 ^ k % 2 ^ 64 in
    xors_is (f (bit_xor a b)) (lefts ks (bit_xor a b))
    ∙ ap₂ bit_xor (ap (λ (x : ℕ). x % 2 ^ 64) (xor_up a b k) ∙ xor_mod (a * 2 ^ k) (b * 2 ^ k) 64) (lefts_xor ks a b)
    ∙ xor_swap (f a) (f b) (xors 0 (lefts ks a)) (xors 0 (lefts ks b))
    ∙ sym (ap₂ bit_xor (xors_is (f a) (lefts ks a)) (xors_is (f b) (lefts ks b)))

rights_xor : (ks : List ℕ) → Linear (λ x. xors 0 (rights ks x))
unfolding rights xors
rights_xor [] a b = refl
rights_xor (k ∷ ks) a b =
    let f : ℕ → ℕ = λ x. x / 2 ^ (64 - k) in
    xors_is (f (bit_xor a b)) (rights ks (bit_xor a b))
    ∙ ap₂ bit_xor (xor_shr a b (64 - k)) (rights_xor ks a b)
    ∙ xor_swap (f a) (f b) (xors 0 (rights ks a)) (xors 0 (rights ks b))
    ∙ sym (ap₂ bit_xor (xors_is (f a) (rights ks a)) (xors_is (f b) (rights ks b)))

-- a word with what is linear in it put on it
on_itself : (l : ℕ → List ℕ) → Linear (λ x. xors 0 (l x)) → Linear (λ x. xors x (l x))
on_itself l h a b =
    xors_is (bit_xor a b) (l (bit_xor a b))
    ∙ ap (bit_xor (bit_xor a b)) (h a b)
    ∙ xor_swap a b (xors 0 (l a)) (xors 0 (l b))
    ∙ sym (ap₂ bit_xor (xors_is a (l a)) (xors_is b (l b)))

raised_xor : (ks : List ℕ) → Linear (raised ks)
unfolding raised
raised_xor ks = on_itself (lefts ks) (lefts_xor ks)

lowered_xor : (ks : List ℕ) → Linear (lowered ks)
unfolding lowered
lowered_xor ks = on_itself (rights ks) (rights_xor ks)

abbrev rises : List ℕ
rises = 6 ∷ 9 ∷ 10 ∷ 12 ∷ 22 ∷ 24 ∷ 29 ∷ 30 ∷ 31 ∷ 32 ∷ 37 ∷ 38 ∷ 43 ∷ 55 ∷ 61 ∷ 62 ∷ []

abbrev falls : List ℕ
falls = 63 ∷ 62 ∷ 60 ∷ 59 ∷ 58 ∷ 48 ∷ 41 ∷ 38 ∷ 35 ∷ []

-- the quotient by the polynomial, and of the quotient times the polynomial what lies above the word
abbrev pub quotient : ℕ → ℕ
quotient x = raised rises (raised (34 ∷ []) (raised (16 ∷ []) x))

abbrev pub above : ℕ → ℕ
above q = lowered falls (lowered (58 ∷ []) (q / 2 ^ 32))

quotient_xor : Linear quotient
quotient_xor =
    then (raised (16 ∷ [])) (λ x. raised rises (raised (34 ∷ []) x)) (raised_xor (16 ∷ []))
    (then (raised (34 ∷ [])) (raised rises) (raised_xor (34 ∷ [])) (raised_xor rises))

above_xor : Linear above
above_xor =
    then (λ q. q / 2 ^ 32) (λ x. lowered falls (lowered (58 ∷ []) x)) (λ a b. xor_shr a b 32)
    (then (lowered (58 ∷ [])) (lowered falls) (lowered_xor (58 ∷ [])) (lowered_xor falls))

abbrev tested : ℕ → Bool
tested j = eqb (above (quotient (2 ^ j))) (bits 64 (2 ^ j))

all_tested : T (sure tested 64)
unfolding bits shifted raised lowered lefts rights xors sure
all_tested = tt

pub reduced : (x : ℕ) → x < 2 ^ 64 → above (quotient x) ≡ bits 64 x
reduced =
    agree (λ x. above (quotient x)) (bits 64) (then quotient above quotient_xor above_xor) (bits_xor 64) 64
    (λ j h. eqb→eq (above (quotient (2 ^ j))) (bits 64 (2 ^ j)) (sure_at tested 64 all_tested j h))
