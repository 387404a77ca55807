-- Laws of ASCII bytes: joining their bits tests them all.
use Prim.Native.Nat.{ℕ, suc, ◌+◌, ◌≤◌, ◌<◌}
use mathlib.Core.Path.{◌≡◌, refl, sym, ◌∙◌}
use mathlib.Core.Bool.{Bool, true, false}
use mathlib.Core.List.{List}
use native.Mathlib.Numerals.{add-one}
use native.Mathlib.Omega.{arith}
use lib.Bits.{bit_or, or_lt, or_add_and, and_le_l, and_le_r}
use lib.Dec.{ltb}
use lib.ListN.{length, drop, get_or, drop_of_length-le}
use lib.Seq.{drop-cons}
use borrow.Author.Tests.{ltb-true, ltb-false, lt-ltb, le-ltb}
use Rattle.numbers.specs.Choice.{both}
use Rattle.utf8.specs.Walking.{ascii}
use Rattle.numbers.proofs.Choice.{both_assoc, both_right}

or_ascii : (a b : ℕ) → ltb (bit_or a b) 128 ≡ both (ltb a 128) (ltb b 128)
or_ascii a b = by (ltb a 128) refl (ltb b 128) refl
  where
    by : (p : Bool) → ltb a 128 ≡ p → (q : Bool) → ltb b 128 ≡ q → ltb (bit_or a b) 128 ≡ both p q
    by true e true f = lt-ltb (bit_or a b) 128 (or_lt 7 a b (ltb-true a 128 e) (ltb-true b 128 f))
    by true e false f =
        let h = ltb-false b 128 f in
        let s = or_add_and a b in
        let l = and_le_l a b in
        le-ltb (bit_or a b) 128 (omega arith)
    by false e q f =
        let h = ltb-false a 128 e in
        let s = or_add_and a b in
        let l = and_le_r a b in
        le-ltb (bit_or a b) 128 (omega arith)

-- the loop over all bytes: those joined so far, and those left
abbrev pub Joined : List ℕ → ℕ → ℕ → Type 0
Joined s all i = ascii s ≡ both (ltb all 128) (ascii (drop i s))

pub joined_next : (s : List ℕ) (all i : ℕ) → i < length s → Joined s all i → Joined s (bit_or all (get_or s i 0)) (i + 1)
unfolding ascii
joined_next s all i h j = j ∙ rw (drop-cons s i 0 h, add-one, or_ascii) (sym (both_assoc (ltb all 128) (ltb (get_or s i 0) 128) (ascii (drop (suc i) s))))

pub joined_all : (s : List ℕ) (all i : ℕ) → length s ≤ i → Joined s all i → ltb all 128 ≡ ascii s
unfolding ascii
joined_all s all i h j = sym (j ∙ rw (drop_of_length-le s h) (both_right (ltb all 128)))
