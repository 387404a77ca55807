-- The encodings of scalar values, one after the other, are well-formed.
use Prim.Native.Nat.{ℕ, ◌+◌, ◌/◌, ◌%◌, ◌≤◌, ◌<◌}
use mathlib.Core.Path.{◌≡◌, refl, ap, ap₂, ◌∙◌}
use mathlib.Core.Bool.{Bool, true}
use mathlib.Core.List.{List, [], ◌∷◌, ◌++◌}
use native.Mathlib.Omega.{arith}
use Rattle.numbers.specs.Choice.{both}
use Rattle.numbers.specs.Rows.{flat}
use Rattle.utf8.specs.WellFormed.{Range, inside, trailing, goes_on, well_formed}
use Rattle.utf8.specs.Scalars.{scalar, scalars, encoded}
use Rattle.numbers.proofs.Choice.{both_true}
use Rattle.utf8.proofs.Rows.{in_range, due_one, due_two, due_three, due_four}
use Rattle.utf8.proofs.Bits.{Scalar, scalar_is, by_size}
use Rattle.utf8.proofs.Second.{Second, is_second}

-- an encoding in front decides nothing
module _ (c : ℕ) (s : List ℕ) (good : Scalar c) where
  front_two : 0x80 ≤ c → c < 0x800 → well_formed ((0xC0 + c / 64) ∷ (0x80 + c % 64) ∷ s) ≡ well_formed s
  unfolding well_formed goes_on
  front_two h g =
      let b = 0xC0 + c / 64 in
      let x = 0x80 + c % 64 in
      ap (λ (rs : List Range). goes_on rs (x ∷ s)) (due_two b (omega arith) (omega arith)) ∙ ap (λ (t : Bool). both t (goes_on [] s)) (in_range 0x80 0xBF x (omega arith) (omega arith))

  front_three : 0x800 ≤ c → c < 0x10000 → well_formed ((0xE0 + c / 4096) ∷ (0x80 + c / 64 % 64) ∷ (0x80 + c % 64) ∷ s) ≡ well_formed s
  unfolding well_formed goes_on
  front_three h g =
      let b = 0xE0 + c / 4096 in
      let x = 0x80 + c / 64 % 64 in
      let y = 0x80 + c % 64 in
      let m : Second b x = record { least = omega arith; most = omega arith; after_E0 = omega arith; after_ED = λ k. let n = good.between (omega arith) in omega arith; after_F0 = omega arith; after_F4 = omega arith } in
      ap (λ (rs : List Range). goes_on rs (x ∷ y ∷ s)) (due_three b (omega arith) (omega arith))
      ∙ ap₂ (λ (t u : Bool). both t (both u (goes_on [] s))) (is_second b x m) (in_range 0x80 0xBF y (omega arith) (omega arith))

  front_four : 0x10000 ≤ c → well_formed ((0xF0 + c / 262144) ∷ (0x80 + c / 4096 % 64) ∷ (0x80 + c / 64 % 64) ∷ (0x80 + c % 64) ∷ s) ≡ well_formed s
  unfolding well_formed goes_on
  front_four h =
      let b = 0xF0 + c / 262144 in
      let x = 0x80 + c / 4096 % 64 in
      let y = 0x80 + c / 64 % 64 in
      let z = 0x80 + c % 64 in
      let l = good.most in
      let m : Second b x = record { least = omega arith; most = omega arith; after_E0 = omega arith; after_ED = omega arith; after_F0 = omega arith; after_F4 = omega arith } in
      ap (λ (rs : List Range). goes_on rs (x ∷ y ∷ z ∷ s)) (due_four b (omega arith) (omega arith))
      ∙ ap₂ (λ (t u : Bool). both t (both u (both (inside trailing z) (goes_on [] s)))) (is_second b x m) (in_range 0x80 0xBF y (omega arith) (omega arith))
      ∙ ap (λ (t : Bool). both t (goes_on [] s)) (in_range 0x80 0xBF z (omega arith) (omega arith))

  front_one : c < 0x80 → well_formed (c ∷ s) ≡ well_formed s
  unfolding well_formed goes_on
  front_one h = ap (λ (rs : List Range). goes_on rs s) (due_one c h)

  pub front_same : well_formed (encoded c ++ s) ≡ well_formed s
  front_same = by_size c (λ t. well_formed (t ++ s) ≡ well_formed s) front_one front_two front_three front_four

pub encodings_good : (cs : List ℕ) → scalars cs ≡ true → well_formed (flat encoded cs) ≡ true
unfolding scalars flat well_formed goes_on
encodings_good [] e = refl
encodings_good (c ∷ cs) e =
    let (good, rest) = both_true (scalar c) (scalars cs) e in
    front_same c (flat encoded cs) (scalar_is c good) ∙ encodings_good cs rest
