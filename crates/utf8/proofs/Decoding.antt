-- Well-formed bytes are the encodings of scalar values: the value in front, and the bytes after it.
use Prim.Native.Nat.{ℕ, zero, suc, ◌≤◌, ◌<◌}
use mathlib.Core.Path.{◌≡◌, refl, ap, ◌∙◌}
use mathlib.Core.Bool.{Bool, true, false}
use mathlib.Core.List.{List, [], ◌∷◌, ◌++◌}
use native.Mathlib.Omega.{arith}
use lib.Dec.{leb, ltb, eqb}
use lib.ListN.{length}
use borrow.Author.Tests.{leb-true, leb-false, ltb-true, ltb-false, eqb-true, eqb-false}
use Rattle.numbers.specs.Choice.{both}
use Rattle.numbers.specs.Rows.{flat}
use Rattle.utf8.specs.WellFormed.{◌to◌, inside, trailing, nothing, table, due, goes_on, well_formed}
use Rattle.utf8.specs.Walking.{least_second, most_second}
use Rattle.utf8.specs.Scalars.{scalar, scalars, encoded, Text}
use Rattle.numbers.proofs.Choice.{both_true, clash}
use Rattle.utf8.proofs.Rows.{nothing_inside, due_one, due_none, due_two, due_three, due_four, due_past}
use Rattle.utf8.proofs.Bits.{scalar_low, scalar_high, encoded_one, two, three, four, two_bytes, three_bytes, four_bytes}
use Rattle.utf8.proofs.Second.{Second, narrowed, range_is, second_is}

-- well-formed bytes: the value in front, and the bytes after it
pub record Front (b : ℕ) (s : List ℕ) : Type 0 where
  pub value : ℕ
  pub rest : List ℕ
  pub good : scalar value ≡ true
  pub is : encoded value ++ rest ≡ b ∷ s
  pub shorter : length rest ≤ length s
  pub left : well_formed rest ≡ true

never_on : (s : List ℕ) → goes_on (nothing ∷ []) s ≡ true → ⊥
unfolding goes_on
never_on [] e = clash e refl
never_on (x ∷ s) e = clash (both_true (inside nothing x) (goes_on [] s) e).0 (nothing_inside x)

module _ (b : ℕ) where
  one_on : b < 0x80 → (s : List ℕ) → goes_on [] s ≡ true → Front b s
  unfolding well_formed
  one_on h s e =
      record { value = b; rest = s; good = scalar_low b (omega arith); is = ap (λ (t : List ℕ). t ++ s) (encoded_one b h); shorter = omega arith; left = e }

  two_on : 0xC2 ≤ b → b < 0xE0 → (s : List ℕ) → goes_on (trailing ∷ []) s ≡ true → Front b s
  unfolding goes_on well_formed
  two_on h g [] e = clash e refl
  two_on h g (x ∷ s) e =
      let (i, left) = both_true (inside trailing x) (goes_on [] s) e in
      let n = range_is 0x80 0xBF x i in
      record {
        value = two b x;
        rest = s;
        good = scalar_low (two b x) (omega arith);
        is = ap (λ (t : List ℕ). t ++ s) (two_bytes b x n.0 n.1 h (omega arith));
        shorter = omega arith;
        left = left;
      }

  -- the least three bytes after E0 are those of 800; those after ED are below the surrogates
  three_good : (x y : ℕ) → 0xE0 ≤ b → b < 0xF0 → Second b x → 0x80 ≤ y → y ≤ 0xBF → (scalar (three b x y) ≡ true) × (0x800 ≤ three b x y)
  three_good x y h g m hy gy = by (eqb b 0xE0) refl (eqb b 0xED) refl (ltb b 0xED) refl
    where
      l : 0x80 ≤ x
      l = m.least

      by : (p : Bool) → eqb b 0xE0 ≡ p → (q : Bool) → eqb b 0xED ≡ q → (r : Bool) → ltb b 0xED ≡ r → (scalar (three b x y) ≡ true) × (0x800 ≤ three b x y)
      by true e q f r k =
          let u = eqb-true b 0xE0 e in
          let n = m.after_E0 u in
          let o = m.most in
          (scalar_low (three b x y) (omega arith), omega arith)
      by false e true f r k =
          let u = eqb-true b 0xED f in
          let n = m.after_ED u in
          (scalar_low (three b x y) (omega arith), omega arith)
      by false e false f true k =
          let u = eqb-false b 0xE0 e in
          let n = ltb-true b 0xED k in
          let o = m.most in
          (scalar_low (three b x y) (omega arith), omega arith)
      by false e false f false k =
          let u = eqb-false b 0xED f in
          let n = ltb-false b 0xED k in
          let o = m.most in
          (scalar_high (three b x y) (omega arith) (omega arith), omega arith)

  three_on : 0xE0 ≤ b → b < 0xF0 → (s : List ℕ) → goes_on (least_second b to most_second b ∷ trailing ∷ []) s ≡ true → Front b s
  unfolding goes_on well_formed
  three_on h g [] e = clash e refl
  three_on h g (x ∷ []) e = clash (both_true (narrowed b x) false e).1 refl
  three_on h g (x ∷ y ∷ s) e =
      let (i, r) = both_true (narrowed b x) (both (inside trailing y) (goes_on [] s)) e in
      let (j, left) = both_true (inside trailing y) (goes_on [] s) r in
      let m = second_is b x i in
      let n = range_is 0x80 0xBF y j in
      let k = three_good x y h g m n.0 n.1 in
      record {
        value = three b x y;
        rest = s;
        good = k.0;
        is = ap (λ (t : List ℕ). t ++ s) (three_bytes b x m.least m.most y n.0 n.1 h (omega arith) k.1);
        shorter = omega arith;
        left = left;
      }

  -- the least four bytes after F0 are those of 10000; the most after F4 are those of 10FFFF
  four_good : (x y z : ℕ) → 0xF0 ≤ b → b ≤ 0xF4 → Second b x → 0x80 ≤ y → y ≤ 0xBF → 0x80 ≤ z → z ≤ 0xBF → (scalar (four b x y z) ≡ true) × (0x10000 ≤ four b x y z)
  four_good x y z h g m hy gy hz gz = by (eqb b 0xF0) refl (eqb b 0xF4) refl
    where
      l : 0x80 ≤ x
      l = m.least

      by : (p : Bool) → eqb b 0xF0 ≡ p → (q : Bool) → eqb b 0xF4 ≡ q → (scalar (four b x y z) ≡ true) × (0x10000 ≤ four b x y z)
      by true e q f =
          let u = eqb-true b 0xF0 e in
          let n = m.after_F0 u in
          let o = m.most in
          (scalar_high (four b x y z) (omega arith) (omega arith), omega arith)
      by false e true f =
          let u = eqb-true b 0xF4 f in
          let n = m.after_F4 u in
          (scalar_high (four b x y z) (omega arith) (omega arith), omega arith)
      by false e false f =
          let u = eqb-false b 0xF0 e in
          let n = eqb-false b 0xF4 f in
          let o = m.most in
          (scalar_high (four b x y z) (omega arith) (omega arith), omega arith)

  four_on : 0xF0 ≤ b → b ≤ 0xF4 → (s : List ℕ) → goes_on (least_second b to most_second b ∷ trailing ∷ trailing ∷ []) s ≡ true → Front b s
  unfolding goes_on well_formed
  four_on h g [] e = clash e refl
  four_on h g (x ∷ []) e = clash (both_true (narrowed b x) false e).1 refl
  four_on h g (x ∷ y ∷ []) e = clash (both_true (inside trailing y) false (both_true (narrowed b x) (both (inside trailing y) false) e).1).1 refl
  four_on h g (x ∷ y ∷ z ∷ s) e =
      let (i, r) = both_true (narrowed b x) (both (inside trailing y) (both (inside trailing z) (goes_on [] s))) e in
      let (j, q) = both_true (inside trailing y) (both (inside trailing z) (goes_on [] s)) r in
      let (l, left) = both_true (inside trailing z) (goes_on [] s) q in
      let m = second_is b x i in
      let n = range_is 0x80 0xBF y j in
      let o = range_is 0x80 0xBF z l in
      let k = four_good x y z h g m n.0 n.1 o.0 o.1 in
      record {
        value = four b x y z;
        rest = s;
        good = k.0;
        is = ap (λ (t : List ℕ). t ++ s) (four_bytes b x m.least m.most y n.0 n.1 z o.0 o.1 h k.1);
        shorter = omega arith;
        left = left;
      }

  front_of : (s : List ℕ) → goes_on (due table b) s ≡ true → Front b s
  front_of s e = by (ltb b 0x80) refl (ltb b 0xC2) refl (ltb b 0xE0) refl (ltb b 0xF0) refl (leb b 0xF4) refl
    where
      by : (p : Bool) → ltb b 0x80 ≡ p → (q : Bool) → ltb b 0xC2 ≡ q → (r : Bool) → ltb b 0xE0 ≡ r → (t : Bool) → ltb b 0xF0 ≡ t → (u : Bool) → leb b 0xF4 ≡ u → Front b s
      by true f q g r h t k u l = let n = ltb-true b 0x80 f in one_on n s (rw (due_one b n) at e)
      by false f true g r h t k u l = absurd (never_on s (rw (due_none b (ltb-false b 0x80 f) (ltb-true b 0xC2 g)) at e))
      by false f false g true h t k u l =
          let m = ltb-false b 0xC2 g in
          let n = ltb-true b 0xE0 h in
          two_on m n s (rw (due_two b m n) at e)
      by false f false g false h true k u l =
          let m = ltb-false b 0xE0 h in
          let n = ltb-true b 0xF0 k in
          three_on m n s (rw (due_three b m n) at e)
      by false f false g false h false k true l =
          let m = ltb-false b 0xF0 k in
          let n = leb-true b 0xF4 l in
          four_on m n s (rw (due_four b m n) at e)
      by false f false g false h false k false l = absurd (never_on s (rw (due_past b (leb-false b 0xF4 l)) at e))

-- the values, one after the other; n bounds how many bytes are left
pub decoded : (n : ℕ) (s : List ℕ) → length s ≤ n → well_formed s ≡ true → Text s
unfolding well_formed goes_on flat scalars
decoded zero [] h e = record { values = []; good = refl; is = refl }
decoded zero (b ∷ s) h e = absurd (omega arith)
decoded (suc n) [] h e = record { values = []; good = refl; is = refl }
decoded (suc n) (b ∷ s) h e =
    let f = front_of b s e in
    let l = f.shorter in
    let t = decoded n f.rest (omega arith) f.left in
    record {
      values = f.value ∷ t.values;
      good = rw f.good t.good;
      is = ap (λ (u : List ℕ). encoded f.value ++ u) t.is ∙ f.is;
    }
