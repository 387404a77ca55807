-- The totals agree exactly where no field is at fault, and a field that is named is the lowest at fault. Assumes nothing.
use Prim.Native.Nat.{ℕ, zero, suc, ◌+◌, ◌<◌}
use mathlib.Core.Path.{◌≡◌, refl, sym, ap, subst, ◌∙◌}
use mathlib.Core.Bool.{Bool, true, false}
use mathlib.Core.List.{List, [], ◌∷◌}
use native.Mathlib.Omega.{arith}
use borrow.Author.Tests.{leb-true}
use lib.ListN.{length, get_or}
use Rattle.numbers.specs.Choice.{pick}
use Rattle.rows.specs.declared.ColumnRow.{ColumnRow}
use Rattle.totals.specs.Totals.{field_agrees, totals}
use Rattle.totals.specs.Statements.{AtFault, AgreeTells, LowestTells}
use Rattle.std.specs.Prelude.{Option, Some, None}
use Rattle.rows.specs.declared.FieldNumber.{FieldNumber}

-- the field that an answer names
abbrev named : Option FieldNumber → ℕ
named None = 0
named (Some f) = f.0

module _ (entries : ℕ) (cs : List ColumnRow) (sums : List ℕ) where
  -- field j of those from number i on agrees
  abbrev Agrees : ℕ → List ℕ → List ℕ → ℕ → Bool
  Agrees i parents flags j = field_agrees entries cs sums (i + j) (get_or parents j 0) (get_or flags j 0)

  -- the first of them, and those after it
  first : (i p w : ℕ) (parents flags : List ℕ) → Agrees i (p ∷ parents) (w ∷ flags) 0 ≡ field_agrees entries cs sums i p w
  first i p w parents flags = let e : i + 0 ≡ i = omega arith in ap (λ (k : ℕ). field_agrees entries cs sums k p w) e

  later : (i p w : ℕ) (parents flags : List ℕ) (j : ℕ) → Agrees i (p ∷ parents) (w ∷ flags) (suc j) ≡ Agrees (suc i) parents flags j
  later i p w parents flags j = let e : i + suc j ≡ suc i + j = omega arith in ap (λ (k : ℕ). field_agrees entries cs sums k (get_or parents j 0) (get_or flags j 0)) e

  -- where the totals agree, each field does
  each : (i : ℕ) (parents flags : List ℕ) → totals entries cs sums i parents flags ≡ None → (j : ℕ) → j < length parents → j < length flags → Agrees i parents flags j ≡ true
  unfolding totals
  each i [] flags e j h g = absurd (omega arith)
  each i (p ∷ parents) [] e j h g = absurd (omega arith)
  each i (p ∷ parents) (w ∷ flags) e j h g = by (each (suc i) parents flags) (field_agrees entries cs sums i p w) refl e j h g
    where
      by : (totals entries cs sums (suc i) parents flags ≡ None → (j : ℕ) → j < length parents → j < length flags → Agrees (suc i) parents flags j ≡ true)
          → (b : Bool) → field_agrees entries cs sums i p w ≡ b → pick b (totals entries cs sums (suc i) parents flags) (Some (record { 0 = i })) ≡ None
          → (j : ℕ) → j < suc (length parents) → j < suc (length flags) → Agrees i (p ∷ parents) (w ∷ flags) j ≡ true
      by rest true a e zero h g = first i p w parents flags ∙ a
      by rest true a e (suc j) h g = later i p w parents flags j ∙ rest e j (omega arith) (omega arith)
      by rest false a e j h g = let z : ◌≡◌ {A = ℕ} 0 1 = cc in absurd (omega arith)

  -- where each field agrees, the totals do
  all : (i : ℕ) (parents flags : List ℕ) → ((j : ℕ) → j < length parents → j < length flags → Agrees i parents flags j ≡ true) → totals entries cs sums i parents flags ≡ None
  unfolding totals
  all i [] flags a = refl
  all i (p ∷ parents) [] a = refl
  all i (p ∷ parents) (w ∷ flags) a =
      let one : field_agrees entries cs sums i p w ≡ true = sym (first i p w parents flags) ∙ a 0 (omega arith) (omega arith) in
      rw one (all (suc i) parents flags (λ j h g. sym (later i p w parents flags j) ∙ a (suc j) (omega arith) (omega arith)))

  -- field f is the one after the k first, which agree, and does not
  record Lowest (i : ℕ) (parents flags : List ℕ) (f : ℕ) : Type 0 where
    k : ℕ
    is : i + k ≡ f
    inside : (k < length parents) × (k < length flags)
    differs : Agrees i parents flags k ≡ false
    lower : (j : ℕ) → j < k → Agrees i parents flags j ≡ true

  lowest : (i : ℕ) (parents flags : List ℕ) (f : ℕ) → totals entries cs sums i parents flags ≡ Some (record { 0 = f }) → Lowest i parents flags f
  unfolding totals
  lowest i [] flags f e = let z : ◌≡◌ {A = ℕ} 0 1 = cc in absurd (omega arith)
  lowest i (p ∷ parents) [] f e = let z : ◌≡◌ {A = ℕ} 0 1 = cc in absurd (omega arith)
  lowest i (p ∷ parents) (w ∷ flags) f e = by (lowest (suc i) parents flags f) (field_agrees entries cs sums i p w) refl e
    where
      by : (totals entries cs sums (suc i) parents flags ≡ Some (record { 0 = f }) → Lowest (suc i) parents flags f)
          → (b : Bool) → field_agrees entries cs sums i p w ≡ b → pick b (totals entries cs sums (suc i) parents flags) (Some (record { 0 = i })) ≡ Some (record { 0 = f })
          → Lowest i (p ∷ parents) (w ∷ flags) f
      by rest true a e =
          let r = rest e in
          let same = r.is in
          let inside = r.inside in
          record {
            k = suc r.k;
            is = omega arith;
            inside = (omega arith, omega arith);
            differs = later i p w parents flags r.k ∙ r.differs;
            lower = below r.k r.lower;
          }
        where
          below : (k : ℕ) → ((j : ℕ) → j < k → Agrees (suc i) parents flags j ≡ true) → (j : ℕ) → j < suc k → Agrees i (p ∷ parents) (w ∷ flags) j ≡ true
          below k l zero h = first i p w parents flags ∙ a
          below k l (suc j) h = later i p w parents flags j ∙ l j (omega arith)
      by rest false a e =
          let same : i ≡ f = ap named e in
          record { k = 0; is = omega arith; inside = (omega arith, omega arith); differs = first i p w parents flags ∙ a; lower = λ j h. absurd (omega arith) }

  from_start : (parents flags : List ℕ) (j : ℕ) → Agrees 0 parents flags j ≡ field_agrees entries cs sums j (get_or parents j 0) (get_or flags j 0)
  from_start parents flags j = let e : 0 + j ≡ j = omega arith in ap (λ (k : ℕ). field_agrees entries cs sums k (get_or parents j 0) (get_or flags j 0)) e

contrary : (b : Bool) → b ≡ true → b ≡ false → ⊥
contrary b t f = let z : true ≡ false = sym t ∙ f in absurd (omega (arith, leb-true 1 0 (sym z)))

sure : (b : Bool) → (b ≡ false → ⊥) → b ≡ true
sure true n = refl
sure false n = absurd (n refl)

pub agree_tells : AgreeTells
agree_tells =
    record {
      none = λ entries cs sums parents flags e i a.
          contrary (field_agrees entries cs sums i (get_or parents i 0) (get_or flags i 0))
          (sym (from_start entries cs sums parents flags i) ∙ each entries cs sums 0 parents flags e i a.listed.0 a.listed.1) a.differs;
      agree = λ entries cs sums parents flags n.
          all entries cs sums 0 parents flags (λ j h g. from_start entries cs sums parents flags j ∙ sure _ (λ d. n j (record { listed = (h, g); differs = d })));
    }

pub lowest_tells : LowestTells
unfolding LowestTells
lowest_tells entries cs sums parents flags f e =
    let r = lowest entries cs sums 0 parents flags f e in
    let same : r.k ≡ f = let is = r.is in omega arith in
    let fault : AtFault entries cs sums parents flags r.k = record { listed = r.inside; differs = sym (from_start entries cs sums parents flags r.k) ∙ r.differs } in (
      subst (AtFault entries cs sums parents flags) same fault,
      λ i h a. contrary (field_agrees entries cs sums i (get_or parents i 0) (get_or flags i 0)) (sym (from_start entries cs sums parents flags i) ∙ r.lower i (omega arith)) a.differs,
    )
