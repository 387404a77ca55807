-- Laws of the rules of reading, which the proofs of this crate and of those above it cite.
use Prim.Native.Nat.{ℕ, suc, ◌+◌}
use mathlib.Core.Path.{◌≡◌, refl, sym, ap}
use mathlib.Core.Bool.{Bool, true, false}
use mathlib.Core.List.{List}
use native.Mathlib.Omega.{arith}
use lib.ListN.{length}
use lib.Dec.{eqb}
use Rattle.std.specs.Prelude.{Result, Ok, Err, IsErrAnd}
use Rattle.wire.specs.Answers.{as_step, place_step}
use borrow.Author.Tests.{eqb-true}
use Rattle.numbers.specs.Choice.{pick}
use Rattle.numbers.specs.Numbers.{Room, Little}
use Rattle.wire.specs.declared.Fault.{Fault}
use Rattle.wire.specs.declared.Kind.TheVariants.{Number}
use Rattle.wire.specs.Reading.{Step, found, refused, Rule, after, ◌>>=◌, mapped, fault, unless, number, judged, counted, rows_of}

-- what the count of a step's rows says of the step
pub counted_found : {A : Type 0} {n p : ℕ} (x : Step (List A)) → counted x ≡ found n p → (x ≡ found (rows_of x) p) × (length (rows_of x) ≡ n)
counted_found (found rows q) h = (cc, cc)
counted_found (refused f) h = let z : ◌≡◌ {A = ℕ} 0 1 = cc in absurd (omega arith)

pub counted_refused : {A : Type 0} {f : Fault} (x : Step (List A)) → counted x ≡ refused f → x ≡ refused f
counted_refused (found rows q) h = let z : ◌≡◌ {A = ℕ} 0 1 = cc in absurd (omega arith)
counted_refused (refused g) h = cc

-- a verdict that was passed: its test holds, and the verdicts after it were passed too
pub passed : (b : Bool) (k rest : ℕ) → unless b (suc k) rest ≡ 0 → (b ≡ true) × (rest ≡ 0)
passed true k rest e = (refl, e)
passed false k rest e = absurd (omega arith)

-- what a step that was found says of the step before

pub never : {A : Type 0} {B : Type 0} {f : Fault} {a : A} {p : ℕ} → ◌≡◌ {A = Step A} (refused f) (found a p) → B
never e = let z : ◌≡◌ {A = ℕ} 0 1 = cc in absurd (omega arith)

-- a choice between a step and a refusal: the step was taken
pub pick_found : {A : Type 0} (b : Bool) (x : Step A) (f : Fault) (a : A) (p : ℕ) → pick b x (refused f) ≡ found a p → (b ≡ true) × (x ≡ found a p)
pick_found true x f a p e = (refl, e)
pick_found false x f a p e = never e

-- a sequence: the fact P of its result, from that of each of its two parts
module _ {A B : Type 0} (P : B → ℕ → Type 0) (r : Rule A) (k : A → Rule B) (s : List ℕ) (at : ℕ) where
  pub bound : {b : B} {q : ℕ} → ((a : A) (p : ℕ) → r s at ≡ found a p → k a s p ≡ found b q → P b q) → (r >>= k) s at ≡ found b q → P b q
  bound {b} {q} f e = by (r s at) refl e
    where
      by : (x : Step A) → r s at ≡ x → after k s x ≡ found b q → P b q
      by (found a p) h g = f a p h g
      by (refused g) h w = never w

-- a value that was changed
pub record Mapped {A B : Type 0} (f : A → B) (x : Step A) (b : B) (p : ℕ) : Type 0 where
  pub value : A
  pub was : x ≡ found value p
  pub is : b ≡ f value

pub mapped_found : {A B : Type 0} (f : A → B) (x : Step A) {b : B} {p : ℕ} → found b p ≡ mapped f x → Mapped f x b p
mapped_found f (found a q) e = record { value = a; was = cc; is = cc }
mapped_found f (refused g) e = never (sym e)

pub mapped_refused : {A B : Type 0} (f : A → B) (x : Step A) {g : Fault} → refused g ≡ mapped f x → x ≡ refused g
mapped_refused f (found a q) e = never e
mapped_refused f (refused h) e = cc

-- a number whose bytes were found, and one whose bytes are not there
module _ (k : ℕ) {s : List ℕ} {at : ℕ} {r : Bool} (room : Room s at k r) where
  pub number_read : {v : ℕ} → r ≡ true → Little k s at v → found v (at + k) ≡ number k s at
  unfolding number
  number_read there value = rw (← room.is, there, value.there (room.fits there))

  pub number_missing : {f : Fault} → r ≡ false → f ≡ fault 7 Number at → refused f ≡ number k s at
  unfolding number
  number_missing gone named = rw (← room.is, gone, named)

-- a judged number that was found was found before, and has passed its verdict
pub judged_found : (verdict : ℕ → ℕ) (at : ℕ) (x : Step ℕ) {v p : ℕ} → judged verdict at x ≡ found v p → (x ≡ found v p) × (verdict v ≡ 0)
unfolding judged
judged_found verdict at (found w q) {v} {p} e =
    let (good, same) = pick_found (eqb (verdict w) 0) (found w q) (fault (verdict w) Number at) v p e in
    let value : w ≡ v = cc in
    (same, rw value at (eqb-true (verdict w) 0 good))
judged_found verdict at (refused f) e = never e

-- a verdict that was reached on the number that was read
pub judged_read : (verdict : ℕ → ℕ) (at : ℕ) {x : Step ℕ} {v p w : ℕ} → x ≡ found v p → w ≡ verdict v → judged (λ _. w) at (found v p) ≡ judged verdict at x
unfolding judged
judged_read verdict at e is = rw (e, is)

pub judged_missing : (verdict : ℕ → ℕ) (at : ℕ) {x : Step ℕ} {f : Fault} → x ≡ refused f → refused f ≡ judged verdict at x
unfolding judged
judged_missing verdict at e = rw e

-- a refusal that a `?` hands on: the result, and the step that it is
pub handed_on : {A : Type 0} (r : Result A Fault) (f : Fault) → IsErrAnd r (λ e. e ≡ f) → r ≡ Err f
handed_on (Ok x) f h = absurd h
handed_on (Err e) f h = ap Err h

pub passed_on : {A : Type 0} (r : Result (A × ℕ) Fault) (f : Fault) → IsErrAnd r (λ e. e ≡ f) → as_step r ≡ refused f
passed_on r f h = ap as_step (handed_on r f h)

pub place_passed_on : (r : Result ℕ Fault) (f : Fault) → IsErrAnd r (λ e. e ≡ f) → place_step r ≡ refused f
place_passed_on r f h = ap place_step (handed_on r f h)
