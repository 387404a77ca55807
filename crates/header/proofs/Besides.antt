-- What is read beside a header: both envelopes were accepted.
use Prim.Native.Nat.{ℕ, suc, ◌≤◌}
use mathlib.Core.Path.{◌≡◌, refl, ap, ◌∙◌}
use native.Mathlib.Omega.{arith}
use Rattle.wire.specs.Reading.{Step, found, refused}
use Rattle.wire.specs.declared.Fault.{Fault}
use Rattle.header.specs.Header.{Header}
use Rattle.header.specs.Beside.{read, refusal, in_envelope, beside}

-- the header, and what was found beside it
pub record Both {A : Type 0} (r : Header → Step A) (x : Step Header) (a : A) : Type 0 where
  pub header : Header
  pub place : ℕ
  pub reads : x ≡ found header place
  pub stop : ℕ
  pub inner : r header ≡ found a stop

in_envelope_lem : {A : Type 0} (k : ℕ) (x : Step A) (a : A) → in_envelope k x ≡ read a → (q : ℕ) × (x ≡ found a q)
in_envelope_lem k (found b q) a e = let same : b ≡ a = cc in (q, ap (λ y. found y q) same)
in_envelope_lem k (refused f) a e = let z : ◌≡◌ {A = ℕ} 0 1 = cc in absurd (omega arith)

pub both_read : {A : Type 0} (k : ℕ) (r : Header → Step A) (x : Step Header) (a : A) → beside k r x ≡ read a → Both r x a
both_read k r (found h p) a e =
    let (q, inner) = in_envelope_lem k (r h) a e in
    record { header = h; place = p; reads = refl; stop = q; inner = inner }
both_read k r (refused f) a e = let z : ◌≡◌ {A = ℕ} 0 1 = cc in absurd (omega arith)

pub both_read_is : {A : Type 0} (k : ℕ) (r : Header → Step A) (x : Step Header) (a : A) (h : Header) (p q : ℕ) → x ≡ found h p → r h ≡ found a q
    → beside k r x ≡ read a
both_read_is k r x a h p q reads inner = ap (beside k r) reads ∙ ap (in_envelope k) inner

-- a refusal names the header's envelope or the other
pub beside_names : {A : Type 0} (k : ℕ) (r : Header → Step A) (x : Step Header) {j : ℕ} {f : Fault} → beside (suc k) r x ≡ refusal j f → 1 ≤ j
beside_names {A} k r (found h p) {j} {f} e = inner (r h) e
  where
    inner : (y : Step A) → in_envelope (suc k) y ≡ refusal j f → 1 ≤ j
    inner (found a q) w = let z : ◌≡◌ {A = ℕ} 0 1 = cc in absurd (omega arith)
    inner (refused g) w = let same : suc k ≡ j = cc in omega arith
beside_names k r (refused g) {j} e = let same : 1 ≡ j = cc in omega arith
