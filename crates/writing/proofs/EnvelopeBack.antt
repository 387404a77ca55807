-- How a reader takes an envelope around a piece.
use Prim.Native.Nat.{ℕ, zero, suc, ◌+◌, ◌-◌, ◌≤◌, ◌<◌}
use mathlib.Core.List.{List, [], ◌∷◌, ◌++◌}
use mathlib.Core.Bool.{Bool, true, false}
use mathlib.Core.Path.{◌≡◌, refl, sym, ap, ◌∙◌}
use native.Mathlib.Omega.{arith}
use lib.Dec.{leb, eqb}
use borrow.Author.Tests.{leb-true, leb-false, lt-leb}
use lib.ListN.{length, take, length-append}
use Rattle.numbers.proofs.Choice.{clash}
use Rattle.numbers.specs.Numbers.{little}
use Rattle.checksum.specs.Crc.{crc32}
use Rattle.wire.specs.Reading.{Step, found, refused, Rule, fault, accepted, unless}
use Rattle.frames.specs.Frames.{closed}
use Rattle.envelope.specs.Envelope.{Versions, versioned, opened, ceiling}
use Rattle.wire.specs.declared.Fault.{Fault}
use Rattle.wire.specs.declared.Kind.TheVariants.{Envelope}
use Rattle.tree.specs.Bytes.{spelled, Stands}
use Rattle.tree.specs.EnvelopeTree.{sealed}
use Rattle.tree.proofs.Place.{length_spelled, stands_left, stands_right, little_spelled}
use Rattle.tree.proofs.Frames.{closed_complete}
use Rattle.tree.proofs.Envelope.{Opened, opens, sealed_parts}
use Rattle.writing.specs.Piece.{Piece, first, pieces, enveloped, tested_first, tested_last}
use Rattle.writing.specs.Promises.{Promised}
use Rattle.writing.proofs.Sure.{Whole, Sure, first_none, unless_none, envelope_sure}
use Rattle.writing.proofs.ReadBack.{At, Found, RefusedBy, Reads}

-- there are no more rows than bytes, where each row has one
pub rows_long : {A : Type 0} (f : List A → A → Piece) → ((done : List A) (a : A) → 1 ≤ (f done a).long) → (rows done : List A)
    → length rows ≤ (pieces f done rows).long
unfolding pieces
rows_long f some [] done = omega arith
rows_long f some (a ∷ rows) done = omega (arith, some done a, rows_long f some rows (done ++ (a ∷ [])))

-- what stands before the checksum
abbrev unsummed : ℕ → ℕ → List ℕ → List ℕ
unsummed version minimum bs = spelled 2 version ++ (spelled 2 minimum ++ bs)

-- versions that a reader of minimum versions up to `supported` accepts
pub record Accepts (supported version minimum : ℕ) : Type 0 where
  pub fits : version < 65536
  pub least : 1 ≤ minimum
  pub order : minimum ≤ version
  pub read : minimum ≤ supported

pub minimum_one : (supported version : ℕ) → 1 ≤ supported → 1 ≤ version → version < 65536 → Accepts supported version 1
minimum_one supported version some order fits = record { fits = fits; least = omega arith; order = order; read = some }

pub first_version : Accepts 1 1 1
first_version = minimum_one 1 1 (omega arith) (omega arith) (omega arith)

-- what a payload's rule is told of them
abbrev pub told : ℕ → ℕ → Versions
told version minimum = record { version = version; strict = eqb version minimum }

-- an envelope that is not too long is opened, and its payload is read
record IsOpened {A : Type 0} (supported : ℕ) (r : Versions → Rule A) (version minimum : ℕ) (bs s : List ℕ) : Type 0 where
  body : At s (4 + length bs) 4 bs
  is : versioned supported r s ≡ closed (eqb version minimum) (4 + length bs) (r (told version minimum) (take (4 + length bs) s) 4)

is_opened : {A : Type 0} (supported : ℕ) (r : Versions → Rule A) (version minimum : ℕ) (bs : List ℕ) → Accepts supported version minimum
    → length (sealed (unsummed version minimum bs)) ≤ ceiling → IsOpened supported r version minimum bs (sealed (unsummed version minimum bs))
is_opened supported r version minimum bs v small =
    let u = unsummed version minimum bs in
    let s = sealed u in
    let n = 4 + length bs in
    let seal = sealed_parts u in
    let b₁ = spelled 2 version in
    let b₂ = spelled 2 minimum in
    let l₁ = length_spelled 2 version in
    let l₂ = length_spelled 2 minimum in
    let long : length u ≡ n = omega (arith, length-append b₁ (b₂ ++ bs), length-append b₂ bs) in
    let whole : length s ≡ length u + 4 = seal.long in
    let second : Stands s 2 (b₂ ++ bs) = rw l₁ at (stands_right b₁ (b₂ ++ bs) seal.stands) in
    let third : Stands s 4 bs = rw l₂ at (stands_right b₂ bs second) in
    let w₁ : little 2 s 0 ≡ version = little_spelled 2 version (omega (arith, v.fits)) (stands_left b₁ (b₂ ++ bs) seal.stands) in
    let w₂ : little 2 s 2 ≡ minimum = little_spelled 2 minimum (omega (arith, v.fits, v.order)) (stands_left b₂ bs second) in
    let sum : crc32 (take n s) ≡ little 4 s n = rw long at (ap crc32 seal.part ∙ sym seal.sum) in
    let o : Opened supported s n =
    record {
      small = small;
      long = omega arith;
      enough = omega arith;
      sum = sum;
      least = omega (arith, w₂, v.least);
      order = omega (arith, w₁, w₂, v.order);
      read = omega (arith, w₂, v.read);
    }
    in
    record {
      body = record { inside = omega arith; stands = third; room = omega arith };
      is = opens supported r s n o ∙ (λ i. closed (eqb (w₁ i) (w₂ i)) n (r (told (w₁ i) (w₂ i)) (take n s) 4));
    }

too_long_lem : {A : Type 0} (supported : ℕ) (r : Versions → Rule A) (s : List ℕ) → ceiling < length s → RefusedBy (versioned supported r s) 1
unfolding versioned opened
too_long_lem supported r s big =
    let no : leb (length s) ceiling ≡ false = lt-leb (length s) ceiling big in
    record { by = fault 1 Envelope 0; is = rw no refl; number = refl }

-- an envelope is taken as its payload is
pub record Takes {A : Type 0} (read : Step A) (x : Piece) (M : A → Type 0) : Type 0 where
  pub sure : Whole x
  pub finds : x.number ≡ 0 → (q : ℕ) × Found read q M
  pub refuses : x.fits ≡ true → (x.number ≡ 0 → ⊥) → RefusedBy read x.number

module _ {A : Type 0} (supported : ℕ) (r : Versions → Rule A) (version minimum : ℕ) (x : Piece) (M : A → Type 0) (v : Accepts supported version minimum) (sure : Sure x) (law : 8 + x.long ≤ ceiling → length (enveloped version minimum x).bytes ≤ ceiling → Reads (enveloped version minimum x).bytes (r (told version minimum)) x M) where
  abbrev bytes : List ℕ
  bytes = (enveloped version minimum x).bytes

  is_long : x.fits ≡ true → length bytes ≡ 8 + x.long
  is_long fits = (envelope_sure version minimum sure).long fits

  fits_small : 8 + x.long ≤ ceiling → x.fits ≡ true → length bytes ≤ ceiling
  fits_small small fits = omega (arith, is_long fits)

  envelope_finds : (enveloped version minimum x).number ≡ 0 → (q : ℕ) × Found (versioned supported r bytes) q M
  envelope_finds good =
      let (short, fine) = unless_none (leb (8 + x.long) ceiling) 0 x.number good in
      let small = leb-true (8 + x.long) ceiling short in
      let size = fits_small small (sure.fits fine) in
      let o = is_opened supported r version minimum x.bytes v size in
      let n = 4 + length x.bytes in
      let got = (law small size).finds n 4 o.body fine in (
        n,
        record {
          value = got.value;
          is = o.is ∙ ap (closed (eqb version minimum) n) got.is ∙ closed_complete (λ f. f) (eqb version minimum) n got.value n (λ _. omega arith);
          means = got.means;
        },
      )

  envelope_refuses : x.fits ≡ true → (b : Bool) → leb (8 + x.long) ceiling ≡ b → (unless b 1 x.number ≡ 0 → ⊥)
      → RefusedBy (versioned supported r bytes) (unless b 1 x.number)
  envelope_refuses fits false e bad = too_long_lem supported r bytes (omega (arith, leb-false (8 + x.long) ceiling e, is_long fits))
  envelope_refuses fits true e bad =
      let small = leb-true (8 + x.long) ceiling e in
      let size = fits_small small fits in
      let o = is_opened supported r version minimum x.bytes v size in
      let n = 4 + length x.bytes in
      let got = (law small size).refuses n 4 o.body fits bad in
      record { by = got.by; is = o.is ∙ ap (closed (eqb version minimum) n) got.is; number = got.number }

  pub envelope_takes : Takes (versioned supported r bytes) (enveloped version minimum x) M
  envelope_takes =
      record {
        sure = envelope_sure version minimum sure;
        finds = envelope_finds;
        refuses = λ fits bad. envelope_refuses fits (leb (8 + x.long) ceiling) refl bad;
      }

-- a test after all others
module _ {A : Type 0} (after : Step A → Step A) (n : ℕ) where
  pub last_takes : {read : Step A} {x : Piece} {M : A → Type 0} → Takes read x M → ((f : Fault) → after (refused f) ≡ refused f)
      → ((a : A) (q : ℕ) → M a → n ≡ 0 → after (found a q) ≡ found a q) → ((a : A) (q : ℕ) → M a → (n ≡ 0 → ⊥) → RefusedBy (after (found a q)) n)
      → Takes (after read) (tested_last x n) M
  last_takes {read} {x} {M} t same good bad =
      record {
        sure = record { fits = λ e. t.sure.fits (first_none x.number n e).0; long = t.sure.long };
        finds = λ e.
            let (e₁, e₂) = first_none x.number n e in
            let (q, got) = t.finds e₁ in
            (q, record { value = got.value; is = ap after got.is ∙ good got.value q got.means e₂; means = got.means });
        refuses = λ fits bad'. go fits x.number refl bad';
      }
    where
      go : x.fits ≡ true → (k : ℕ) → x.number ≡ k → (first k n ≡ 0 → ⊥) → RefusedBy (after read) (first k n)
      go fits zero e bad' =
          let (q, got) = t.finds e in
          let w = bad got.value q got.means bad' in
          record { by = w.by; is = ap after got.is ∙ w.is; number = w.number }
      go fits (suc k) e bad' =
          let w = t.refuses fits (λ z. absurd (omega (arith, e, z))) in
          record { by = w.by; is = ap after w.is ∙ same w.by; number = w.number ∙ e }

-- a test before all others: one that is passed changes nothing, and of what fails it nothing fits
pub tested_takes : {A : Type 0} {read : Step A} {x : Piece} {M : A → Type 0} (n : ℕ) → Takes read x M → Takes read (tested_first true n x) M
tested_takes n t = record { sure = record { fits = t.sure.fits; long = t.sure.long }; finds = t.finds; refuses = t.refuses }

pub unfit_takes : {A : Type 0} {read : Step A} {M : A → Type 0} (x : Piece) → x.fits ≡ false → (x.number ≡ 0 → ⊥) → Takes read x M
unfit_takes x unfit bad =
    record {
      sure = record { fits = λ e. absurd (bad e); long = λ e. clash e unfit };
      finds = λ e. absurd (bad e);
      refuses = λ e. clash e unfit;
    }

-- the promises
pub promised : {A : Type 0} {read : Step A} {x : Piece} {M : A → Type 0} → Takes read x M → Promised x read M
promised {A} {read} {x} {M} t =
    record {
      accepts = λ e. let (q, got) = t.finds e in (got.value, q, got.is, got.means);
      long = λ e. t.sure.long (t.sure.fits e);
      refuses = λ fits bad. let w = t.refuses fits bad in (w.by, w.is, w.number);
      exactly = (λ e. let (q, got) = t.finds e in (t.sure.fits e, rw got.is refl), λ h. go h.0 h.1 x.number refl);
    }
  where
    go : x.fits ≡ true → accepted read ≡ true → (n : ℕ) → x.number ≡ n → n ≡ 0
    go fits acc zero e = refl
    go fits acc (suc n) e =
        let w = t.refuses fits (λ z. absurd (omega (arith, e, z))) in
        let not : accepted read ≡ false = rw w.is refl in
        let z : ◌≡◌ {A = ℕ} 0 1 = cc in
        absurd (omega arith)
