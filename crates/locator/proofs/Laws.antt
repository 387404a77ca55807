-- A locator, and what follows it.
use Prim.Native.Nat.{ℕ, ◌^◌, ◌<◌}
use mathlib.Core.Path.{◌≡◌, refl}
use mathlib.Core.List.{List}
use lib.Dec.{ltb, eqb}
use borrow.Author.Tests.{ltb-true}
use Rattle.wire.specs.Reading.{Step, found, refused, Rule, after, ◌>>=◌, give, number, tested, unless}
use Rattle.wire.proofs.Laws.{passed, judged_found}
use Rattle.locator.specs.declared.Range.{Range}
use Rattle.locator.specs.Locator.{stored_as, in_file, located, locator}

-- what follows a locator, by the locator alone
pub located_by : {A : Type 0} (file size behind : ℕ) (rest : ℕ → ℕ → Rule A) (s : List ℕ) (at : ℕ) → located file size behind rest s at ≡ after (λ r. rest r.size r.offset) s (locator file size behind s at)
unfolding locator
located_by {A} file size behind rest s at = first (tested 4 (stored_as size) s at)
  where
    second : (stored : ℕ) (x : Step ℕ) → after (λ offset. rest stored offset) s x ≡ after (λ (r : Range). rest r.size r.offset) s (after (λ offset. give (record { size = stored; offset = offset })) s x)
    second stored (found o p) = refl
    second stored (refused f) = refl

    first : (x : Step ℕ) → after (λ stored. tested 8 (in_file file stored behind) >>= (λ offset. rest stored offset)) s x ≡ after (λ (r : Range). rest r.size r.offset) s (after (λ stored. tested 8 (in_file file stored behind) >>= (λ offset. give (record { size = stored; offset = offset }))) s x)
    first (found stored p) = second stored (tested 8 (in_file file stored behind) s p)
    first (refused f) = refl

-- a stored size that was found
pub stored_few : (size : ℕ) (s : List ℕ) (at : ℕ) {v p : ℕ} → tested 4 (stored_as size) s at ≡ found v p → v < 2 ^ 31
stored_few size s at {v} e =
    ltb-true v (2 ^ 31) (passed (ltb v (2 ^ 31)) 16 (unless (eqb v size) 17 0) (judged_found (stored_as size) at (number 4 s at) e).1).0
