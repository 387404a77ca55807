-- What stands before the clusters.
use Prim.Native.Nat.{ℕ}
use mathlib.Core.Path.{◌≡◌, refl}
use mathlib.Core.Bool.{Bool}
use mathlib.Core.List.{List, []}
use borrow.Author.Tests.{eqb-true}
use lib.Dec.{eqb}
use lib.ListN.{length}
use Rattle.frames.specs.declared.ListHead.{ListHead}
use Rattle.envelope.specs.Features.{features}
use Rattle.wire.specs.Reading.{Step, found, refused, Rule, after, give, tested, counted, in_item, ◌>>◌}
use Rattle.wire.proofs.Laws.{passed}
use Rattle.frames.specs.Frames.{closed_by, items, list_head, list_count, list_stop}
use Rattle.frames.proofs.Laws.{count_zero, counted_closed}
use Rattle.frames.proofs.Loops.{list_is}
use Rattle.footer.specs.Footer.{names, no_items, empty, after_opening, opening}

none : (n : ℕ) → no_items n ≡ 0 → n ≡ 0
none n e = eqb-true n 0 (passed (eqb n 0) 16 0 e).0

-- a list without items, whose head was read
pub empty_read : (strict : Bool) (s : List ℕ) (at : ℕ) {h : ListHead} {stop : ℕ} → list_head no_items s at ≡ found h stop → counted (empty strict s at) ≡ closed_by (in_item at 0) strict stop (found 0 h.start)
unfolding items
empty_read strict s at {h} {stop} head =
    let z = none h.count (count_zero no_items at (list_count s at (list_stop s at)) head) in
    rw (list_is strict no_items (λ _ _. give (tt {0})) s at head, z) (counted_closed (in_item at 0) strict stop (found [] h.start))

-- a rule whose continuation ends by reading the rest
then_rest : {A B C : Type 0} (s : List ℕ) (rest : Rule C) (k : A → Rule B) (j : A → Rule C) (x : Step A) → ((a : A) (p : ℕ) → j a s p ≡ after (λ _. rest) s (k a s p)) → after j s x ≡ after (λ _. rest) s (after k s x)
then_rest s rest k j (found a p) e = e a p
then_rest s rest k j (refused f) e = refl

-- the rest is read where the opening ends
pub opening_then : {A : Type 0} (checksum : ℕ) (strict : Bool) (rest : Rule A) (s : List ℕ) (at : ℕ) → after_opening checksum strict rest s at ≡ after (λ _. rest) s (opening checksum strict s at)
opening_then {A} checksum strict rest s at =
    let none : Rule (Unit {0}) = give (tt {0}) in
    let one : List (Unit {0}) → Rule (Unit {0}) = λ _. none in
    let two : List (Unit {0}) → Rule (Unit {0}) = λ _. empty strict >> none in
    let three : ℕ → Rule (Unit {0}) = λ _. empty strict >> (empty strict >> none) in
    let four : Unit {0} → Rule (Unit {0}) = λ _. tested 4 (names checksum) >> (empty strict >> (empty strict >> none)) in
    let one' : List (Unit {0}) → Rule A = λ _. rest in
    let two' : List (Unit {0}) → Rule A = λ _. empty strict >> rest in
    let three' : ℕ → Rule A = λ _. empty strict >> (empty strict >> rest) in
    let four' : Unit {0} → Rule A = λ _. tested 4 (names checksum) >> (empty strict >> (empty strict >> rest)) in
    then_rest s rest four four' (features (length s) s at) (λ _ p₁.
    then_rest s rest three three' (tested 4 (names checksum) s p₁) (λ _ p₂.
    then_rest s rest two two' (empty strict s p₂) (λ _ p₃.
    then_rest s rest one one' (empty strict s p₃) (λ _ p₄. refl))))
