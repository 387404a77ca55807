-- The loop over blocks: its invariant with lemmas for start, turn, refusal and end, and that reading by blocks first changes nothing.
use Prim.Native.Nat.{ℕ, zero, suc, ◌+◌, ◌≤◌, ◌<◌}
use mathlib.Core.Path.{◌≡◌, refl, sym, ap, ◌∙◌}
use mathlib.Core.Bool.{Bool, true, false}
use mathlib.Core.List.{List}
use native.Mathlib.Omega.{arith}
use lib.Dec.{leb}
use lib.ListN.{length}
use borrow.Author.Tests.{leb-true, le-leb, lt-leb}
use Rattle.numbers.specs.Choice.{pick}
use Rattle.std.specs.Prelude.{Option, Some, None}
use Rattle.utf8.specs.WellFormed.{well_formed}
use Rattle.utf8.specs.Walking.{read_to, and_then, blocks_from, sound}
use Rattle.utf8.proofs.Reading.{at_is, at_not_ill, read_all, read_on, read_stops}

-- what the blocks from a place on will answer, with a bound on how many are left
pub record Blocks (s : List ℕ) (size : ℕ) (answer : Option ℕ) (at : ℕ) : Type 0 where
  pub bound : ℕ
  pub enough : length s ≤ at + bound
  pub inside : at ≤ length s
  pub same : answer ≡ blocks_from bound s size at

module _ (s : List ℕ) (size : ℕ) where
  pub blocks_start : (from : ℕ) → from ≤ length s → Blocks s size (blocks_from (length s) s size from) from
  blocks_start from h = record { bound = length s; enough = omega arith; inside = h; same = refl }

  module _ {answer : Option ℕ} {at : ℕ} (b : Blocks s size answer at) where
    one_block : (n : ℕ) → n ≡ b.bound → 0 < size → at + size ≤ length s → {r : Option ℕ} → r ≡ read_to s at (at + size)
        → (m : ℕ) × ((suc m ≡ b.bound) × (answer ≡ and_then r (blocks_from m s size)))
    unfolding blocks_from
    one_block zero e some h f = let l = b.enough in absurd (omega arith)
    one_block (suc m) e some h f = (m, (e, b.same ∙ rw (← e, le-leb (at + size) (length s) h, f)))

    pub blocks_turn : 0 < size → at + size ≤ length s → {r : Option ℕ} {p : ℕ} → r ≡ read_to s at (at + size) → r ≡ Some p → Blocks s size answer p
    blocks_turn some h {p = p} f g =
        let (m, (e, same)) = one_block b.bound refl some h f in
        let (l, k) = read_stops s (at + size) at p (sym f ∙ g) b.inside in
        let n = b.enough in
        record { bound = m; enough = omega arith; inside = k; same = same ∙ ap (λ (y : Option ℕ). and_then y (blocks_from m s size)) g }

    pub blocks_refusal : 0 < size → at + size ≤ length s → {r : Option ℕ} → r ≡ read_to s at (at + size) → r ≡ None → answer ≡ None
    blocks_refusal some h f g = let (m, (e, same)) = one_block b.bound refl some h f in same ∙ ap (λ (y : Option ℕ). and_then y (blocks_from m s size)) g

    pub blocks_end : length s < at + size → answer ≡ Some at
    unfolding blocks_from
    blocks_end h = b.same ∙ last b.bound
      where
        last : (n : ℕ) → blocks_from n s size at ≡ Some at
        last zero = refl
        last (suc n) = rw (lt-leb (at + size) (length s) h)

-- blocks first, and then what is left
module _ (s : List ℕ) (size : ℕ) where
  blocks_on : (n at : ℕ) → and_then (blocks_from n s size at) (λ p. read_to s p (length s)) ≡ read_to s at (length s)
  unfolding blocks_from
  blocks_on zero at = refl
  blocks_on (suc n) at = by (blocks_on n) (leb (at + size) (length s)) refl
    where
      after : ((p : ℕ) → and_then (blocks_from n s size p) (λ q. read_to s q (length s)) ≡ read_to s p (length s)) → (r : Option ℕ)
          → and_then (and_then r (blocks_from n s size)) (λ p. read_to s p (length s)) ≡ and_then r (λ p. read_to s p (length s))
      after on (Some p) = on p
      after on None = refl

      by : ((p : ℕ) → and_then (blocks_from n s size p) (λ q. read_to s q (length s)) ≡ read_to s p (length s)) → (t : Bool) → leb (at + size) (length s) ≡ t
          → and_then (pick t (and_then (read_to s at (at + size)) (blocks_from n s size)) (Some at)) (λ p. read_to s p (length s)) ≡ read_to s at (length s)
      by on true e = after on (read_to s at (at + size)) ∙ read_on s (at + size) (length s) (leb-true (at + size) (length s) e) at
      by on false e = refl

  -- the place they lead to lies in the bytes
  stays : (n at : ℕ) {p : ℕ} → blocks_from n s size at ≡ Some p → at ≤ length s → p ≤ length s
  unfolding blocks_from
  stays zero at e h = let f = at_is e in omega arith
  stays (suc n) at {p} e h = by (λ q. stays n q) (leb (at + size) (length s)) (read_to s at (at + size)) refl e
    where
      by : ((q : ℕ) → blocks_from n s size q ≡ Some p → q ≤ length s → p ≤ length s) → (t : Bool) (r : Option ℕ) → read_to s at (at + size) ≡ r
          → pick t (and_then r (blocks_from n s size)) (Some at) ≡ Some p → p ≤ length s
      by on true (Some q) f e = on q e (read_stops s (at + size) at q f h).1
      by on true None f e = at_not_ill e
      by on false r f e = let g = at_is e in omega arith

-- what is left from a place on decides
abbrev pub Left : List ℕ → ℕ → Type 0
Left s at = (well_formed s ≡ sound (read_to s at (length s))) × (at ≤ length s)

module _ (s : List ℕ) where
  pub left_start : Left s 0
  left_start = (read_all s, omega arith)

  module _ (size n at : ℕ) {r : Option ℕ} (left : Left s at) (b : r ≡ blocks_from n s size at) where
    goes_on_lem : {x : Option ℕ} → r ≡ x → well_formed s ≡ sound (and_then x (λ p. read_to s p (length s)))
    goes_on_lem e = left.0 ∙ ap sound (sym (blocks_on s size n at) ∙ ap (λ (y : Option ℕ). and_then y (λ p. read_to s p (length s))) (sym b ∙ e))

    pub left_blocks : {p : ℕ} → r ≡ Some p → Left s p
    left_blocks e = (goes_on_lem e, stays s size n at (sym b ∙ e) left.1)

    pub left_ill : r ≡ None → well_formed s ≡ false
    left_ill e = goes_on_lem e
