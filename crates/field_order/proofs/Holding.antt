-- What a field hangs on, by the parents in front of an array. Assumes nothing.
use Prim.Native.Nat.{ℕ, ◌≤◌, ◌<◌}
use mathlib.Core.Path.{◌≡◌, sym}
use mathlib.Core.List.{List}
use borrow.Author.Tests.{eq-eqb, ne_eqb}
use lib.ListN.{length, get_or, take}
use lib.Seq.{get_or-take, length-take-le}
use Rattle.listing.specs.Order.{holder}

module _ (parents : List ℕ) (n k : ℕ) (long : n ≤ length parents) (l : k < n) where
  pub holder_top : get_or parents k 0 ≡ k → n ≡ holder (take n parents) k
  holder_top e = rw (get_or-take n parents k 0 l, eq-eqb (get_or parents k 0) k e) (sym (length-take-le n parents long))

  pub holder_parent : (get_or parents k 0 ≡ k → ⊥) → get_or parents k 0 ≡ holder (take n parents) k
  holder_parent e = rw (get_or-take n parents k 0 l, ne_eqb (get_or parents k 0) k e)
