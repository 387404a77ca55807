-- The children of a field listed one after the other, by their links. Assumes nothing.
use Prim.Native.Nat.{ℕ, suc, ◌+◌, ◌*◌, ◌-◌, ◌≤◌, ◌<◌}
use mathlib.Core.Path.{◌≡◌, refl, sym, ap, ◌∙◌}
use mathlib.Core.List.{List, [], ◌∷◌, ◌++◌}
use native.Mathlib.Omega.{arith}
use lib.ListN.{length, length-append}
use Rattle.numbers.specs.Rows.{put}
use Rattle.listing.specs.Order.{Entry, joined, below, branch}
use Rattle.listing.proofs.OrderLaws.{joined_room, joined_skip, below_some, below_none, branch_none, branch_some}
use Rattle.field_order.specs.Links.{next_in, first_in, LowestFrom, Linked}
use Rattle.field_order.specs.Entered.{Entered}
use Rattle.field_order.proofs.Entering.{entered_none, entered_as, entered_then, entered_one}

module _ (up : ℕ → ℕ) (n left level above : ℕ) (old : List ℕ) (at : ℕ) where
  -- the fields below k that hang on `above` are listed, each with what hangs on it; k is the next that does, or n
  pub record Walking (entries : List ℕ) (row k : ℕ) : Type 0 where
    pub most : k ≤ n
    pub here : k < n → up k ≡ above
    pub entered : Entered old at entries row (joined (branch up n (left - 1) level above) k)

  abbrev room : Type 0
  room = 2 * (at + length (below up n left level above)) ≤ length old

  -- fields between two that hang on `above` add nothing
  skipped : {k r : ℕ} → LowestFrom up n above k r → joined (branch up n (left - 1) level above) k ≡ joined (branch up n (left - 1) level above) r
  skipped {k} {r} f = sym (joined_skip (branch up n (left - 1) level above) k r f.onward (λ j a b. branch_none up n (left - 1) level above j (f.none j a b)))

  pub none_left : left ≡ 0 → room → Entered old at old at (below up n left level above)
  none_left e r = entered_as (sym (below_none up n left level above e)) (entered_none (omega arith))

  pub walk_starts : {links : List ℕ} → Linked up n 0 links → above ≤ n → room → Walking old at (first_in links above)
  unfolding joined
  walk_starts l a r =
      let f = l.first above a in
      record { most = f.most; here = f.one; entered = entered_as (skipped f) (entered_none (omega arith)) }

  module _ (some : left ≡ 0 → ⊥) where
    all_of_it : length (below up n left level above) ≡ length (joined (branch up n (left - 1) level above) n)
    all_of_it = ap length (below_some up n left level above some)

    module _ {entries : List ℕ} {row k : ℕ} (w : Walking entries row k) where
      one_is : k < n → branch up n (left - 1) level above k ≡ record { field = k; level = level } ∷ below up n (left - 1) (level + 1) k
      one_is l = branch_some up n (left - 1) level above k (w.here l)

      pub walk_room : k < n → room → 2 * (row + 1 + length (below up n (left - 1) (level + 1) k)) ≤ length entries
      walk_room l r =
          let all = all_of_it in
          let part = joined_room (branch up n (left - 1) level above) k n l in
          let one = ap length (one_is l) in
          let ends = w.entered.ends in
          let long = w.entered.long in
          omega arith

      pub walk_turn : {links last : List ℕ} {end : ℕ} → k < n → room → Linked up n 0 links
          → Entered entries row last end (record { field = k; level = level } ∷ below up n (left - 1) (level + 1) k) → Walking last end (next_in links k)
      walk_turn {links} {last} {end} l r linked listed =
          let g = branch up n (left - 1) level above in
          let all = all_of_it in
          let part = joined_room g k n l in
          let both = length-append (joined g k) (g k) in
          let f : LowestFrom up n above (suc k) (next_in links k) = rw (w.here l) at (linked.next k (omega arith) l) in
          let whole : Entered old at last end (joined g k ++ g k) = entered_then (omega arith) w.entered (entered_as (sym (one_is l)) listed) in
          let more : joined g k ++ g k ≡ joined g (suc k) = unfold joined in refl in
          record { most = f.most; here = f.one; entered = entered_as (more ∙ skipped f) whole }

      pub walk_ends : n ≤ k → Entered old at entries row (below up n left level above)
      walk_ends l =
          let end : k ≡ n = omega (arith, w.most) in
          entered_as (ap (joined (branch up n (left - 1) level above)) end ∙ sym (below_some up n left level above some)) w.entered

-- a field, and what hangs on it
pub field_listed : {old new last : List ℕ} {at end : ℕ} (x : Entry) {l : List Entry} → 2 * (at + 1 + length l) ≤ length old
    → new ≡ put old (2 * at) (x.field ∷ x.level ∷ []) → length new ≡ length old → Entered new (at + 1) last end l → Entered old at last end (x ∷ l)
field_listed x room is long listed = entered_then {l = x ∷ []} (omega arith) (entered_one x is long) listed
