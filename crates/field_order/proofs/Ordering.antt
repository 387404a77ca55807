-- From links to the order of all fields. Assumes nothing.
use Prim.Native.Nat.{ℕ, ◌+◌, ◌*◌, ◌≤◌, ◌<◌}
use mathlib.Core.Path.{◌≡◌, refl, sym, ap, ◌∙◌}
use mathlib.Core.Bool.{true}
use mathlib.Core.List.{List}
use native.Mathlib.Omega.{arith}
use lib.ListN.{length, take}
use Rattle.rows.specs.declared.FieldNumber.{FieldNumber}
use Rattle.std.specs.Prelude.{Option, Some, None}
use Rattle.parents.specs.Parents.{inside, endless, chains_of}
use Rattle.parents.proofs.InsideLaws.{inside_few}
use Rattle.rows.specs.Words.{most_fields}
use Rattle.listing.specs.Entries.{entry_width}
use Rattle.listing.specs.Order.{holder, below, order, order_where}
use Rattle.listing.proofs.OrderLaws.{below_same}
use Rattle.listing.proofs.Front.{front_long, front_few}
use Rattle.field_order.specs.Links.{up_in, LowestFrom, Linked}
use Rattle.field_order.specs.Entered.{Entered}
use Rattle.field_order.proofs.Entering.{entered_none, entered_as}

lowest_same : {up up' : ℕ → ℕ} {n above k r : ℕ} → ((j : ℕ) → j < n → up j ≡ up' j) → LowestFrom up n above k r → LowestFrom up' n above k r
lowest_same same f =
    record {
      most = f.most;
      onward = f.onward;
      none = λ j a b e. f.none j a b (same j (omega (arith, f.most)) ∙ e);
      one = λ l. sym (same _ l) ∙ f.one l;
    }

-- links tell by themselves what each field hangs on
linked_own : {up : ℕ → ℕ} {n : ℕ} {links : List ℕ} → Linked up n 0 links → Linked (up_in links) n 0 links
linked_own {up} {n} {links} l =
    let same : (j : ℕ) → j < n → up j ≡ up_in links j = λ j h. sym (l.held j (omega arith) h) in
    record {
      long = l.long;
      held = λ j a b. refl;
      next = λ j a b. lowest_same same (rw (same j b) at (l.next j a b));
      first = λ g h. lowest_same same (l.first g h);
    }

module _ (parents : List ℕ) (n : ℕ) (fine : inside parents n ≡ true) where
  chains_are : {c : Option FieldNumber} → c ≡ chains_of parents n → endless (take n parents) n n ≡ c
  unfolding chains_of
  chains_are e = sym (rw fine at e)

  module _ (ends : None ≡ chains_of parents n) {links : List ℕ} (linked : Linked (holder (take n parents)) n 0 links) where
    ordered : below (up_in links) n n 0 n ≡ order (take n parents)
    unfolding order
    ordered = rw (front_long parents n fine) (below_same (up_in links) (holder (take n parents)) n (λ j l. linked.held j (omega arith) l) n 0 n)

    pub can_list : (entries : List ℕ) → length entries ≡ entry_width * most_fields
        → Linked (up_in links) n 0 links × ((n ≤ n) × (0 + n ≤ most_fields) × (entry_width * (0 + length (below (up_in links) n n 0 n)) ≤ length entries))
    can_list entries long =
        let few = (inside_few parents n fine).0 in
        let many = front_few parents n fine (chains_are ends) in
        let same = ap length ordered in
        (linked_own linked, (omega arith, omega arith, omega arith))

    pub all_listed : {old new : List ℕ} {r : ℕ} → Entered old 0 new r (below (up_in links) n n 0 n)
        → Entered old 0 new r (order_where (order (take n parents)) (endless (take n parents) n n))
    all_listed e = rw (chains_are ends) (entered_as ordered e)

  -- a chain that never ends
  pub none_listed : {f : FieldNumber} → Some f ≡ chains_of parents n → (old : List ℕ) → Entered old 0 old 0 (order_where (order (take n parents)) (endless (take n parents) n n))
  none_listed ends old = rw (chains_are ends) (entered_none (omega arith))
