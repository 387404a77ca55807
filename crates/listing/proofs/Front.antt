-- The order of the first fields of an array of parents. Assumes nothing.
use Prim.Native.Nat.{ℕ, ◌≤◌}
use mathlib.Core.Path.{◌≡◌, refl}
use mathlib.Core.Bool.{true}
use mathlib.Core.Logic.{⊎_elim}
use mathlib.Core.List.{List}
use native.Mathlib.Omega.{arith}
use lib.ListN.{length, take}
use lib.Seq.{get_or-take, length-take-le}
use Rattle.numbers.proofs.Choice.{which}
use Rattle.rows.specs.Words.{most_fields}
use Rattle.std.specs.Prelude.{Option, Some, None}
use Rattle.rows.specs.declared.FieldNumber.{FieldNumber}
use Rattle.parents.specs.Parents.{Inside, inside, endless}
use Rattle.parents.proofs.InsideLaws.{inside_front, inside_few, inside_is}
use Rattle.parents.proofs.EndlessLaws.{all_reach_iff}
use Rattle.chain_moves.specs.Distances.{Rooted}
use Rattle.listing.specs.Order.{order, order_where, order_of}
use Rattle.listing.proofs.RankLaws.{order_few}

pub order_front : (parents : List ℕ) (n : ℕ) (ys : List ℕ) → n ≤ most_fields → take n parents ≡ ys → length ys ≡ n → Rooted ys → order_of parents n ≡ order ys
unfolding order_of
order_front parents n ys few same count rooted =
    let inner : Inside ys n = λ f l. let r = rooted.fields f (omega arith) in omega arith in
    let ends : endless ys n n ≡ None = rw count at ((all_reach_iff ys (length ys)).0 rooted.ends) in
    rw (inside_front parents n ys few same count inner, same, ends)

-- parents that pass both tests
module _ (parents : List ℕ) (n : ℕ) (fine : inside parents n ≡ true) where
  pub front_long : length (take n parents) ≡ n
  front_long = length-take-le n parents (inside_few parents n fine).1

  module _ (ends : endless (take n parents) n n ≡ None) where
    pub front_rooted : Rooted (take n parents)
    front_rooted =
        let long = front_long in
        record {
          fields = λ f l. let i = inside_is parents n fine f (omega arith) in let e = get_or-take n parents f 0 (omega arith) in omega arith;
          ends = (all_reach_iff (take n parents) (length (take n parents))).1 (rw long ends);
        }

    pub front_few : length (order (take n parents)) ≤ most_fields
    front_few = let few = (inside_few parents n fine).0 in let long = front_long in order_few (take n parents) front_rooted (omega arith)

-- there are never more entries than a header may have fields
pub order_of_few : (parents : List ℕ) (n : ℕ) → length (order_of parents n) ≤ most_fields
unfolding order_of
order_of_few parents n = ⊎_elim (λ t. rw t (by t (endless (take n parents) n n) refl)) (λ t. rw t (omega arith)) (which (inside parents n))
  where
    by : inside parents n ≡ true → (c : Option FieldNumber) → endless (take n parents) n n ≡ c → length (order_where (order (take n parents)) c) ≤ most_fields
    by t None e = front_few parents n t e
    by t (Some f) e = omega arith
