-- Laws of the lowest field whose chain never ends. Assumes nothing.
use Prim.Native.Nat.{ℕ, zero, suc, ◌+◌, ◌≤◌, ◌<◌}
use mathlib.Core.Path.{◌≡◌, refl, sym, ap, ◌∙◌}
use mathlib.Core.Logic.{◌↔◌}
use mathlib.Core.Bool.{Bool, true, false}
use mathlib.Core.List.{List}
use native.Mathlib.Omega.{arith}
use native.Mathlib.Numerals.{add-one}
use native.Mathlib.Decide.{le_ind}
use lib.ListN.{length, take}
use lib.Seq.{get_or-take}
use borrow.Author.Count.{below_more}
use Rattle.numbers.specs.Choice.{pick, both}
use Rattle.std.specs.Prelude.{Option, Some, None}
use Rattle.rows.specs.declared.FieldNumber.{FieldNumber}
use Rattle.parents.specs.Parents.{Inside, Reaches, reaches, all_reach, endless_at, or_else, endless}
use Rattle.numbers.proofs.Choice.{clash}
use Rattle.parents.proofs.ChainLaws.{reaches_iff, reaches_same}

-- the field that an answer names
abbrev field_in : Option FieldNumber → ℕ
field_in None = 0
field_in (Some f) = f.0

module _ (parents : List ℕ) (n : ℕ) where
  pub endless_more : (k : ℕ) → endless parents n k ≡ None → reaches parents n k ≡ true → endless parents n (k + 1) ≡ None
  unfolding endless
  endless_more k e r = rw (add-one, e, r)

  -- the first that is found is the answer for every bound above it
  pub endless_found : (f m : ℕ) → endless parents n f ≡ None → reaches parents n f ≡ false → f < m → endless parents n m ≡ endless_at f
  unfolding endless
  endless_found f m e r l = le_ind (λ (j : ℕ). endless parents n j ≡ endless_at f) (rw (e, r)) (λ j _ s. rw s) m l

  -- what the answer says of the chains
  pub record Lowest (m : ℕ) (c : Option FieldNumber) : Type 0 where
    pub ends : c ≡ None → (f : ℕ) → f < m → reaches parents n f ≡ true
    pub never : (f : ℕ) → c ≡ endless_at f → (f < m) × (reaches parents n f ≡ false) × ((g : ℕ) → g < f → reaches parents n g ≡ true)

  step : (m : ℕ) (c : Option FieldNumber) (b : Bool) → reaches parents n m ≡ b → Lowest m c → Lowest (suc m) (or_else c (pick b None (endless_at m)))
  step m None true e l =
      record {
        ends = λ q f h. below_more (λ (g : ℕ). reaches parents n g ≡ true) m (l.ends refl) e f (omega arith);
        never = λ f q. absurd (let z : ◌≡◌ {A = ℕ} 0 1 = cc in omega arith);
      }
  step m None false e l =
      record {
        ends = λ q. absurd (let z : ◌≡◌ {A = ℕ} 0 1 = cc in omega arith);
        never = λ f q.
            let z : m ≡ f = ap field_in q in
            (omega arith, ap (reaches parents n) (sym z) ∙ e, λ g h. l.ends refl g (omega arith));
      }
  step m (Some g) b e l =
      record {
        ends = λ q. absurd (let z : ◌≡◌ {A = ℕ} 0 1 = cc in omega arith);
        never = λ f q. let r = l.never f q in (omega arith, r.1, r.2);
      }

  pub lowest : (m : ℕ) → Lowest m (endless parents n m)
  unfolding endless
  lowest zero = record { ends = λ q f h. absurd (omega arith); never = λ f q. absurd (let z : ◌≡◌ {A = ℕ} 0 1 = cc in omega arith) }
  lowest (suc m) = step m (endless parents n m) (reaches parents n m) refl (lowest m)

-- the unbounded meaning of the two answers
module _ (parents : List ℕ) (n : ℕ) (inside : Inside parents n) where
  pub all_end : endless parents n n ≡ None → (f : ℕ) → f < n → Reaches parents f
  all_end e f l = (reaches_iff parents n inside f l).0 ((lowest parents n n).ends e f l)

  pub one_endless : (f : ℕ) → endless parents n n ≡ endless_at f → (f < n) × (Reaches parents f → ⊥) × ((g : ℕ) → g < f → Reaches parents g)
  one_endless f e =
      let r = (lowest parents n n).never f e in (
        r.0,
        λ s. clash ((reaches_iff parents n inside f r.0).1 s) r.1,
        λ g l. (reaches_iff parents n inside g (let q = r.0 in omega arith)).0 (r.2 g l),
      )

-- the first n of a longer list of parents have the same answer
pub endless_take : (parents : List ℕ) (n : ℕ) → Inside parents n → (k : ℕ) → k ≤ n → endless parents n k ≡ endless (take n parents) n k
unfolding endless
endless_take parents n inside zero h = refl
endless_take parents n inside (suc k) h =
    rw (endless_take parents n inside k (omega arith), reaches_same parents (take n parents) n inside (λ x l. sym (get_or-take n parents x 0 l)) n k h)

all_step : (c : Option FieldNumber) (b a : Bool) (m : ℕ) → (a ≡ true) ↔ (c ≡ None) → (both a b ≡ true) ↔ (or_else c (pick b None (endless_at m)) ≡ None)
all_step None true a m h = rw (h.1 refl) (λ _. refl, λ _. refl)
all_step None false a m h = rw (h.1 refl) (λ e. clash e refl, λ e. absurd (let z : ◌≡◌ {A = ℕ} 0 1 = cc in omega arith))
all_step (Some f) b true m h = (λ _. h.0 refl, λ e. absurd (let z : ◌≡◌ {A = ℕ} 0 1 = cc in omega arith))
all_step (Some f) b false m h = (λ e. clash e refl, λ e. absurd (let z : ◌≡◌ {A = ℕ} 0 1 = cc in omega arith))

pub all_reach_iff : (parents : List ℕ) (m : ℕ) → (all_reach parents m ≡ true) ↔ (endless parents (length parents) m ≡ None)
unfolding all_reach endless
all_reach_iff parents zero = (λ _. refl, λ _. refl)
all_reach_iff parents (suc m) = all_step _ _ _ m (all_reach_iff parents m)

-- every field reaches a self-parented one: each, and all

pub reach_each : (parents : List ℕ) (n f : ℕ) → all_reach parents n ≡ true → f < n → reaches parents (length parents) f ≡ true
reach_each parents n f e = (lowest parents (length parents) n).ends ((all_reach_iff parents n).0 e) f

pub reach_all : (parents : List ℕ) (n : ℕ) → ((f : ℕ) → f < n → reaches parents (length parents) f ≡ true) → all_reach parents n ≡ true
unfolding all_reach
reach_all parents zero h = refl
reach_all parents (suc n) h = rw (reach_all parents n (λ f l. h f (omega arith)), h n (omega arith))
