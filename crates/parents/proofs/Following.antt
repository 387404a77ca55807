-- A chain followed with marks: what holds at each field on the way, and what the outcome then says. Assumes nothing.
use Prim.Native.Nat.{ℕ, zero, suc, ◌+◌, ◌≤◌, ◌<◌}
use mathlib.Core.Path.{◌≡◌, sym, ◌∙◌}
use mathlib.Core.Logic.{◌⊎◌, inl, inr, ⊎_elim}
use mathlib.Core.Bool.{true, false}
use mathlib.Core.List.{List}
use native.Mathlib.Omega.{arith}
use native.Mathlib.Decide.{ℕ_discrete}
use lib.ListN.{length, get_or, set, length-set, replicate, length-replicate, get_or-replicate}
use lib.Seq.{get_or-set_same, get_or-set_other}
use lib.Dec.{eqb}
use borrow.Author.Tests.{eqb-true, eq-eqb, ne_eqb}
use Rattle.parents.specs.Parents.{Inside, top_level, reaches}
use Rattle.parents.specs.Marks.{Marked}
use Rattle.parents.proofs.Counting.{count, count_more}
use Rattle.numbers.proofs.Choice.{clash, is_false}
use Rattle.parents.proofs.ChainLaws.{meets_zero, meets_up, meets_down, meets_more, settled}

-- a list after a store, at each place
pub at_set : (l : List ℕ) (i v : ℕ) → i < length l → (x : ℕ)
    → ((x ≡ i) × (get_or (set l i v) x 0 ≡ v)) ⊎ ((x ≡ i → ⊥) × (get_or (set l i v) x 0 ≡ get_or l x 0))
at_set l i v h x =
    elim (ℕ_discrete x i) [
      | yes e ↦ inl (e, rw e (get_or-set_same l i v 0 h))
      | no n ↦ inr (n, get_or-set_other l i x v 0 n)
    ]

-- how many of the first n places are not marked
abbrev pub blank : List ℕ → ℕ → ℕ
blank marks n = count (λ x. eqb (get_or marks x 0) 0) n

pub blank_less : (marks : List ℕ) (n f v : ℕ) → f < n → f < length marks → get_or marks f 0 ≡ 0 → (v ≡ 0 → ⊥) → blank (set marks f v) n < blank marks n
blank_less marks n f v l m z nz =
    count_more _ _ n
    (λ x _ e. ⊎_elim (λ s. absurd (nz (sym s.1 ∙ eqb-true _ _ e))) (λ s. eq-eqb _ _ (sym s.1 ∙ eqb-true _ _ e)) (at_set marks f v m x))
    f l (ne_eqb _ _ (λ e. nz (sym (get_or-set_same marks f v 0 m) ∙ e))) (eq-eqb _ _ z)

abbrev pub Ends : List ℕ → ℕ → Type 0
Ends parents x = (k : ℕ) × (reaches parents k x ≡ true)

-- nothing is marked yet
pub marked_none : (parents : List ℕ) (n m : ℕ) → n ≤ m → Marked parents (replicate m 0) n 0
marked_none parents n m h =
    record {
      long = simp length-replicate h;
      low = λ x l. let r = get_or-replicate {A = ℕ} m x 0 0 (omega arith) in omega arith;
      ends = λ x l nz. absurd (nz (get_or-replicate {A = ℕ} m x 0 0 (omega arith)));
    }

-- x was passed on the way to f
pub record Passed (parents : List ℕ) (f x : ℕ) : Type 0 where
  pub inner : top_level parents x ≡ false
  pub back : Ends parents f → Ends parents x
  pub ahead : (k : ℕ) → reaches parents (suc k) x ≡ true → reaches parents k f ≡ true

-- the walk from start has come to f
pub record Walk (parents marks : List ℕ) (n start f : ℕ) : Type 0 where
  pub here : f < n
  pub long : n ≤ length marks
  pub low : (x : ℕ) → x < n → get_or marks x 0 ≤ start + 1
  pub old : (x : ℕ) → x < n → (get_or marks x 0 ≡ 0 → ⊥) → (get_or marks x 0 ≡ start + 1 → ⊥) → Ends parents x
  pub passed : (x : ℕ) → x < n → get_or marks x 0 ≡ start + 1 → Passed parents f x
  pub back : Ends parents f → Ends parents start
  pub ahead : (k : ℕ) → reaches parents k start ≡ true → reaches parents k f ≡ true

module _ (parents : List ℕ) where
  back_up : (f : ℕ) → Ends parents (get_or parents f 0) → Ends parents f
  back_up f e = (suc e.0, meets_up (top_level parents) parents e.0 f e.1)

  ahead_up : (f : ℕ) → top_level parents f ≡ false → (k : ℕ) → reaches parents k f ≡ true → reaches parents k (get_or parents f 0) ≡ true
  ahead_up f t zero e = clash (meets_zero (top_level parents) parents f e) t
  ahead_up f t (suc k) e = meets_more (top_level parents) parents k _ (meets_down (top_level parents) parents k f t e)

  passed_up : (f x : ℕ) → top_level parents f ≡ false → Passed parents f x → Passed parents (get_or parents f 0) x
  passed_up f x t p =
      record { inner = p.inner; back = λ e. p.back (back_up f e); ahead = λ k e. ahead_up f t k (p.ahead k e) }

  passed_new : (f : ℕ) → top_level parents f ≡ false → Passed parents (get_or parents f 0) f
  passed_new f t =
      record { inner = t; back = back_up f; ahead = λ k e. meets_down (top_level parents) parents k f t e }

  -- a field that was passed on the way to itself has a chain that never ends
  never : (f : ℕ) → Passed parents f f → (k : ℕ) → reaches parents k f ≡ true → ⊥
  never f p zero e = clash (meets_zero (top_level parents) parents f e) p.inner
  never f p (suc k) e = never f p k (p.ahead k e)

  module _ (n : ℕ) (inside : Inside parents n) (marks : List ℕ) (start : ℕ) (l₀ : start < n) where
    pub walk_starts : Marked parents marks n start → Walk parents marks n start start
    walk_starts m =
        record {
          here = l₀;
          long = m.long;
          low = λ x h. let r = m.low x h in omega arith;
          old = λ x h z _. (n, m.ends x h z);
          passed = λ x h e. absurd (let r = m.low x h in omega arith);
          back = λ e. e;
          ahead = λ k e. e;
        }

    pub walk_goes : (f : ℕ) → Walk parents marks n start f → top_level parents f ≡ false → get_or marks f 0 ≡ 0
        → Walk parents (set marks f (start + 1)) n start (get_or parents f 0)
    walk_goes f w t z =
        let l : f < length marks = omega arith in
        let at = at_set marks f (start + 1) l in
        record {
          here = inside f w.here;
          long = simp length-set w.long;
          low = λ x h. ⊎_elim (λ s. let r = s.1 in omega arith) (λ s. let q = s.1 in let r = w.low x h in omega arith) (at x);
          old = λ x h nz ns. ⊎_elim (λ s. absurd (ns s.1)) (λ s. w.old x h (λ e. nz (s.1 ∙ e)) (λ e. ns (s.1 ∙ e))) (at x);
          passed = λ x h e. ⊎_elim (λ s. rw s.0 (passed_new f t)) (λ s. passed_up f x t (w.passed x h (sym s.1 ∙ e))) (at x);
          back = λ e. w.back (back_up f e);
          ahead = λ k e. ahead_up f t k (w.ahead k e);
        }

    pub walk_ends : (f : ℕ) → Walk parents marks n start f → Ends parents f → (reaches parents n start ≡ true) × Marked parents marks n (start + 1)
    walk_ends f w e =
        let ended : (x : ℕ) → x < n → Ends parents x → reaches parents n x ≡ true
        = λ x l r. settled (top_level parents) parents n inside r.0 x l r.1 in (
          ended start l₀ (w.back e),
          record {
            long = w.long;
            low = w.low;
            ends = λ x l nz.
                ended x l (elim (ℕ_discrete (get_or marks x 0) (start + 1)) [ yes s ↦ (w.passed x l s).back e | no s ↦ w.old x l nz s ]);
          },
        )

    pub walk_loops : (f : ℕ) → Walk parents marks n start f → get_or marks f 0 ≡ start + 1 → reaches parents n start ≡ false
    walk_loops f w e = is_false _ (λ r. never f (w.passed f w.here e) n (w.ahead n r))
