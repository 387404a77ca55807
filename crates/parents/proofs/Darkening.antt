-- A chain climbed to make its fields dark: what holds at each field on the way, and of the marks at the end. Assumes nothing.
use Prim.Native.Nat.{ℕ, zero, suc, ◌≤◌, ◌<◌}
use mathlib.Core.Path.{◌≡◌, refl, sym, ap, ◌∙◌}
use mathlib.Core.Logic.{◌⊎◌, inl, inr, ⊎_elim}
use mathlib.Core.Bool.{true}
use mathlib.Core.List.{List}
use native.Mathlib.Omega.{arith}
use lib.ListN.{length, get_or, set, length-set, replicate, length-replicate}
use lib.Seq.{get_or-set_same}
use Rattle.parents.specs.Parents.{Inside, ancestor, Above, is_above}
use Rattle.parents.specs.Marks.{DarkMarks, Darkened}
use Rattle.numbers.proofs.Choice.{which, clash}
use Rattle.parents.proofs.ChainLaws.{ancestor_next, is_above_iff}
use Rattle.parents.proofs.Following.{at_set}

pub none_marked : (m x : ℕ) → ◌≡◌ {A = ℕ} (get_or (replicate m 0) x 0) 0
none_marked zero x = refl
none_marked (suc m) zero = refl
none_marked (suc m) (suc x) = none_marked m x

pub none_dark : (parents : List ℕ) (n m : ℕ) → n ≤ m → DarkMarks parents (replicate m 0) n
none_dark parents n m h =
    record {
      long = simp length-replicate h;
      bits = λ x l. let r = none_marked m x in omega arith;
      up = λ x l e. absurd (let r = none_marked m x in omega arith);
    }

-- the climb from field has come to f; `old` are the marks before it
pub record Climb (parents old marks : List ℕ) (n field f : ℕ) : Type 0 where
  pub here : f < n
  pub long : n ≤ length marks
  pub bits : (x : ℕ) → x < n → get_or marks x 0 ≤ 1
  pub each : (x : ℕ) → (get_or marks x 0 ≡ get_or old x 0) ⊎ ((get_or marks x 0 ≡ 1) × Above parents x field)
  pub above : Above parents f field
  pub up : (x : ℕ) → x < n → get_or marks x 0 ≡ 1 → (get_or marks (get_or parents x 0) 0 ≡ 1) ⊎ (get_or parents x 0 ≡ f)
  pub root : (get_or marks field 0 ≡ 1) ⊎ (field ≡ f)

-- a 1 stays when a 1 is stored
one_set : (l : List ℕ) (i : ℕ) → i < length l → (x : ℕ) → get_or l x 0 ≡ 1 → get_or (set l i 1) x 0 ≡ 1
one_set l i h x e = ⊎_elim (λ s. s.1) (λ s. s.1 ∙ e) (at_set l i 1 h x)

-- where marks go up and a field is marked, so is its whole chain
all_marked : (parents : List ℕ) (n : ℕ) → Inside parents n → (marks : List ℕ)
    → ((x : ℕ) → x < n → get_or marks x 0 ≡ 1 → get_or marks (get_or parents x 0) 0 ≡ 1)
    → (f : ℕ) → f < n → get_or marks f 0 ≡ 1 → (k : ℕ) → (ancestor parents k f < n) × (get_or marks (ancestor parents k f) 0 ≡ 1)
all_marked parents n inside marks up f l e zero = unfold ancestor in (l, e)
all_marked parents n inside marks up f l e (suc k) =
    let r = all_marked parents n inside marks up f l e k in
    rw (ancestor_next parents k f) (inside _ r.0, up _ r.0 r.1)

module _ (parents : List ℕ) (n : ℕ) (inside : Inside parents n) (old : List ℕ) (field : ℕ) (l₀ : field < n) where
  pub climb_starts : DarkMarks parents old n → Climb parents old old n field field
  unfolding ancestor
  climb_starts d =
      record {
        here = l₀;
        long = d.long;
        bits = d.bits;
        each = λ x. inl refl;
        above = (zero, refl);
        up = λ x l e. inl (d.up x l e);
        root = inr refl;
      }

  pub climb_goes : (marks : List ℕ) (f : ℕ) → Climb parents old marks n field f → get_or marks f 0 ≡ 0
      → Climb parents old (set marks f 1) n field (get_or parents f 0)
  climb_goes marks f c z =
      let l : f < length marks = let a = c.here in let b = c.long in omega arith in
      let at = at_set marks f 1 l in
      record {
        here = inside f c.here;
        long = simp length-set c.long;
        bits = λ x h. ⊎_elim (λ s. let r = s.1 in omega arith) (λ s. let q = s.1 in let r = c.bits x h in omega arith) (at x);
        each = λ x.
            ⊎_elim (λ s. inr (s.1, rw s.0 c.above))
            (λ s. ⊎_elim (λ e. inl (s.1 ∙ e)) (λ e. inr (s.1 ∙ e.0, e.1)) (c.each x))
            (at x);
        above = (suc c.above.0, ancestor_next parents c.above.0 field ∙ ap (λ (y : ℕ). get_or parents y 0) c.above.1);
        up = λ x h e.
            ⊎_elim (λ s. inr (ap (λ (y : ℕ). get_or parents y 0) s.0))
            (λ s.
            inl (⊎_elim (one_set marks f l (get_or parents x 0)) (λ q. rw q (get_or-set_same marks f 1 0 l)) (c.up x h (sym s.1 ∙ e))))
            (at x);
        root = inl (⊎_elim (one_set marks f l field) (λ q. rw q (get_or-set_same marks f 1 0 l)) c.root);
      }

  pub climb_ends : (marks : List ℕ) (f : ℕ) → Climb parents old marks n field f → (get_or marks f 0 ≡ 0 → ⊥) → Darkened parents old marks n field
  climb_ends marks f c nz =
      let top : get_or marks f 0 ≡ 1 = let b = c.bits f c.here in omega arith in
      let up : (x : ℕ) → x < n → get_or marks x 0 ≡ 1 → get_or marks (get_or parents x 0) 0 ≡ 1
      = λ x l e. ⊎_elim (λ q. q) (λ q. rw q top) (c.up x l e) in
      let root : get_or marks field 0 ≡ 1 = ⊎_elim (λ q. q) (λ q. rw q top) c.root in
      let law : (x : ℕ) → (is_above parents n x field ≡ true → Above parents x field) × (Above parents x field → is_above parents n x field ≡ true)
      = λ x. is_above_iff parents n inside x field l₀ in
      record {
        still = record { long = c.long; bits = c.bits; up = up };
        each = λ x.
            ⊎_elim
            (λ t.
            let a = (law x).0 t in
            rw t (ap (λ (y : ℕ). get_or marks y 0) (sym a.1) ∙ (all_marked parents n inside marks up field l₀ root a.0).1))
            (λ u. rw u (⊎_elim (λ e. e) (λ e. clash ((law x).1 e.1) u) (c.each x)))
            (which (is_above parents n x field));
      }
