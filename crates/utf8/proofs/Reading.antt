-- Laws of reading sequence by sequence: one sequence more, ASCII at once, two parts one after the other, and all of the bytes.
use Prim.Native.Nat.{ℕ, zero, suc, ◌+◌, ◌-◌, ◌≤◌, ◌<◌}
use mathlib.Core.Path.{◌≡◌, refl, sym, ap, ◌∙◌}
use mathlib.Core.Bool.{Bool, true, false}
use mathlib.Core.List.{List, [], ◌∷◌, ◌++◌}
use native.Mathlib.Omega.{arith}
use lib.Dec.{ltb}
use lib.ListN.{length, take, drop, length-drop, take-append-drop}
use lib.Seq.{drop-drop, length-take-le, take-length}
use borrow.Author.Tests.{ltb-true, ltb-false}
use Rattle.numbers.specs.Choice.{pick, both}
use Rattle.numbers.proofs.Choice.{both_true}
use Rattle.std.specs.Prelude.{Option, Some, None}
use Rattle.utf8.specs.WellFormed.{Range, inside, table, due, goes_on, well_formed}
use Rattle.utf8.specs.Walking.{ascii, begins, width, sized, reach, read_to, and_then, sound}
use Rattle.utf8.proofs.Rows.{due_one, begins_length}

pub at_is : {p q : ℕ} → Some p ≡ Some q → p ≡ q
at_is e = cc

pub at_not_ill : {A : Type 0} {p : ℕ} → None ≡ Some p → A
at_not_ill e = let z : ◌≡◌ {A = ℕ} 0 1 = cc in absurd (omega arith)

-- what a size tells of the sequence

pub sized_is : {k : ℕ} (w : ℕ) → sized w ≡ Some k → (k ≡ w) × (0 < k)
sized_is zero e = absurd (let z : ◌≡◌ {A = ℕ} 0 1 = cc in omega arith)
sized_is (suc w) e = let f = at_is e in (omega arith, omega arith)

pub sized_not : (w : ℕ) → sized w ≡ None → w ≡ 0
sized_not zero e = refl
sized_not (suc w) e = absurd (let z : ◌≡◌ {A = ℕ} 0 1 = cc in omega arith)

reach_none : (p : ℕ) (s : List ℕ) → reach [] 0 p s ≡ Some p
unfolding reach
reach_none p [] = refl
reach_none p (b ∷ s) = refl

-- the bytes that are due, and what comes after them
reach_due : (rs : List Range) (n p : ℕ) (s : List ℕ) → reach rs n p s ≡ pick (begins rs s) (reach [] (n - length rs) (p + length rs) (drop (length rs) s)) None
unfolding reach begins
reach_due [] n p s =
    let e : n - 0 ≡ n = omega arith in
    let f : p + 0 ≡ p = omega arith in
    rw (e, f)
reach_due (r ∷ rs) n p [] = refl
reach_due (r ∷ rs) n p (b ∷ s) =
    let e : n - 1 - length rs ≡ n - suc (length rs) = omega arith in
    let f : p + 1 + length rs ≡ p + suc (length rs) = omega arith in
    by (reach rs (n - 1) (p + 1) s) _ (inside r b) (reach_due rs (n - 1) (p + 1) s ∙ rw (e, f))
  where
    by : (x y : Option ℕ) (t : Bool) → x ≡ pick (begins rs s) y None → pick t x None ≡ pick (both t (begins rs s)) y None
    by x y true e = e
    by x y false e = refl

-- the sequence in front: how many bytes it has decides
abbrev onwards : ℕ → ℕ → List ℕ → ℕ → Option ℕ
onwards n p s zero = None
onwards n p s (suc k) = reach [] (n - suc k) (p + suc k) (drop (suc k) s)

reach_first : (n p : ℕ) (s : List ℕ) → 0 < n → reach [] n p s ≡ onwards n p s (width s)
unfolding reach width
reach_first zero p s h = absurd (omega arith)
reach_first (suc n) p [] h = refl
reach_first (suc n) p (b ∷ s) h = by (due table b) (begins (due table b) s) refl
  where
    by : (rs : List Range) (t : Bool) → begins rs s ≡ t → reach rs n (p + 1) s ≡ onwards (suc n) p (b ∷ s) (pick t (1 + length rs) 0)
    by rs true e =
        let f : 1 + length rs ≡ suc (length rs) = omega arith in
        let g : suc n - suc (length rs) ≡ n - length rs = omega arith in
        let k : p + suc (length rs) ≡ p + 1 + length rs = omega arith in
        reach_due rs n (p + 1) s ∙ rw (e, f, g, k)
    by rs false e = reach_due rs n (p + 1) s ∙ rw e

-- a sequence lies in the bytes
pub width_fits : (s : List ℕ) → width s ≤ length s
unfolding width
width_fits [] = omega arith
width_fits (b ∷ s) = by (begins (due table b) s) refl
  where
    by : (t : Bool) → begins (due table b) s ≡ t → pick t (1 + length (due table b)) 0 ≤ suc (length s)
    by true e = omega (arith, begins_length (due table b) s e)
    by false e = omega arith

reach_ascii : (p : ℕ) (s t : List ℕ) → ascii s ≡ true → reach [] (length s) p (s ++ t) ≡ Some (p + length s)
unfolding ascii reach
reach_ascii p [] t e = let f : p ≡ p + 0 = omega arith in reach_none p t ∙ ap Some f
reach_ascii p (b ∷ s) t e =
    let (small, rest) = both_true (ltb b 128) (ascii s) e in
    let f : p + 1 + length s ≡ p + suc (length s) = omega arith in
    ap (λ (rs : List Range). reach rs (length s) (p + 1) (s ++ t)) (due_one b (ltb-true b 128 small)) ∙ reach_ascii (p + 1) s t rest ∙ ap Some f

-- the bytes are well-formed exactly when they are read to their end
reach_all : (rs : List Range) (p : ℕ) (s : List ℕ) → goes_on rs s ≡ sound (reach rs (length s) p s)
unfolding goes_on reach
reach_all [] p [] = refl
reach_all [] p (b ∷ s) = reach_all (due table b) (p + 1) s
reach_all (r ∷ rs) p [] = refl
reach_all (r ∷ rs) p (b ∷ s) = let e : suc (length s) - 1 ≡ length s = omega arith in rw e (by (reach rs (length s) (p + 1) s) (inside r b) (reach_all rs (p + 1) s))
  where
    by : {g : Bool} (x : Option ℕ) (t : Bool) → g ≡ sound x → both t g ≡ sound (pick t x None)
    by x true e = e
    by x false e = refl

module _ (s : List ℕ) where
  pub read_all : well_formed s ≡ sound (read_to s 0 (length s))
  unfolding well_formed
  read_all = let e : length s - 0 ≡ length s = omega arith in rw e (reach_all [] 0 s)

  pub read_none : (at end : ℕ) → end ≤ at → read_to s at end ≡ Some at
  read_none at end h = let e : end - at ≡ 0 = omega arith in rw e (reach_none at (drop at s))

  pub read_ill : (at end : ℕ) → at < end → width (drop at s) ≡ 0 → read_to s at end ≡ None
  read_ill at end h e = reach_first (end - at) at (drop at s) (omega arith) ∙ rw e

  pub read_next : (at end k : ℕ) → at < end → k ≡ width (drop at s) → 0 < k → read_to s at end ≡ read_to s (at + k) end
  read_next at end zero h e p = absurd (omega arith)
  read_next at end (suc k) h e p =
      let f : end - at - suc k ≡ end - (at + suc k) = omega arith in
      reach_first (end - at) at (drop at s) (omega arith) ∙ rw (← e, f, drop-drop (suc k) at s)

  pub read_ascii : (at k : ℕ) → at + k ≤ length s → ascii (take k (drop at s)) ≡ true → read_to s at (at + k) ≡ Some (at + k)
  read_ascii at k h e =
      let long : length (take k (drop at s)) ≡ k = length-take-le k (drop at s) (omega (arith, length-drop at s)) in
      let f : at + k - at ≡ k = omega arith in
      rw f (rw (take-append-drop k (drop at s), long) at (reach_ascii at (take k (drop at s)) (drop k (drop at s)) e))

  pub ascii_well_formed : ascii s ≡ true → well_formed s ≡ true
  ascii_well_formed e =
      let f : 0 + length s ≡ length s = omega arith in
      let read : read_to s 0 (0 + length s) ≡ Some (0 + length s) = read_ascii 0 (length s) (omega arith) (rw (take-length s) e) in
      read_all ∙ ap sound (rw f at read)

  -- where a sequence at a place ends, it ends in the bytes
  pub next_fits : (at : ℕ) → at ≤ length s → at + width (drop at s) ≤ length s
  next_fits at h = omega (arith, width_fits (drop at s), length-drop at s)

  -- One sequence after the other, as a principle: what holds where reading stops, where it fails, and of a place if it does of the place after
  -- its sequence, holds everywhere.
  pub by_sequences : (end : ℕ) (P : ℕ → Type 0)
      → ((at : ℕ) → end ≤ at → P at)
      → ((at : ℕ) → at < end → width (drop at s) ≡ 0 → P at)
      → ((at k : ℕ) → at < end → suc k ≡ width (drop at s) → P (at + suc k) → P at)
      → (at : ℕ) → P at
  by_sequences end P stops fails goes at = down end at (omega arith)
    where
      by : (at : ℕ) → ((k : ℕ) → P (at + suc k)) → (t : Bool) → ltb at end ≡ t → (k : ℕ) → k ≡ width (drop at s) → P at
      by at on true e zero f = fails at (ltb-true at end e) (sym f)
      by at on true e (suc k) f = goes at k (ltb-true at end e) f (on k)
      by at on false e k f = stops at (ltb-false at end e)

      down : (n at : ℕ) → end ≤ at + n → P at
      down zero at h = stops at (omega arith)
      down (suc n) at h = by at (λ k. down n (at + suc k) (omega arith)) (ltb at end) refl (width (drop at s)) refl

  -- reading to a place and then on to the end
  pub read_on : (middle end : ℕ) → middle ≤ end → (at : ℕ) → and_then (read_to s at middle) (λ p. read_to s p end) ≡ read_to s at end
  read_on middle end h =
      by_sequences middle (λ at. and_then (read_to s at middle) (λ p. read_to s p end) ≡ read_to s at end)
      (λ at g. rw (read_none at middle g))
      (λ at g e. rw (read_ill at middle g e, read_ill at end (omega arith) e))
      (λ at k g e on. rw (read_next at middle (suc k) g e (omega arith), read_next at end (suc k) (omega arith) e (omega arith)) on)

  -- where it stops: at the end or beyond it, in the bytes
  pub read_stops : (end at p : ℕ) → read_to s at end ≡ Some p → at ≤ length s → (end ≤ p) × (p ≤ length s)
  read_stops end at p = by_sequences end (λ at. read_to s at end ≡ Some p → at ≤ length s → (end ≤ p) × (p ≤ length s)) stops fails goes at
    where
      stops : (at : ℕ) → end ≤ at → read_to s at end ≡ Some p → at ≤ length s → (end ≤ p) × (p ≤ length s)
      stops at h e l = let f : at ≡ p = at_is (sym (read_none at end h) ∙ e) in (omega arith, omega arith)

      fails : (at : ℕ) → at < end → width (drop at s) ≡ 0 → read_to s at end ≡ Some p → at ≤ length s → (end ≤ p) × (p ≤ length s)
      fails at h w e l = at_not_ill (sym (read_ill at end h w) ∙ e)

      goes : (at k : ℕ) → at < end → suc k ≡ width (drop at s) → (read_to s (at + suc k) end ≡ Some p → at + suc k ≤ length s → (end ≤ p) × (p ≤ length s))
          → read_to s at end ≡ Some p → at ≤ length s → (end ≤ p) × (p ≤ length s)
      goes at k h w on e l = on (sym (read_next at end (suc k) h w (omega arith)) ∙ e) (omega (arith, next_fits at l))
