-- Parent chains after self-parented fields have been appended.
use Prim.Native.Nat.{ℕ, zero, suc, ◌+◌, ◌≤◌, ◌<◌}
use mathlib.Core.List.{List, ◌++◌}
use mathlib.Core.Bool.{Bool, true, false}
use mathlib.Core.Path.{◌≡◌, refl, sym, ap, ◌∙◌}
use native.Mathlib.Omega.{arith}
use native.Mathlib.Nat.{suc-add, add-zero, add-suc}
use lib.Dec.{eqb, leb}
use borrow.Author.Tests.{eqb-true, eq-eqb, ne_eqb, leb-true, leb-false}
use lib.ListN.{length, get_or, length-append, get_or-append}
use Rattle.numbers.specs.Choice.{pick}
use Rattle.parents.specs.Parents.{Inside, top_level, meets, reaches, all_reach, is_above}
use Rattle.chain_moves.specs.Moves.{total_moves, all_moves}
use Rattle.parents.proofs.ChainLaws.{meets_here, meets_le, reaches_same, is_above_same}
use Rattle.parents.proofs.EndlessLaws.{reach_each, reach_all}
use Rattle.chain_moves.proofs.MovesLaws.{moves_top, moves_settled, moves_same}

-- from a self-parented field no other is reached
above_top : (parents : List ℕ) (k f g : ℕ) → top_level parents g ≡ true → is_above parents k f g ≡ eqb f g
unfolding meets
above_top parents zero f g e = refl
above_top parents (suc k) f g e =
    let same : get_or parents g 0 ≡ g = eqb-true (get_or parents g 0) g e in
    rw (same, above_top parents k f g e) (go (eqb f g))
  where
    go : (b : Bool) → pick b true b ≡ b
    go true = refl
    go false = refl

-- more moves find no more, once the chain has ended
above_more : (parents : List ℕ) (k j f g : ℕ) → reaches parents k g ≡ true → is_above parents (k + j) f g ≡ is_above parents k f g
unfolding meets
above_more parents zero j f g e = above_top parents (0 + j) f g e
above_more parents (suc k) j f g e = go (top_level parents g) refl e (above_more parents k j f (get_or parents g 0))
  where
    go : (b : Bool) → top_level parents g ≡ b → pick b true (reaches parents k (get_or parents g 0)) ≡ true
        → (reaches parents k (get_or parents g 0) ≡ true → is_above parents (k + j) f (get_or parents g 0) ≡ is_above parents k f (get_or parents g 0))
        → is_above parents (suc k + j) f g ≡ is_above parents (suc k) f g
    go true t h later = above_top parents (suc k + j) f g t ∙ sym (above_top parents (suc k) f g t)
    go false t h later = rw (suc-add k j, later h) refl

-- appended fields are self-parented: from number n on, each is its own parent
abbrev pub Tops : List ℕ → ℕ → Type 0
Tops parents n = (f : ℕ) → n ≤ f → f < length parents → get_or parents f 0 ≡ f

module _ (parents new : List ℕ) (closed : Inside parents (length parents)) (reach : all_reach parents (length parents) ≡ true) (tops : Tops (parents ++ new) (length parents)) where
  -- the appended fields change no earlier parent, and so nothing of an earlier chain
  same : (f : ℕ) → f < length parents → get_or parents f 0 ≡ get_or (parents ++ new) f 0
  same f h = sym (get_or-append parents new 0 f h)

  pub reach_appended : all_reach (parents ++ new) (length (parents ++ new)) ≡ true
  reach_appended = reach_all (parents ++ new) (length (parents ++ new)) (λ f h. go f h (leb (suc f) (length parents)) refl)
    where
      go : (f : ℕ) → f < length (parents ++ new) → (b : Bool) → leb (suc f) (length parents) ≡ b
          → reaches (parents ++ new) (length (parents ++ new)) f ≡ true
      go f h true t =
          let less : f < length parents = leb-true (suc f) (length parents) t in
          let more = length-append parents new in
          meets_le (top_level (parents ++ new)) (parents ++ new) (length parents) (length (parents ++ new)) f (omega arith)
          (sym (reaches_same parents (parents ++ new) (length parents) closed same (length parents) f less) ∙ reach_each parents (length parents) f reach less)
      go f h false t =
          let more : length parents < suc f = leb-false (suc f) (length parents) t in
          meets_here (top_level (parents ++ new)) (parents ++ new) (length (parents ++ new)) f (eq-eqb (get_or (parents ++ new) f 0) f (tops f (omega arith) h))

  pub above_appended : (f g : ℕ) → g < length parents → is_above (parents ++ new) (length (parents ++ new)) f g ≡ is_above parents (length parents) f g
  above_appended f g h = sym (is_above_same parents (parents ++ new) (length parents) closed same (length (parents ++ new)) f g h) ∙ ap (λ (k : ℕ). is_above parents k f g) (length-append parents new) ∙ above_more parents (length parents) (length new) f g (reach_each parents (length parents) g reach h)

  -- above an appended field is itself alone
  pub above_new : (f g : ℕ) → length parents ≤ g → g < length (parents ++ new) → is_above (parents ++ new) (length (parents ++ new)) f g ≡ eqb f g
  above_new f g l m = above_top (parents ++ new) (length (parents ++ new)) f g (eq-eqb (get_or (parents ++ new) g 0) g (tops g l m))

  pub not_above : (f g : ℕ) → f < length parents → length parents ≤ g → g < length (parents ++ new)
      → is_above (parents ++ new) (length (parents ++ new)) f g ≡ false
  not_above f g h l m = above_new f g l m ∙ ne_eqb f g (λ e. omega arith)

  -- an appended field is above no earlier one

  stays_below : (k f g : ℕ) → g < length parents → length parents ≤ f → is_above parents k f g ≡ false
  unfolding meets
  stays_below zero f g h l = ne_eqb f g (λ e. omega arith)
  stays_below (suc k) f g h l = rw (ne_eqb f g (λ e. omega arith)) (stays_below k f (get_or parents g 0) (closed g h) l)

  pub never_above : (f g : ℕ) → g < length parents → length parents ≤ f → is_above (parents ++ new) (length (parents ++ new)) f g ≡ false
  never_above f g h l = above_appended f g h ∙ stays_below (length parents) f g h l

  old_total : (m : ℕ) → m ≤ length parents → total_moves (parents ++ new) (length (parents ++ new)) m ≡ total_moves parents (length parents) m
  unfolding total_moves
  old_total zero h = refl
  old_total (suc m) h =
      let more = length-append parents new in
      rw (
        old_total m (omega arith),
        ← moves_same parents (parents ++ new) (length parents) closed same (length (parents ++ new)) m h,
        moves_settled parents (length parents) (length (parents ++ new)) m (omega arith) (reach_each parents (length parents) m reach h),
      )

  all_total : (j : ℕ) → length parents + j ≤ length (parents ++ new)
      → total_moves (parents ++ new) (length (parents ++ new)) (length parents + j) ≡ total_moves parents (length parents) (length parents)
  unfolding total_moves
  all_total zero h = rw add-zero (old_total (length parents) (omega arith))
  all_total (suc j) h =
      let r = all_total j (omega arith) in
      let t = moves_top (parents ++ new) (length (parents ++ new)) (length parents + j) (eq-eqb _ _ (tops (length parents + j) (omega arith) (omega arith))) in
      rw add-suc (omega arith)

  -- the sum of the moves stays
  pub moves_appended : all_moves (parents ++ new) ≡ all_moves parents
  unfolding all_moves
  moves_appended =
      ap (total_moves (parents ++ new) (length (parents ++ new))) (length-append parents new)
      ∙ all_total (length new) (let more = length-append parents new in omega arith)
