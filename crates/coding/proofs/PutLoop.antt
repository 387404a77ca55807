-- A number that is stored byte by byte, in a loop: the bytes that are left to store are those of the rest.
use mathlib.Core.Path.{◌≡◌, refl, sym, ap, ap₂, ◌∙◌}
use mathlib.Core.List.{List}
use Prim.Native.Nat.{ℕ, suc, ◌+◌, ◌-◌, ◌/◌, ◌%◌, ◌<◌, ◌≤◌}
use native.Mathlib.Nat.{add-zero}
use native.Mathlib.Omega.{arith}
use lib.ListN.{length, set, length-set}
use Rattle.coding.specs.Strides.{puts}

-- j of k bytes are stored
pub record Left (k x at : ℕ) (old out : List ℕ) (rest j : ℕ) : Type 0 where
  pub most : j ≤ k
  pub size : length out ≡ length old
  pub same : puts k x at old ≡ puts (k - j) rest (at + j) out

-- one byte stored
turn : (m n r p : ℕ) (d : List ℕ) → m ≡ suc n → puts m r p d ≡ puts n (r / 256) (p + 1) (set d p (r % 256))
unfolding puts
turn m n r p d e = ap (λ (k : ℕ). puts k r p d) e

-- none left
none : (m r p : ℕ) (d : List ℕ) → m ≡ 0 → puts m r p d ≡ d
unfolding puts
none m r p d e = ap (λ (k : ℕ). puts k r p d) e

pub left_next : (k x at : ℕ) (old out : List ℕ) (rest j : ℕ) → Left k x at old out rest j → j < k
    → Left k x at old (set out (at + j) (rest % 256)) (rest / 256) (j + 1)
left_next k x at old out rest j l h =
    let e : k - j ≡ suc (k - (j + 1)) = omega arith in
    let p : at + j + 1 ≡ at + (j + 1) = omega arith in
    record {
      most = omega arith;
      size = length-set out (at + j) (rest % 256) ∙ l.size;
      same = l.same ∙ turn (k - j) (k - (j + 1)) rest (at + j) out e
          ∙ ap (λ (q : ℕ). puts (k - (j + 1)) (rest / 256) q (set out (at + j) (rest % 256))) p;
    }

pub left_all : (k x at : ℕ) (old : List ℕ) → Left k x at old old x 0
left_all k x at old =
    let e : k ≡ k - 0 = omega arith in
    record { most = omega arith; size = refl; same = ap₂ (λ (m q : ℕ). puts m x q old) e (sym (add-zero at)) }

pub left_none : (k x at : ℕ) (old out : List ℕ) (rest j : ℕ) → Left k x at old out rest j → k ≤ j → out ≡ puts k x at old
left_none k x at old out rest j l h = sym (l.same ∙ none (k - j) rest (at + j) out (omega arith))
