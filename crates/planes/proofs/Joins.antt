-- The turns of the loops through a plane: one byte joined, and eight.
-- Assumes nothing.
use mathlib.Core.Path.{◌≡◌, refl, sym, ap, ◌∙◌, subst}
use mathlib.Core.List.{List}
use Prim.Native.Nat.{ℕ, ◌+◌, ◌<◌, ◌≤◌}
use native.Mathlib.Numerals.{add-one}
use native.Mathlib.Omega.{arith}
use lib.ListN.{length, take, get_or, length-set}
use Rattle.planes.specs.Plane.{joined_by}
use Rattle.planes.specs.Join.{joins, join_at, join_two, join_four, join_eight}
use Rattle.planes.proofs.Joined.{joined_more}

-- the first i bytes are joined
abbrev pub Joined : ℕ → ℕ → List ℕ → List ℕ → ℕ → List ℕ → Type 0
Joined u keep plane old i out = (out ≡ joined_by (joins u keep) (take i plane) old) × (length out ≡ length old)

pub joined_start : (u keep : ℕ) (plane old : List ℕ) → Joined u keep plane old 0 old
unfolding joined_by
joined_start u keep plane old = (refl, refl)

module _ (u keep : ℕ) (plane old : List ℕ) (room : length plane ≤ length old) where
  pub join_next : (i b : ℕ) (out : List ℕ) → Joined u keep plane old i out → i < length plane → b ≡ get_or plane i 0 → Joined u keep plane old (i + 1) (join_at u keep b i out)
  join_next i b out j h e =
      let l : List ℕ = joined_by (joins u keep) (take i plane) old in (
        ap (λ (o : List ℕ). join_at u keep b i o) j.0 ∙ ap (λ (c : ℕ). join_at u keep c i l) e
            ∙ joined_more (joins u keep) plane old i h (omega arith)
            ∙ ap (λ (m : ℕ). joined_by (joins u keep) (take m plane) old) (sym (add-one i)),
        length-set out i (joins u keep b (get_or out i 0)) ∙ j.1,
      )

  join_two_lem : (i a b : ℕ) (out : List ℕ) → Joined u keep plane old i out → i + 2 ≤ length plane → a ≡ get_or plane i 0 → b ≡ get_or plane (i + 1) 0
      → Joined u keep plane old (i + 2) (join_two u keep a b i out)
  unfolding join_two
  join_two_lem i a b out j h ea eb =
      let e : i + 1 + 1 ≡ i + 2 = omega arith in
      subst (λ (m : ℕ). Joined u keep plane old m (join_at u keep b (i + 1) (join_at u keep a i out))) e
      (join_next (i + 1) b (join_at u keep a i out) (join_next i a out j (omega arith) ea) (omega arith) eb)

  join_four_lem : (i a b c d : ℕ) (out : List ℕ) → Joined u keep plane old i out → i + 4 ≤ length plane
      → a ≡ get_or plane i 0 → b ≡ get_or plane (i + 1) 0 → c ≡ get_or plane (i + 2) 0 → d ≡ get_or plane (i + 3) 0
      → Joined u keep plane old (i + 4) (join_four u keep a b c d i out)
  unfolding join_four
  join_four_lem i a b c d out j h ea eb ec ed =
      let e : i + 2 + 2 ≡ i + 4 = omega arith in
      let q : i + 3 ≡ i + 2 + 1 = omega arith in
      subst (λ (m : ℕ). Joined u keep plane old m (join_two u keep c d (i + 2) (join_two u keep a b i out))) e
      (join_two_lem (i + 2) c d (join_two u keep a b i out) (join_two_lem i a b out j (omega arith) ea eb) (omega arith) ec (ed ∙ ap (λ (m : ℕ). get_or plane m 0) q))

  -- the byte e places on
  abbrev pub byte : ℕ → ℕ → ℕ
  byte i e = get_or plane (i + e) 0

  pub join_eight_lem : (i a b c d e f g h : ℕ) (out : List ℕ) → Joined u keep plane old i out → i + 8 ≤ length plane
      → a ≡ get_or plane i 0 → b ≡ byte i 1 → c ≡ byte i 2 → d ≡ byte i 3 → e ≡ byte i 4 → f ≡ byte i 5 → g ≡ byte i 6 → h ≡ byte i 7
      → Joined u keep plane old (i + 8) (join_eight u keep a b c d e f g h i out)
  unfolding join_eight
  join_eight_lem i a b c d e f g h out j l ea eb ec ed ee ef eg eh =
      let s : i + 4 + 4 ≡ i + 8 = omega arith in
      let at : (k : ℕ) → i + (4 + k) ≡ i + 4 + k = λ k. omega arith in
      let on : (k : ℕ) → get_or plane (i + (4 + k)) 0 ≡ get_or plane (i + 4 + k) 0 = λ k. ap (λ (m : ℕ). get_or plane m 0) (at k) in
      subst (λ (m : ℕ). Joined u keep plane old m (join_four u keep e f g h (i + 4) (join_four u keep a b c d i out))) s
      (join_four_lem (i + 4) e f g h (join_four u keep a b c d i out) (join_four_lem i a b c d out j (omega arith) ea eb ec ed) (omega arith)
      ee (ef ∙ on 1) (eg ∙ on 2) (eh ∙ on 3))
