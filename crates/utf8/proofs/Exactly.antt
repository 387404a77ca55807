-- Well-formed bytes are the encodings of one list of scalar values, and of no other.
use Prim.Native.Nat.{ℕ, ◌+◌, ◌/◌, ◌%◌, ◌≤◌, ◌<◌}
use mathlib.Core.Path.{◌≡◌, refl, sym, ap, ap₂, ◌∙◌}
use mathlib.Core.Bool.{true}
use mathlib.Core.List.{List, [], ◌∷◌, ◌++◌}
use native.Mathlib.Omega.{arith}
use lib.Dec.{ltb}
use lib.ListN.{length, get_or, drop}
use borrow.Author.Tests.{lt-ltb, le-ltb}
use Rattle.numbers.specs.Choice.{pick}
use Rattle.numbers.specs.Rows.{flat}
use Rattle.utf8.specs.Scalars.{scalar, scalars, encoded, WellFormedExactly}
use Rattle.numbers.proofs.Choice.{both_true}
use Rattle.utf8.proofs.Bits.{Scalar, scalar_is, by_size, two, three, four, two_is, three_is, four_is}
use Rattle.utf8.proofs.Encodings.{encodings_good}
use Rattle.utf8.proofs.Decoding.{decoded}

-- one list of values only: the first value and the bytes after it can be read off

abbrev value_in : ℕ → List ℕ → ℕ
value_in b s =
    pick (ltb b 0x80) b
    (pick (ltb b 0xE0) (two b (get_or s 1 0))
    (pick (ltb b 0xF0) (three b (get_or s 1 0) (get_or s 2 0))
    (four b (get_or s 1 0) (get_or s 2 0) (get_or s 3 0))))

abbrev size_of : ℕ → ℕ
size_of b = pick (ltb b 0x80) 1 (pick (ltb b 0xE0) 2 (pick (ltb b 0xF0) 3 4))

abbrev Read : ℕ → List ℕ → List ℕ → Type 0
Read c s t = (value_in (get_or t 0 0) t ≡ c) × (drop (size_of (get_or t 0 0)) t ≡ s)

module _ (c : ℕ) (s : List ℕ) (good : Scalar c) where
  read_one : c < 0x80 → Read c s (c ∷ s)
  read_one h = rw (lt-ltb c 0x80 h) (refl, refl)

  read_two : 0x80 ≤ c → c < 0x800 → Read c s ((0xC0 + c / 64) ∷ (0x80 + c % 64) ∷ s)
  read_two h g =
      let b = 0xC0 + c / 64 in
      rw (le-ltb b 0x80 (omega arith), lt-ltb b 0xE0 (omega arith)) (two_is c, refl)

  read_three : 0x800 ≤ c → c < 0x10000 → Read c s ((0xE0 + c / 4096) ∷ (0x80 + c / 64 % 64) ∷ (0x80 + c % 64) ∷ s)
  read_three h g =
      let b = 0xE0 + c / 4096 in
      rw (le-ltb b 0x80 (omega arith), le-ltb b 0xE0 (omega arith), lt-ltb b 0xF0 (omega arith)) (three_is c, refl)

  read_four : 0x10000 ≤ c → Read c s ((0xF0 + c / 262144) ∷ (0x80 + c / 4096 % 64) ∷ (0x80 + c / 64 % 64) ∷ (0x80 + c % 64) ∷ s)
  read_four h =
      let b = 0xF0 + c / 262144 in
      rw (le-ltb b 0x80 (omega arith), le-ltb b 0xE0 (omega arith), le-ltb b 0xF0 (omega arith)) (four_is c, refl)

  read_front : Read c s (encoded c ++ s)
  read_front = by_size c (λ t. Read c s (t ++ s)) read_one read_two read_three read_four

  some_bytes : encoded c ++ s ≡ [] → ⊥
  some_bytes = by_size c (λ t. t ++ s ≡ [] → ⊥) (λ h. none) (λ h g. none) (λ h g. none) (λ h. none)
    where
      none : {b : ℕ} {t : List ℕ} → b ∷ t ≡ [] → ⊥
      none e = let z : ◌≡◌ {A = ℕ} 0 1 = cc in omega arith

one_list : (cs ds : List ℕ) → scalars cs ≡ true → scalars ds ≡ true → flat encoded cs ≡ flat encoded ds → cs ≡ ds
unfolding scalars flat
one_list [] [] p q e = refl
one_list [] (d ∷ ds) p q e = absurd (some_bytes d (flat encoded ds) (scalar_is d (both_true (scalar d) (scalars ds) q).0) (sym e))
one_list (c ∷ cs) [] p q e = absurd (some_bytes c (flat encoded cs) (scalar_is c (both_true (scalar c) (scalars cs) p).0) e)
one_list (c ∷ cs) (d ∷ ds) p q e =
    let (goodC, goodCs) = both_true (scalar c) (scalars cs) p in
    let (goodD, goodDs) = both_true (scalar d) (scalars ds) q in
    let r = read_front c (flat encoded cs) (scalar_is c goodC) in
    let t = read_front d (flat encoded ds) (scalar_is d goodD) in
    let same : c ≡ d = sym r.0 ∙ ap (λ (u : List ℕ). value_in (get_or u 0 0) u) e ∙ t.0 in
    let after : flat encoded cs ≡ flat encoded ds = sym r.1 ∙ ap (λ (u : List ℕ). drop (size_of (get_or u 0 0)) u) e ∙ t.1 in
    ap₂ (λ (x : ℕ) (xs : List ℕ). x ∷ xs) same (one_list cs ds goodCs goodDs after)

pub well_formed_exactly : WellFormedExactly
well_formed_exactly =
    record {
      encodes = λ s. (decoded (length s) s (omega arith), λ t. rw t.is at (encodings_good t.values t.good));
      unique = λ s t u. one_list t.values u.values t.good u.good (t.is ∙ sym u.is);
    }
