-- The links of fields, made from the last field down. Assumes nothing.
use Prim.Native.Nat.{ℕ, suc, ◌+◌, ◌*◌, ◌-◌, ◌≤◌, ◌<◌}
use mathlib.Core.Path.{◌≡◌, refl, sym, ap, subst, ◌∙◌}
use mathlib.Core.List.{List}
use native.Mathlib.Omega.{arith}
use native.Mathlib.Decide.{ℕ_discrete, dec_le}
use lib.ListN.{length, get_or, set, length-set, replicate, length-replicate, get_or-replicate}
use lib.Seq.{get_or-set_same, get_or-set_other}
use Rattle.field_order.specs.Links.{up_in, next_in, first_in, LowestFrom, Linked}

module _ {up : ℕ → ℕ} {n above k : ℕ} where
  pub lowest_hit : k < n → up k ≡ above → LowestFrom up n above k k
  lowest_hit l e = record { most = omega arith; onward = omega arith; none = λ j a b _. absurd (omega arith); one = λ _. e }

  lowest_miss : {r : ℕ} → (up k ≡ above → ⊥) → LowestFrom up n above (suc k) r → LowestFrom up n above k r
  lowest_miss not f =
      record {
        most = f.most;
        onward = omega (arith, f.onward);
        none = λ j a b. elim (dec_le (suc k) j) [ yes l ↦ f.none j l b | no l ↦ (λ e. let same : j ≡ k = omega arith in not (sym (ap up same) ∙ e)) ];
        one = f.one;
      }

-- no field is linked yet
pub linked_none : (up : ℕ → ℕ) (n m : ℕ) → 3 * n + 3 ≤ m → Linked up n n (replicate m n)
linked_none up n m room =
    let long = length-replicate {A = ℕ} m n in
    record {
      long = omega arith;
      held = λ j a b. absurd (omega arith);
      next = λ j a b. absurd (omega arith);
      first = λ g l.
          let is : first_in (replicate m n) g ≡ n = get_or-replicate m (3 * g + 2) n 0 (omega arith) in
          rw is (record { most = omega arith; onward = omega arith; none = λ j a b _. absurd (omega arith); one = λ b. absurd (omega arith) });
    }

-- field k is linked, where those above it are: it hangs on `above`, of which it is then the first
module _ (up : ℕ → ℕ) (n k : ℕ) (links : List ℕ) (below : k < n) (before : Linked up n (suc k) links) (inside : up k ≤ n) where
  abbrev held_by : List ℕ
  held_by = set links (3 * k) (up k)

  abbrev linked_to : List ℕ
  linked_to = set held_by (3 * k + 1) (first_in held_by (up k))

  abbrev done : List ℕ
  done = set linked_to (3 * up k + 2) k

  long_one : length held_by ≡ length links
  long_one = length-set links (3 * k) (up k)

  long_two : length linked_to ≡ length links
  long_two = length-set held_by (3 * k + 1) (first_in held_by (up k)) ∙ long_one

  -- what stands elsewhere is as it was
  elsewhere : (i : ℕ) → (i ≡ 3 * k → ⊥) → (i ≡ 3 * k + 1 → ⊥) → (i ≡ 3 * up k + 2 → ⊥) → get_or done i 0 ≡ get_or links i 0
  elsewhere i a b c =
      get_or-set_other linked_to (3 * up k + 2) i k 0 c ∙ get_or-set_other held_by (3 * k + 1) i (first_in held_by (up k)) 0 b ∙ get_or-set_other links (3 * k) i (up k) 0 a

  held_here : up_in done k ≡ up k
  held_here =
      let room = before.long in
      get_or-set_other linked_to (3 * up k + 2) (3 * k) k 0 (λ e. absurd (omega arith))
      ∙ get_or-set_other held_by (3 * k + 1) (3 * k) (first_in held_by (up k)) 0 (λ e. absurd (omega arith))
      ∙ get_or-set_same links (3 * k) (up k) 0 (omega arith)

  next_here : next_in done k ≡ first_in links (up k)
  next_here =
      let room = before.long in
      let long = long_one in
      get_or-set_other linked_to (3 * up k + 2) (3 * k + 1) k 0 (λ e. absurd (omega arith))
      ∙ get_or-set_same held_by (3 * k + 1) (first_in held_by (up k)) 0 (omega arith)
      ∙ get_or-set_other links (3 * k) (3 * up k + 2) (up k) 0 (λ e. absurd (omega arith))

  first_here : first_in done (up k) ≡ k
  first_here =
      let room = before.long in
      let long = long_two in
      get_or-set_same linked_to (3 * up k + 2) k 0 (omega arith)

  -- what holds of each field from k on, where it holds of k and of those above it
  from_here : (P : ℕ → Type 0) → P k → ((j : ℕ) → suc k ≤ j → j < n → P j) → (j : ℕ) → k ≤ j → j < n → P j
  from_here P here more j l m = elim (ℕ_discrete j k) [ yes e ↦ subst P (sym e) here | no e ↦ more j (omega arith) m ]

  linked_more : Linked up n k done
  linked_more =
      record {
        long = let room = before.long in let l = length-set linked_to (3 * up k + 2) k in let m = long_two in omega arith;
        held = from_here (λ j. up_in done j ≡ up j) held_here
            (λ j l m. elsewhere (3 * j) (λ e. absurd (omega arith)) (λ e. absurd (omega arith)) (λ e. absurd (omega arith)) ∙ before.held j l m);
        next = from_here (λ j. LowestFrom up n (up j) (suc j) (next_in done j)) (rw next_here (before.first (up k) inside))
            (λ j l m. rw (elsewhere (3 * j + 1) (λ e. absurd (omega arith)) (λ e. absurd (omega arith)) (λ e. absurd (omega arith))) (before.next j l m));
        first = λ g l.
            elim (ℕ_discrete g (up k)) [
              | yes e ↦ subst (λ (a : ℕ). LowestFrom up n a k (first_in done a)) (sym e) (rw first_here (lowest_hit below refl))
              | no e ↦
                  rw (elsewhere (3 * g + 2) (λ x. absurd (omega arith)) (λ x. absurd (omega arith)) (λ x. absurd (omega (arith, e (omega arith)))))
                  (lowest_miss (λ x. e (sym x)) (before.first g l))
            ];
      }

-- the same as the loop has it, which comes down from field j
pub linked_turn : (up : ℕ → ℕ) (n j above : ℕ) (links : List ℕ) → 0 < j → j ≤ n → above ≡ up (j - 1) → above ≤ n → Linked up n j links
    → Linked up n (j - 1) (set (set (set links (3 * (j - 1)) above) (3 * (j - 1) + 1) (first_in (set links (3 * (j - 1)) above) above)) (3 * above + 2) (j - 1))
linked_turn up n j above links some l e inside before =
    let last : j ≡ suc (j - 1) = omega arith in
    rw e (linked_more up n (j - 1) links (omega arith) (subst (λ (m : ℕ). Linked up n m links) last before) (omega arith))

-- all fields are linked
pub linked_all : {up : ℕ → ℕ} {n k : ℕ} {links : List ℕ} → Linked up n k links → k ≤ 0 → Linked up n 0 links
linked_all {up} {n} {k} {links} l none = let end : k ≡ 0 = omega arith in subst (λ (j : ℕ). Linked up n j links) end l
