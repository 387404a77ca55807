-- The order and the levels of the fields tell their parents.
use Prim.Native.Nat.{ℕ, ◌≤◌, ◌<◌}
use mathlib.Core.Path.{◌≡◌, refl, sym, ap, subst, ◌∙◌}
use mathlib.Core.Logic.{⊎_elim}
use mathlib.Core.Bool.{Bool, true, false}
use mathlib.Core.List.{List, [], ◌∷◌}
use native.Mathlib.Omega.{arith}
use borrow.Author.Tests.{eqb-true}
use lib.Dec.{eqb}
use lib.ListN.{length, get_or}
use lib.Seq.{ext_get_or}
use Rattle.numbers.specs.Choice.{pick}
use Rattle.numbers.proofs.Choice.{which}
use Rattle.parents.specs.Parents.{top_level}
use Rattle.chain_moves.specs.Distances.{Rooted}
use Rattle.listing.specs.Order.{Entry, holder, order}
use Rattle.listing.specs.Listed.{fields_in, times}
use Rattle.numbers.specs.Lists.{Each}
use Rattle.listing.specs.Statements.{open_above, Nested}
use Rattle.listing.proofs.NestedLaws.{parents_shown}
use Rattle.listing.proofs.RankLaws.{as_many}
use Rattle.listing.proofs.Statements.{once_each}

nested_same : (up up' : ℕ → ℕ) (root : ℕ) (path : List ℕ) (l : List Entry) → Nested up root path l → Nested up' root path l → Each (λ x. up x.field ≡ up' x.field) l
nested_same up up' root path [] a b = tt
nested_same up up' root path (x ∷ l) a b = (a.1 ∙ sym b.1, nested_same up up' root (x.field ∷ open_above x.level path) l a.2 b.2)

-- what holds of each field that is listed holds of one that is listed at all
each_listed : (such : ℕ → Type 0) (f : ℕ) (l : List Entry) → Each (λ x. such x.field) l → 1 ≤ times f (fields_in l) → such f
unfolding times
each_listed such f [] w h = absurd (omega arith)
each_listed such f (x ∷ l) w h =
    ⊎_elim (λ t. subst such (eqb-true x.field f t) w.0) (λ t. each_listed such f l w.1 (let r = rw t at h in omega arith)) (which (eqb x.field f))

-- what a field hangs on tells its parent
holder_tells : (a b : List ℕ) → length a ≡ length b → Rooted a → Rooted b → (f : ℕ) → f < length a → holder a f ≡ holder b f → get_or a f 0 ≡ get_or b f 0
holder_tells a b same ra rb f l e = by (top_level a f) (top_level b f) refl refl e
  where
    by : (s t : Bool) → top_level a f ≡ s → top_level b f ≡ t → pick s (length a) (get_or a f 0) ≡ pick t (length b) (get_or b f 0) → get_or a f 0 ≡ get_or b f 0
    by true true p q h = eqb-true (get_or a f 0) f p ∙ sym (eqb-true (get_or b f 0) f q)
    by true false p q h = absurd (let r = rb.fields f (omega arith) in omega arith)
    by false true p q h = absurd (let r = ra.fields f l in omega arith)
    by false false p q h = h

pub order_tells : (a b : List ℕ) → Rooted a → Rooted b → order a ≡ order b → a ≡ b
order_tells a b ra rb e =
    let same : length a ≡ length b = sym (as_many a ra) ∙ ap length e ∙ as_many b rb in
    let other : Nested (holder b) (length a) [] (order a)
    = coe 1 0 (i. Nested (holder b) (same i) [] (e i)) (parents_shown b) in
    let each = nested_same (holder a) (holder b) (length a) [] (order a) (parents_shown a) other in
    ext_get_or 0 a b same
    (λ f l.
    holder_tells a b same ra rb f l
    (each_listed (λ (x : ℕ). holder a x ≡ holder b x) f (order a) each (let o = (once_each a ra).below f l in omega arith)))
