-- What holds of the listing of every accepted header.
use Prim.Native.Nat.{ℕ, zero, suc}
use mathlib.Core.Path.{◌≡◌, sym, ap, subst, ◌∙◌}
use mathlib.Core.Logic.{⊎_elim}
use mathlib.Core.List.{List}
use native.Mathlib.Omega.{arith}
use borrow.Author.Tests.{lt-ltb, le-ltb}
use lib.Dec.{eqb}
use lib.ListN.{length, length-map}
use Rattle.numbers.proofs.Choice.{which}
use Rattle.chain_moves.specs.Moves.{moves}
use Rattle.chain_moves.specs.Distances.{Rooted}
use Rattle.header.specs.Tables.{parents_of}
use Rattle.moves.proofs.Laws.{field_count_lem, header_rooted}
use Rattle.listing.specs.Order.{Entry, below, branch, holder, order}
use Rattle.listing.specs.Listed.{fields_in, numbers_below, children_in}
use Rattle.numbers.specs.Lists.{Each}
use Rattle.listing.specs.Statements.{OnceEach, EachOnce, LevelsAreMoves, SiblingsRise}
use Rattle.listing.proofs.TimesLaws.{each_joined}
use Rattle.listing.proofs.ListedLaws.{Ranked, child_rank}
use Rattle.listing.proofs.RankLaws.{rank, rank_field, ranked, listed_once, as_many, children_listed}

-- where every chain ends

pub once_each : (parents : List ℕ) → Rooted parents → OnceEach (length parents) (fields_in (order parents))
once_each parents rooted =
    record {
      many = length-map (order parents) (λ (x : Entry). x.field) ∙ as_many parents rooted;
      below = λ f l. listed_once parents rooted f ∙ rw (lt-ltb f (length parents) l);
      others = λ f l. listed_once parents rooted f ∙ rw (le-ltb f (length parents) l);
    }

-- what hangs on a field of rank r is at level r
levels_below : (parents : List ℕ) → Ranked (holder parents) (length parents) (rank parents)
    → (left level g : ℕ) → level ≡ rank parents g
    → Each (λ x. x.level ≡ moves parents (length parents) x.field) (below (holder parents) (length parents) left level g)
unfolding below
levels_below parents its zero level g e = tt
levels_below parents its (suc left) level g e =
    each_joined (λ x. x.level ≡ moves parents (length parents) x.field) (branch (holder parents) (length parents) left level g) (length parents)
    (λ k l.
    ⊎_elim
    (λ t.
    let a = child_rank its k g l t in
    let b = rank_field parents k l in
    rw t (omega arith, levels_below parents its left (suc level) k (omega arith)))
    (λ t. rw t tt)
    (which (eqb (holder parents k) g)))

pub order_levels : (parents : List ℕ) → Rooted parents → Each (λ x. x.level ≡ moves parents (length parents) x.field) (order parents)
unfolding order
order_levels parents rooted = let its = ranked parents rooted in levels_below parents its (length parents) 0 (length parents) (sym its.root)

-- in an accepted header

pub each_once : EachOnce
each_once e h p w = rw field_count_lem at (once_each (parents_of h.lists.fields) (header_rooted e w))

pub levels_are_moves : LevelsAreMoves
levels_are_moves e h p w =
    let parents = parents_of h.lists.fields in
    subst (λ (n : ℕ). Each (λ x. x.level ≡ moves parents n x.field) (order parents)) (field_count_lem h.lists.fields) (order_levels parents (header_rooted e w))

pub siblings_rise : SiblingsRise
siblings_rise e h p w g l =
    let parents = parents_of h.lists.fields in
    let n = field_count_lem h.lists.fields in
    children_listed parents (header_rooted e w) g (omega arith) ∙ ap (λ (m : ℕ). children_in (holder parents) g (numbers_below m)) n
