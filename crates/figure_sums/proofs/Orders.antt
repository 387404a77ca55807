-- The same sums in any order of the lists, and none past 64 bits.
-- Assumes nothing.
use Prim.Native.Nat.{ℕ, suc, ◌+◌, ◌<◌}
use mathlib.Core.Path.{◌≡◌, refl, sym, ap, ◌∙◌}
use mathlib.Core.List.{List}
use native.Mathlib.Omega.{arith}
use lib.ListN.{length, get_or}
use lib.Seq.{ext_get_or}
use Rattle.figure_rules.proofs.Accepted.{read_beside_lem}
use Rattle.figure_sums.specs.Orders.{Given, read_beside, fresh, in_order, share_of, accepted_by, refused_by, total, ExactSums, Permutation, empty, skip, swap, trans, AnyOrder, NonePasses}
use Rattle.figure_sums.proofs.Sums.{list_fits, sums_from, fresh_open, exact_sums}

total_permuted : (f : Given → ℕ) {gs hs : List Given} → Permutation gs hs → total f gs ≡ total f hs
unfolding total
total_permuted f empty = refl
total_permuted f (skip {g = g} r) = ap (λ (m : ℕ). f g + m) (total_permuted f r)
total_permuted f swap = omega arith
total_permuted f (trans r s) = total_permuted f r ∙ total_permuted f s

length_permuted : {gs hs : List Given} → Permutation gs hs → length gs ≡ length hs
length_permuted empty = refl
length_permuted (skip r) = ap suc (length_permuted r)
length_permuted swap = refl
length_permuted (trans r s) = length_permuted r ∙ length_permuted s

pub any_order : AnyOrder
unfolding AnyOrder ExactSums
any_order header n gs hs h r =
    let a = exact_sums header n gs (omega arith) in
    let b = exact_sums header n hs (omega (arith, length_permuted r)) in
    let words = ext_get_or 0 (in_order header gs (fresh n)).words (in_order header hs (fresh n)).words (a.long ∙ sym b.long) (λ k l.
    let m : k < n = omega (arith, a.long) in
    a.figures k m ∙ total_permuted (λ g. get_or (share_of n (read_beside header g)) k 0) r ∙ sym (b.figures k m)) in
    let accepted = a.accepted_are ∙ total_permuted (λ g. accepted_by n (read_beside header g)) r ∙ sym b.accepted_are in
    let refused = a.refused_are ∙ total_permuted (λ g. refused_by (read_beside header g)) r ∙ sym b.refused_are in
    λ j. record { counts = record { accepted = accepted j; refused = refused j }; words = words j }

pub none_passes : NonePasses
unfolding NonePasses
none_passes header n gs h =
    let s = sums_from header n gs (fresh n) (fresh_open n) (omega arith) in
    let counted = s.counted in
    record {
      small = λ k. omega (arith, s.within.bounded k);
      fits = λ g pss e. list_fits n (in_order header gs (fresh n)) s.within (omega arith) _ pss (read_beside_lem header g.list g.entries g.file pss e).small;
    }
