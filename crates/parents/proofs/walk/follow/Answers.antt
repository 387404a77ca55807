use Prim.Native.Nat.{ℕ, zero, ◌+◌}
use mathlib.Core.Path.{refl, sym, subst, ◌∙◌}
use native.Mathlib.Omega.{arith}
use borrow.Author.Tests.{eq-eqb, ne_eqb}
use lib.ListN.{set}
use Rattle.numbers.proofs.Choice.{clash}
use Rattle.parents.proofs.ChainLaws.{meets_here}
use Rattle.parents.proofs.Following.{Walk, blank_less, walk_starts, walk_goes, walk_ends, walk_loops}
use Rattle.parents.proofs.walk.follow.Goals as goal

pub loop-f-init : goal.loop-f-init
loop-f-init c = walk_starts _ _ c.requires.inside _ _ c.requires.n_le_most_fields.1 c.requires.marked

pub parent_of-up-requires : goal.parent_of-up-requires
parent_of-up-requires c = let w = c.loop-f.invariant.here in let p = c.requires.n_le_most_fields.0 in omega arith

pub returns-then-up-f : goal.returns-then-up-f
returns-then-up-f c = let r = walk_ends _ _ c.requires.inside _ _ c.requires.n_le_most_fields.1 _ c.loop-f.invariant (zero, meets_here _ _ zero _ (eq-eqb _ _ (sym c.parent_of-up.ensures ∙ c.if-up-f.true))) in
    record { value = sym r.0; marked_2 = λ _. r.1 }

pub returns-then-mark-stamp : goal.returns-then-mark-stamp
returns-then-mark-stamp c = record { value = sym (walk_loops _ _ c.requires.inside _ _ c.requires.n_le_most_fields.1 _ c.loop-f.invariant c.if-mark-stamp.true); marked_2 = λ e. clash e refl }

pub returns-then-mark-ne0 : goal.returns-then-mark-ne0
returns-then-mark-ne0 c = let w = c.loop-f.invariant in
    let r = walk_ends _ _ c.requires.inside _ _ c.requires.n_le_most_fields.1 _ w (w.old _ w.here c.if-mark-ne0.true c.if-mark-stamp.false) in
    record { value = sym r.0; marked_2 = λ _. r.1 }

pub loop-f-smaller : goal.loop-f-smaller
loop-f-smaller c = let w = c.loop-f.invariant in
    blank_less c.loop-f.marks _ _ _ w.here (let a = w.here in let b = w.long in omega arith) c.if-mark-ne0.false (omega arith)

pub loop-f-preserved : goal.loop-f-preserved
loop-f-preserved c = let s = c.args in
    let l = c.loop-f in
    subst (λ (x : ℕ). Walk s.parents.now (set l.marks l.f.0 (s.start.0 + 1)) s.n s.start.0 x) (sym c.parent_of-up.ensures)
    (walk_goes _ _ c.requires.inside _ _ c.requires.n_le_most_fields.1 _ l.invariant (ne_eqb _ _ (λ e. c.if-up-f.false (c.parent_of-up.ensures ∙ e))) c.if-mark-ne0.false)
