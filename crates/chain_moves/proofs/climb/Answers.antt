use mathlib.Core.Path.{refl}
use native.Mathlib.Omega.{arith}
use borrow.Author.Tests.{eq-eqb, ne_eqb}
use Rattle.parents.proofs.Following.{blank_less}
use Rattle.chain_moves.proofs.MovesLaws.{moves_le}
use Rattle.chain_moves.proofs.Climbing.{climb_starts, climb_goes, climb_top, met_depth, climb_met, climb_never}
use Rattle.chain_moves.proofs.climb.Goals as goal

pub loop-f-init : goal.loop-f-init
loop-f-init c = climb_starts _ _ c.requires.inside _ _ _ c.requires.n_le_most_fields.1 c.requires.followed

pub returns-then-up-f : goal.returns-then-up-f
returns-then-up-f c = let both = climb_top _ _ c.requires.inside _ _ _ c.requires.n_le_most_fields.1 _ _ c.loop-f.invariant _ c.requires.known (eq-eqb _ _ c.if-up-f.true) in
    record { value = both.0; followed_2 = both.1 }

pub returns-then-mark-stamp : goal.returns-then-mark-stamp
returns-then-mark-stamp c = let both = climb_never _ _ c.requires.inside _ _ _ c.requires.n_le_most_fields.1 _ _ c.loop-f.invariant _ c.requires.known c.if-mark-stamp.true in
    record { value = both.0; followed_2 = both.1 }

pub overflow_sub-result : goal.overflow_sub-result
overflow_sub-result c = let w = met_depth _ _ c.requires.inside _ _ _ c.requires.n_le_most_fields.1 _ _ c.loop-f.invariant _ c.requires.known c.if-mark-ne0.true c.if-mark-stamp.false in omega arith

pub overflow_add-result : goal.overflow_add-result
overflow_add-result c = let w = met_depth _ _ c.requires.inside _ _ _ c.requires.n_le_most_fields.1 _ _ c.loop-f.invariant _ c.requires.known c.if-mark-ne0.true c.if-mark-stamp.false in
    let m = moves_le c.args.parents.now c.args.n c.loop-f.f in
    let q = c.loop-f.invariant.few in
    omega arith

pub returns-then-mark-ne0 : goal.returns-then-mark-ne0
returns-then-mark-ne0 c = let both = climb_met _ _ c.requires.inside _ _ _ c.requires.n_le_most_fields.1 _ _ c.loop-f.invariant _ c.requires.known c.if-mark-ne0.true c.if-mark-stamp.false _ refl in
    record { value = both.0; followed_2 = both.1 }

pub loop-f-smaller : goal.loop-f-smaller
loop-f-smaller c = let w = c.loop-f.invariant.walk in
    blank_less c.loop-f.marks _ _ _ w.here (let a = w.here in let b = w.long in omega arith) c.if-mark-ne0.false (omega arith)

pub loop-f-preserved : goal.loop-f-preserved
loop-f-preserved c = climb_goes _ _ c.requires.inside _ _ _ c.requires.n_le_most_fields.1 _ _ c.loop-f.invariant (ne_eqb _ _ c.if-up-f.false) c.if-mark-ne0.false
