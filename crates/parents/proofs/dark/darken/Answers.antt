use Prim.Native.Nat.{ℕ}
use mathlib.Core.Path.{sym, subst}
use native.Mathlib.Omega.{arith}
use lib.ListN.{set}
use Rattle.parents.proofs.Following.{blank_less}
use Rattle.parents.proofs.Darkening.{Climb, climb_starts, climb_goes, climb_ends}
use Rattle.parents.proofs.dark.darken.Goals as goal

pub loop-f-init : goal.loop-f-init
loop-f-init c = climb_starts _ _ c.requires.inside _ _ c.requires.n_le_most_fields.1 c.requires.dark_marks

pub returns-then-mark-ne0 : goal.returns-then-mark-ne0
returns-then-mark-ne0 c = climb_ends _ _ c.requires.inside _ _ c.requires.n_le_most_fields.1 _ _ c.loop-f.invariant c.if-mark-ne0.true

pub parent_of-f-requires : goal.parent_of-f-requires
parent_of-f-requires c = let w = c.loop-f.invariant.here in let p = c.requires.n_le_most_fields.0 in omega arith

pub loop-f-smaller : goal.loop-f-smaller
loop-f-smaller c = let i = c.loop-f in
    blank_less i.marks _ _ _ i.invariant.here (let a = i.invariant.here in let b = i.invariant.long in omega arith) c.if-mark-ne0.false (omega arith)

pub loop-f-preserved : goal.loop-f-preserved
loop-f-preserved c = let s = c.args in
    let i = c.loop-f in
    subst (λ (x : ℕ). Climb s.parents.now s.marks.now (set i.marks i.f.0 1) s.n s.field.0 x) (sym c.parent_of-f.ensures)
    (climb_goes _ _ c.requires.inside _ _ c.requires.n_le_most_fields.1 i.marks _ i.invariant c.if-mark-ne0.false)
