use Prim.Native.Nat.{◌/◌}
use mathlib.Core.Path.{◌≡◌, refl, ap}
use native.Mathlib.Omega.{arith}
use lib.ListN.{length}
use Rattle.stores.proofs.Storing.{stored_none, stored_then, stored_as_lem}
use Rattle.listing_lines.proofs.LineLaws.{first_lines, no_lines, lines_next}
use Rattle.listing_lines.proofs.store.store_lines.Goals as goal

pub loop-i-init : goal.loop-i-init
loop-i-init c = let a = c.args in
    (refl, stored_as_lem (no_lines a.envelope.now a.fields.now a.marks.now a.entries.now) (stored_none _ _))

pub loop-i-preserved : goal.loop-i-preserved
loop-i-preserved c = let a = c.args in
    let l = c.loop-i in
    let next = lines_next a.envelope.now a.fields.now a.marks.now a.entries.now l.i c.line_of.ensures in
    (omega (arith, c.store_line-at.auto, l.invariant.0), stored_as_lem next (stored_then l.invariant.1 c.store_line-at.ensures))

pub shape_of-out : goal.shape_of-out
shape_of-out c = c.loop-i.invariant.0

pub returns : goal.returns
returns c = let a = c.args in
    let all : c.loop-i.i ≡ length a.entries.now / 2 = omega arith in
    stored_as_lem (ap (first_lines a.envelope.now a.fields.now a.marks.now a.entries.now) all) c.loop-i.invariant.1
