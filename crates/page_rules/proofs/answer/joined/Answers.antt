use mathlib.Core.Path.{◌≡◌}
use native.Mathlib.Omega.{arith}
use Rattle.coding.proofs.Below.{joined_none, joined_next}
use Rattle.page_rules.proofs.answer.joined.Goals as goal

pub loop-i-init : goal.loop-i-init
loop-i-init c = joined_none

pub loop-i-preserved : goal.loop-i-preserved
loop-i-preserved c = let a = c.args in
    let l = c.loop-i in
    joined_next a.from l.i l.all a.words.now (omega arith) l.invariant

pub returns : goal.returns
returns c = let l = c.loop-i in
    let all_turns : c.args.count ≡ l.i = omega arith in
    rw all_turns l.invariant
