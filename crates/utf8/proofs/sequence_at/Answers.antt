use Prim.Native.Nat.{◌+◌, ◌<◌}
use mathlib.Core.Path.{◌≡◌, sym, ap, ◌∙◌}
use mathlib.Core.Bool.{true}
use lib.Dec.{ltb}
use lib.ListN.{drop}
use borrow.Author.Tests.{lt-ltb, le-ltb}
use Rattle.numbers.specs.Choice.{pick, both}
use Rattle.utf8.specs.Walking.{width, sized}
use Rattle.utf8.proofs.Places.{first, continues, second_told, width_one, width_none, width_past, width_two, width_long}
use native.Mathlib.Omega.{arith}
use Rattle.utf8.proofs.sequence_at.Goals.{then-first-lt224-2-via-then-first-lt224-2, then-first-lt224-2-via-else-first-lt224-2+then-first-gt244, else-first-ge-LEAST_OF_TWO-via-then-first-ge-LEAST_OF_TWO+else-first-lt224, else-first-ge-LEAST_OF_TWO-via-else-first-ge-LEAST_OF_TWO}
use Rattle.utf8.proofs.sequence_at.Goals as goal

pub returns-then-first-lt128 : goal.returns-then-first-lt128
returns-then-first-lt128 c = ap sized (sym (width_one _ _ c.requires c.if-first-lt128.true))

pub returns-then-byte_in : goal.returns-then-byte_in
returns-then-byte_in c = sym (ap sized (width_two _ _ c.requires c.if-first-ge-LEAST_OF_TWO.true c.if-first-lt224.true) ∙ rw (← c.byte_in.ensures, c.if-byte_in.true))

pub returns-then-first-lt224 : goal.returns-then-first-lt224
returns-then-first-lt224 c = sym (ap sized (width_two _ _ c.requires c.if-first-ge-LEAST_OF_TWO.true c.if-first-lt224.true) ∙ rw (← c.byte_in.ensures, c.if-byte_in.false))

pub returns-then-first-lt224-2 : goal.returns-then-first-lt224-2
returns-then-first-lt224-2 c = elim c.then-first-lt224-2.branch [
  | then-first-lt224-2-via-then-first-lt224-2 w ↦
      let small : first c.args.s.now c.args.at < 0xC2 = elim c.else-first-ge-LEAST_OF_TWO.branch [
        | else-first-ge-LEAST_OF_TWO-via-then-first-ge-LEAST_OF_TWO+else-first-lt224 v ↦ omega (arith, v.if-first-lt224.false, w.if-first-lt224-2.true)
        | else-first-ge-LEAST_OF_TWO-via-else-first-ge-LEAST_OF_TWO v ↦ v.if-first-ge-LEAST_OF_TWO.false
      ] in
      ap sized (sym (width_none _ _ c.requires c.if-first-lt128.false small))
  | then-first-lt224-2-via-else-first-lt224-2+then-first-gt244 w ↦ ap sized (sym (width_past _ _ c.requires w.if-first-gt244.true))
]

pub returns-then-not-byte_in : goal.returns-then-not-byte_in
returns-then-not-byte_in c = let long : width (drop c.args.at c.args.s.now) ≡ pick (both c.byte_in-2.result (both (continues c.args.s.now (c.args.at + 2)) (pick (ltb (first c.args.s.now c.args.at) 0xF0) true (continues c.args.s.now (c.args.at + 3))))) (pick (ltb (first c.args.s.now c.args.at) 0xF0) 3 4) 0 = let a = c.args in
    width_long a.s.now a.at c.requires c.if-first-lt224-2.false c.if-first-gt244.false
    ∙ rw (second_told a.s.now a.at c.limit-least.ensures c.limit-most.ensures c.byte_in-2.ensures) in
    sym (ap sized long ∙ rw c.if-not-byte_in.true)

pub returns-then-not-byte_in-2 : goal.returns-then-not-byte_in-2
returns-then-not-byte_in-2 c = let long : width (drop c.args.at c.args.s.now) ≡ pick (both c.byte_in-2.result (both (continues c.args.s.now (c.args.at + 2)) (pick (ltb (first c.args.s.now c.args.at) 0xF0) true (continues c.args.s.now (c.args.at + 3))))) (pick (ltb (first c.args.s.now c.args.at) 0xF0) 3 4) 0 = let a = c.args in
    width_long a.s.now a.at c.requires c.if-first-lt224-2.false c.if-first-gt244.false
    ∙ rw (second_told a.s.now a.at c.limit-least.ensures c.limit-most.ensures c.byte_in-2.ensures) in
    sym (ap sized long ∙ rw (c.if-not-byte_in.false, ← c.byte_in-3.ensures, c.if-not-byte_in-2.true))

pub returns-then-first-lt240 : goal.returns-then-first-lt240
returns-then-first-lt240 c = let long : width (drop c.args.at c.args.s.now) ≡ pick (both c.byte_in-2.result (both (continues c.args.s.now (c.args.at + 2)) (pick (ltb (first c.args.s.now c.args.at) 0xF0) true (continues c.args.s.now (c.args.at + 3))))) (pick (ltb (first c.args.s.now c.args.at) 0xF0) 3 4) 0 = let a = c.args in
    width_long a.s.now a.at c.requires c.if-first-lt224-2.false c.if-first-gt244.false
    ∙ rw (second_told a.s.now a.at c.limit-least.ensures c.limit-most.ensures c.byte_in-2.ensures) in
    sym (ap sized long ∙ rw (c.if-not-byte_in.false, ← c.byte_in-3.ensures, c.if-not-byte_in-2.false, lt-ltb _ _ c.if-first-lt240.true))

pub returns-then-not-byte_in-3 : goal.returns-then-not-byte_in-3
returns-then-not-byte_in-3 c = let long : width (drop c.args.at c.args.s.now) ≡ pick (both c.byte_in-2.result (both (continues c.args.s.now (c.args.at + 2)) (pick (ltb (first c.args.s.now c.args.at) 0xF0) true (continues c.args.s.now (c.args.at + 3))))) (pick (ltb (first c.args.s.now c.args.at) 0xF0) 3 4) 0 = let a = c.args in
    width_long a.s.now a.at c.requires c.if-first-lt224-2.false c.if-first-gt244.false
    ∙ rw (second_told a.s.now a.at c.limit-least.ensures c.limit-most.ensures c.byte_in-2.ensures) in
    sym (ap sized long ∙ rw (c.if-not-byte_in.false, ← c.byte_in-3.ensures, c.if-not-byte_in-2.false, le-ltb _ _ c.if-first-lt240.false, ← c.byte_in-4.ensures, c.if-not-byte_in-3.true))

pub returns : goal.returns
returns c = let long : width (drop c.args.at c.args.s.now) ≡ pick (both c.byte_in-2.result (both (continues c.args.s.now (c.args.at + 2)) (pick (ltb (first c.args.s.now c.args.at) 0xF0) true (continues c.args.s.now (c.args.at + 3))))) (pick (ltb (first c.args.s.now c.args.at) 0xF0) 3 4) 0 = let a = c.args in
    width_long a.s.now a.at c.requires c.if-first-lt224-2.false c.if-first-gt244.false
    ∙ rw (second_told a.s.now a.at c.limit-least.ensures c.limit-most.ensures c.byte_in-2.ensures) in
    sym (ap sized long ∙ rw (c.if-not-byte_in.false, ← c.byte_in-3.ensures, c.if-not-byte_in-2.false, le-ltb _ _ c.if-first-lt240.false, ← c.byte_in-4.ensures, c.if-not-byte_in-3.false))
