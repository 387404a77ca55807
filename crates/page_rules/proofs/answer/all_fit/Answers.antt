use mathlib.Core.Path.{◌≡◌, refl, sym, ◌∙◌}
use mathlib.Core.Bool.{Bool, true, false}
use Prim.Native.Nat.{ℕ, ◌+◌, ◌*◌, ◌-◌, ◌/◌, ◌%◌, ◌^◌}
use native.Mathlib.Omega.{arith}
use lib.Pow.{pow_pos}
use lib.Bits.{bit_or}
use lib.ListN.{length}
use lib.Seq.{take-length}
use lib.Dec.{ltb, leb}
use borrow.Author.Tests.{ltb-true, ltb-false, le-leb, lt-leb}
use Rattle.page_rules.proofs.Laid.{largest_is}
use Rattle.coding.specs.Layout.{FitsAs}
use Rattle.coding.proofs.Below.{joined_none, joined_more}
use Rattle.page_rules.proofs.answer.all_fit.Goals as goal

-- at most the largest number of the width, or below the next one
below_next : (w x m : ℕ) → m ≡ 2 ^ w - 1 → leb x m ≡ ltb x (2 ^ w)
below_next w x m e = go (ltb x (2 ^ w)) refl
  where
    go : (b : Bool) → ltb x (2 ^ w) ≡ b → leb x m ≡ b
    go true t =
        let h = ltb-true x (2 ^ w) t in
        le-leb x m (omega arith)
    go false t =
        let h = ltb-false x (2 ^ w) t in
        lt-leb x m (omega (arith, pow_pos w))

pub loop-g-init : goal.loop-g-init
loop-g-init c = joined_none

pub loop-g-preserved : goal.loop-g-preserved
loop-g-preserved c = let l = c.loop-g in
    joined_more (32 * l.g) 32 (32 * (l.g + 1)) l.all c.joined-all.result c.args.words.now (omega arith) l.invariant c.joined-all.ensures

pub returns : goal.returns
returns c = let w = c.args.width in
    let xs = c.args.words.now in
    let l = c.loop-g in
    let m = c.most-limit in
    let r = c.joined-all-2.result in
    let all_turns : length xs / 32 ≡ l.g = omega arith in
    let joined_all : FitsAs (bit_or l.all r) xs =
    rw (sym (take-length xs)) (joined_more (32 * (length xs / 32)) (length xs % 32) (length xs) l.all r xs (omega arith) (rw all_turns l.invariant) c.joined-all-2.ensures) in
    below_next w (bit_or l.all r) m.result (m.ensures ∙ largest_is w c.requires) ∙ joined_all w
