use Rattle.std.proofs.Common.{◌≡◌, ℕ, ◌+◌, ◌-◌, ◌*◌, ◌/◌, ◌%◌, ◌≤◌, List, ◌++◌, length, take, drop, sym, refl, ap, ◌∙◌, zero-add, arith}
use borrow.Rule.Slice.PartMut.{put_mid}
use Rattle.numbers.specs.Rows.{over}
use Rattle.coding.specs.Layout.{unpacked}
use Rattle.coding.proofs.Bits.{length_unpacked, unpacked_more}
use Rattle.page_decoding.proofs.Blocks.{laid_more}
use Rattle.page_decoding.proofs.bit.unpack.Invariants.{Unpacked}
use Rattle.page_decoding.proofs.bit.unpack.Goals as goal

-- the bits of byte m more, as their part is lent and put back
more : (page out₀ out new : List ℕ) (m k n : ℕ) → 8 * m + k ≡ n → n ≤ length out₀ → Unpacked page out₀ (8 * m) out
    → new ≡ over (unpacked k (8 * m) page) (take (length out - 8 * m) (drop (8 * m) out))
    → Unpacked page out₀ n (put_mid (8 * m) (length out - 8 * m) out new)
more page out₀ out new m k n total room u e =
    let first : List ℕ = unpacked (8 * m) 0 page in
    let next : List ℕ = unpacked k (8 * m) page in
    let joined : first ++ next ≡ unpacked n 0 page =
    ap (λ (i : ℕ). first ++ unpacked k i page) (sym (zero-add (8 * m))) ∙ sym (unpacked_more (8 * m) k 0 page) ∙ ap (λ (i : ℕ). unpacked i 0 page) total in
    laid_more (8 * m) first next (unpacked n 0 page) out₀ out new (length_unpacked (8 * m) 0 page) joined (omega (arith, length_unpacked n 0 page)) u e

pub loop-m-init : goal.loop-m-init
unfolding unpacked
loop-m-init c = (refl, refl)

pub loop-m-preserved : goal.loop-m-preserved
loop-m-preserved c = let a = c.args in
    let l = c.loop-m in
    more a.page.now a.out.now l.out _ l.m 8 (8 * (l.m + 1)) (omega arith) (omega arith) l.invariant c.bits_out.ensures

pub returns-then-rest-gt0 : goal.returns-then-rest-gt0
returns-then-rest-gt0 c = let a = c.args in
    let l = c.loop-m in
    let all_turns : a.n / 8 ≡ l.m = omega arith in
    (more a.page.now a.out.now l.out _ (a.n / 8) (a.n % 8) a.n (omega arith) (omega arith) (rw all_turns l.invariant) c.bits_out-then-rest-gt0.ensures).0
