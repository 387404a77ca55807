use Rattle.std.proofs.Math.Nat.{div-mul-le_self}
use Rattle.std.proofs.Common.{zero-mul, add-one, suc-mul, mul-le-mul_right, ap₂, ◌/◌, ◌≡◌, ℕ, ◌+◌, ◌-◌, ◌*◌, ◌≤◌, List, length, take, drop, sym, refl, ap, ◌∙◌, arith}
use borrow.Rule.Slice.PartMut.{put_mid}
use Rattle.numbers.specs.Rows.{over}
use Rattle.page_decoding.specs.Blocks.{block_of}
use Rattle.coding.specs.Layout.{unplain}
use Rattle.coding.proofs.Plain.{plain_room, length_unplain, unplain_take}
use Rattle.page_decoding.proofs.Blocks.{Laid, laid_more, unplain_more}
use Rattle.page_decoding.proofs.read.numbers_out.Goals as goal

-- b numbers more behind the first i, so that there are n
more : (k i b n size : ℕ) (bs out₀ out new : List ℕ) → i + b ≡ n → n ≤ length out₀ → b * k ≤ size → Laid (unplain k i bs) out₀ out
    → new ≡ over (unplain k b (take size (drop (i * k) bs))) (take (length out - i) (drop i out))
    → Laid (unplain k n bs) out₀ (put_mid i (length out - i) out new)
more k i b n size bs out₀ out new total room enough h e =
    laid_more i (unplain k i bs) (unplain k b (drop (i * k) bs)) (unplain k n bs) out₀ out new (length_unplain k i bs)
    (unplain_more k i b bs ∙ ap (λ (m : ℕ). unplain k m bs) total) (omega (arith, length_unplain k n bs)) h
    (e ∙ ap (λ (l : List ℕ). over l (take (length out - i) (drop i out))) (unplain_take k b size (drop (i * k) bs) enough))

pub loop-m-init : goal.loop-m-init
unfolding unplain
loop-m-init c = rw (zero-mul (block_of c.args.k)) (refl, refl)

pub loop-m-preserved : goal.loop-m-preserved
loop-m-preserved c = let a = c.args in
    let l = c.loop-m in
    let b : ℕ = c.block_of-block.result in
    let i : ℕ = l.m * b in
    let size : ℕ = i * a.k + b * a.k - i * a.k in
    let same : block_of a.k ≡ b = sym c.block_of-block.ensures in
    let total : i + b ≡ (l.m + 1) * b = sym (ap (λ (m : ℕ). m * b) (add-one l.m) ∙ suc-mul l.m b) in
    let h : (l.m + 1) * b ≤ a.n / b * b = mul-le-mul_right b (omega arith) in
    let room : (l.m + 1) * b ≤ length a.out.now = omega (arith, h, div-mul-le_self a.n b, c.requires.1) in
    rw same
    (more a.k i b ((l.m + 1) * b) size a.bytes.now a.out.now l.out _ total room (omega arith) (rw same at l.invariant)
    (c.block_out.ensures ∙ ap (λ (m : ℕ). over (unplain a.k m (take size (drop (i * a.k) a.bytes.now))) (take (length l.out - i) (drop i l.out))) same))

pub returns : goal.returns
returns c = let a = c.args in
    let l = c.loop-m in
    let b : ℕ = c.block_of-block.result in
    let i : ℕ = a.n / b * b in
    let rest : ℕ = a.n - i in
    let all_turns : l.m ≡ a.n / b = omega arith in
    let start : l.m * block_of a.k ≡ i = ap₂ (λ (x y : ℕ). x * y) all_turns (sym c.block_of-block.ensures) in
    let within : i ≤ a.n = div-mul-le_self a.n b in
    let total : i + rest ≡ a.n = omega arith in
    let there = plain_room a.k i rest a.n (omega arith) in
    (more a.k i rest a.n (length a.bytes.now - i * a.k) a.bytes.now a.out.now l.out _ total c.requires.1 (omega (arith, there, c.requires.2)) (rw start at l.invariant) c.numbers_each.ensures).0
