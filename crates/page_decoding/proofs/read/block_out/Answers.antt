-- `page_decoding::read::block_out` meets its contract. Assumes nothing.
use Rattle.std.proofs.Common.{◌≡◌, ℕ, ◌*◌, ◌≤◌, List, length, replicate, sym, ap, ◌∙◌, subst, ap₂, arith}
use Rattle.numbers.specs.Rows.{over}
use Rattle.coding.specs.Layout.{plain, unplain}
use Rattle.coding.proofs.Below.{below_all}
use Rattle.coding.proofs.Plain.{length_unplain}
use Rattle.page_decoding.proofs.Blocks.{block_one, block_more, over_all, unplain_bytes}
use Rattle.page_decoding.proofs.read.block_out.Goals as goal

-- the array of eight, which was lent, has the numbers that were read
filled : (k : ℕ) (bs eight : List ℕ) → eight ≡ over (unplain k 8 bs) (replicate 8 0) → (eight ≡ unplain k 8 bs) × (length eight ≡ 8)
filled k bs eight e =
    let long = length_unplain k 8 bs in
    let is : eight ≡ unplain k 8 bs = e ∙ over_all (unplain k 8 bs) (replicate 8 0) (omega (arith, long)) in
    (is, ap length is ∙ long)

pub returns-then-k-eq1 : goal.returns-then-k-eq1
returns-then-k-eq1 c = let bs = c.args.bytes.now in
    let t = c.if-k-eq1.true in
    let e = c.numbers_each in
    let eight = filled 2 bs e.new.out e.ensures in
    let one = block_one c.args.k t in
    let room : 16 ≤ length bs = subst (λ (m : ℕ). m ≤ length bs) (ap₂ (λ (x y : ℕ). x * y) one t) c.requires.2 in
    let octets = below_all 256 bs (λ i h. omega (arith, c.type_inv.bytes i)) in
    c.put_bytes.ensures
    ∙ ap (λ (l : List ℕ). over l c.args.out.now)
    (ap (plain 2) eight.0 ∙ unplain_bytes 8 bs room octets ∙ ap₂ (λ (k n : ℕ). unplain k n bs) (sym t) (sym one))

pub returns-else-k-eq1 : goal.returns-else-k-eq1
returns-else-k-eq1 c = let bs = c.args.bytes.now in
    let e = c.numbers_each-else-k-eq1 in
    let eight = filled c.args.k bs e.new.out e.ensures in
    let more = block_more c.args.k c.if-k-eq1.false in
    c.put_words.ensures
    ∙ ap (λ (l : List ℕ). over l c.args.out.now) (eight.0 ∙ ap (λ (n : ℕ). unplain c.args.k n bs) (sym more))
