-- `page_decoding::read::number_at` meets its contract, at each number of bytes. Assumes nothing.
use Rattle.std.proofs.Common.{ℕ, sym, ap, ◌∙◌}
use Rattle.numbers.specs.Numbers.{little}
use Rattle.coding.proofs.Plain.{little_single}
use Rattle.page_decoding.proofs.read.number_at.Goals as goal

pub returns-then-k-eq1 : goal.returns-then-k-eq1
returns-then-k-eq1 c = let a = c.args in
    little_single a.at a.bytes.now ∙ ap (λ (k : ℕ). little k a.bytes.now a.at) (sym c.if-k-eq1.true)
