-- `page_decoding::read::plain_out` meets its contract, at each number of bytes. Assumes nothing.
use Rattle.std.proofs.Common.{◌≡◌, ℕ, ◌*◌, List, take, sym, refl, ap, ◌∙◌, le_of_eq, arith}
use Rattle.numbers.specs.Rows.{over}
use Rattle.coding.specs.Layout.{unplain}
use Rattle.coding.proofs.Plain.{unplain_take}
use Rattle.coding.proofs.Widths.{eight_left}
use Rattle.page_decoding.proofs.read.plain_out.Goals as goal

-- the numbers of so much of a page as has them all are those of the page
same : (j k n size : ℕ) (page out : List ℕ) → k ≡ j → size ≡ n * j → over (unplain j n (take size page)) out ≡ over (unplain k n page) out
same j k n size page out e z =
    ap (λ (l : List ℕ). over l out) (unplain_take j n size page (le_of_eq (sym z)) ∙ ap (λ (m : ℕ). unplain m n page) (sym e))

pub returns-then-k-eq1 : goal.returns-then-k-eq1
returns-then-k-eq1 c = let a = c.args in
    c.numbers_out.ensures ∙ same 1 a.k a.n a.n a.page.now a.out.now c.if-k-eq1.true (omega arith)

pub returns-then-k-eq2 : goal.returns-then-k-eq2
returns-then-k-eq2 c = let a = c.args in
    c.numbers_out-then-k-eq2.ensures ∙ same 2 a.k a.n (a.n * 2) a.page.now a.out.now c.if-k-eq2.true refl

pub returns-then-k-eq4 : goal.returns-then-k-eq4
returns-then-k-eq4 c = let a = c.args in
    c.numbers_out-then-k-eq4.ensures ∙ same 4 a.k a.n (a.n * 4) a.page.now a.out.now c.if-k-eq4.true refl

pub returns-else-k-eq4 : goal.returns-else-k-eq4
returns-else-k-eq4 c = let a = c.args in
    let eight = eight_left a.k c.requires.0 c.if-k-eq1.false c.if-k-eq2.false c.if-k-eq4.false in
    c.numbers_out-else-k-eq4.ensures ∙ same 8 a.k a.n (a.n * 8) a.page.now a.out.now eight refl
