-- `split_pages::turn::put_two_rows` meets its contract. Assumes nothing.
use Rattle.std.proofs.Common.{ℕ, ◌+◌, List, ap, ◌∙◌, ap₂}
use Rattle.coding.specs.Strides.{puts}
use Rattle.split_pages.specs.Turn.{two_rows}
use Rattle.split_pages.proofs.turn.put_two_rows.Goals as goal

pub returns : goal.returns
unfolding two_rows
returns c = let a = c.args in
    c.put_8-2.ensures
    ∙ ap₂ (λ (y : ℕ) (l : List ℕ). puts 8 y (a.at + a.n) l) c.turned_row-2.ensures
    (c.put_8.ensures
    ∙ ap (λ (y : ℕ). puts 8 y a.at a.out.now) c.turned_row.ensures)
