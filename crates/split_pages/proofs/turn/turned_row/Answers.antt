-- `split_pages::turn::turned_row` meets its contract. Assumes nothing.
use Rattle.std.proofs.Common.{ℕ, ◌/◌, ◌∙◌, ap₂}
use Rattle.split_pages.specs.Turn.{pairs, row}
use Rattle.split_pages.proofs.turn.turned_row.Goals as goal

pub returns : goal.returns
unfolding row
returns c = c.interleave.ensures ∙ ap₂ (λ (x y : ℕ). pairs (x / c.args.l) (y / c.args.l)) c.interleave_four-even.ensures c.interleave_four-odd.ensures
